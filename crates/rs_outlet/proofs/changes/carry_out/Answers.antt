use Rattle.std.proofs.Common.{◌≡◌, ◌<◌, ◌∙◌, ap, cond, option_map, length, None, Some, IfSome, sym, subst, arith, rules}
use Rattle.std.specs.FinMap as fin
use Rattle.std.specs.Arc.{arc_value}
use Rattle.std.proofs.lemmas.Option.{same_Some}
use Rattle.rs_outlet.specs.Views.{HaveNumbers}
use Rattle.rs_outlet.specs.Inside.{FitsAlone, RowsFit, numbers_from, loc_of, prefix_and_hash, row_at}
use Rattle.rs_outlet.proofs.Pending.Backing.{announced_backed, closed_backed, fit_set, other_row, this_row, written_chained}
use Rattle.rs_outlet.proofs.Decided.Numbering.{numbers_write, numbers_erase}
use Rattle.rs_outlet.proofs.Decided.LocByNumber.{same, same_itself, numbered, loc_set}
use Rattle.rs_outlet.specs.Pending.Slots.{open_at}
use Rattle.rs_outlet.proofs.OneOf.{cond_twice}
use Rattle.rs_adjin.specs.AdjIns.{number_of}
use Rattle.rs_rows.specs.Rows.{Row}
use Rattle.rs_outlet.proofs.Pending.Withdrawals.{announced_listed, free_row, withdrawn_listed}
use Rattle.rs_outlet.proofs.changes.carry_out.Goals as goal

pub returns-in-None-clause-loc : goal.returns-in-None-clause-loc
returns-in-None-clause-loc c = λ ins is h q.
    let rows = c.args.rows.now.rows.items in
    let below : c.args.change.number < length rows = c.requires.number in
    ap (λ xs. fin.get (loc_of xs) q) c.take-was.ensures.rows
    ∙ loc_set ins rows c.args.change.number None below c.args.change.prefix (numbered ins rows h) is (λ r e. cc e) q
    ∙ ap (λ o. cond (same q c.args.change.prefix) (option_map arc_value o) (fin.get (loc_of rows) q)) (sym c.in-None.is)

pub returns-in-Some-clause-loc : goal.returns-in-Some-clause-loc
returns-in-Some-clause-loc c = λ ins is h q.
    let rows = c.args.rows.now.rows.items in
    let n = c.args.change.number in
    let p = c.args.change.prefix in
    let mid = c.take-was.new.self.rows.items in
    let below : n < length rows = c.requires.number in
    let again : n < length mid = omega (arith, c.requires.number, c.take-was.ensures.room) in
    let kept : HaveNumbers (numbers_from 0 mid) ins = subst (λ xs. HaveNumbers (numbers_from 0 xs) ins) (sym c.take-was.ensures.rows) (numbers_erase ins rows n h) in
    let erased = ap (λ xs. fin.get (loc_of xs) q) c.take-was.ensures.rows ∙ loc_set ins rows n None below p (numbered ins rows h) is (λ r e. cc e) q in
    ap (λ xs. fin.get (loc_of xs) q) c.put.ensures.rows
    ∙ loc_set ins mid n _ again p (numbered ins mid kept) is (λ r e. ap (λ (t : Row). number_of ins t.prefix) (sym (same_Some _ r e)) ∙ is) q
    ∙ ap (cond (same q p) _) erased
    ∙ cond_twice (same q p) _ _ _
    ∙ ap (λ o. cond (same q p) (option_map arc_value o) (fin.get (loc_of rows) q)) (sym c.in-Some.is)

pub returns-in-None-clause-numbered : goal.returns-in-None-clause-numbered
returns-in-None-clause-numbered c = λ ins is h.
    subst (λ xs. HaveNumbers (numbers_from 0 xs) ins) (sym c.take-was.ensures.rows) (numbers_erase ins c.args.rows.now.rows.items c.args.change.number h)

pub returns-in-Some-clause-numbered : goal.returns-in-Some-clause-numbered
returns-in-Some-clause-numbered c = λ ins is h.
    subst (λ xs. HaveNumbers (numbers_from 0 xs) ins) (sym c.put.ensures.rows)
    (numbers_write ins _ c.args.change.number _ (subst (λ xs. HaveNumbers (numbers_from 0 xs) ins) (sym c.take-was.ensures.rows) (numbers_erase ins c.args.rows.now.rows.items c.args.change.number h)) is)

pub put-requires-clause-free : goal.put-requires-clause-free
put-requires-clause-free c = free_row c.args.rows.now.rows.items c.take-was.new.self.rows.items c.args.change.number c.take-was.ensures.rows

pub returns-in-None-clause-most : goal.returns-in-None-clause-most
returns-in-None-clause-most c =
    let listed = withdrawn_listed c.args.fresh.now.items _ _ c.list_wait.ensures.items in
    omega (arith, listed, c.take-was.ensures.used, c.take_told-told.ensures.withdrawn)

pub returns-in-Some-clause-most : goal.returns-in-Some-clause-most
returns-in-Some-clause-most c =
    let listed = announced_listed c.args.fresh.now.items _ _ _ _ c.announced_wait.ensures.due c.list_wait-in-Some.ensures.items in
    omega (arith, listed, c.take-was.ensures.used, c.take_told-told.ensures.withdrawn, c.put.ensures.used)

pub returns-in-None-clause-others : goal.returns-in-None-clause-others
returns-in-None-clause-others c = λ m ne.
    let rows = c.args.rows.now.rows.items in
    ap (λ xs. row_at xs m) c.take-was.ensures.rows ∙ other_row rows c.args.change.number None m ne

pub returns-in-Some-clause-others : goal.returns-in-Some-clause-others
returns-in-Some-clause-others c = λ m ne.
    ap (λ xs. row_at xs m) c.put.ensures.rows ∙ other_row c.take-was.new.self.rows.items c.args.change.number _ m ne
    ∙ ap (λ xs. row_at xs m) c.take-was.ensures.rows ∙ other_row c.args.rows.now.rows.items c.args.change.number None m ne

pub returns-in-None-clause-fit : goal.returns-in-None-clause-fit
returns-in-None-clause-fit c = λ speech new fit.
    let rows = c.args.rows.now.rows.items in
    let below : c.args.change.number < length rows = c.requires.number in
    subst (RowsFit speech) (sym c.take-was.ensures.rows) (fit_set rows c.args.change.number None speech below (λ r e. cc) fit)

pub returns-in-Some-clause-fit : goal.returns-in-Some-clause-fit
returns-in-Some-clause-fit c = λ speech new fit.
    let rows = c.args.rows.now.rows.items in
    let n = c.args.change.number in
    let mid = c.take-was.new.self.rows.items in
    let p = c.args.change.prefix in
    let below : n < length rows = c.requires.number in
    let again : n < length mid = omega (arith, c.requires.number, c.take-was.ensures.room) in
    let due : FitsAlone speech p (arc_value c.in-Some.due) = subst (λ o. IfSome o (λ attrs. FitsAlone speech p (arc_value attrs))) c.in-Some.is new in
    subst (RowsFit speech) (sym c.put.ensures.rows)
    (fit_set mid n _ speech again (λ r e. subst (λ (t : Row). FitsAlone speech t.prefix t.attributes) (same_Some _ r e) due)
    (subst (RowsFit speech) (sym c.take-was.ensures.rows) (fit_set rows n None speech below (λ r e. absurd (let f : None ≡ Some r = e in cc)) fit)))

pub returns-in-None-clause-chained : goal.returns-in-None-clause-chained
returns-in-None-clause-chained c = λ backed chained.
    let rows = c.args.rows.now.rows.items in
    let n = c.args.change.number in
    let p = c.args.change.prefix in
    let waits = c.take_told-told.new.self in
    let closed = c.take_told-told.ensures.slots in
    written_chained rows c.take-was.new.self.rows.items waits.slots.items n p waits.apart (closed_backed rows c.args.waits.now.slots.items waits.slots.items p closed backed)
    c.requires.own (closed p ∙ ap (λ b. cond b None (open_at p c.args.waits.now.slots.items)) (same_itself p))
    (λ m ne. ap (λ xs. row_at xs m) c.take-was.ensures.rows ∙ other_row rows n None m ne)
    waits.sorted waits.chains.items (c.take_told-told.ensures.chained rows chained)

pub returns-in-Some-clause-chained : goal.returns-in-Some-clause-chained
returns-in-Some-clause-chained c = λ backed chained.
    let rows = c.args.rows.now.rows.items in
    let n = c.args.change.number in
    let p = c.args.change.prefix in
    let waits = c.take_told-told.new.self in
    let closed = c.take_told-told.ensures.slots in
    written_chained rows c.put.new.self.rows.items waits.slots.items n p waits.apart (closed_backed rows c.args.waits.now.slots.items waits.slots.items p closed backed)
    c.requires.own (closed p ∙ ap (λ b. cond b None (open_at p c.args.waits.now.slots.items)) (same_itself p))
    (λ m ne.
    ap (λ xs. row_at xs m) c.put.ensures.rows ∙ other_row c.take-was.new.self.rows.items n _ m ne
    ∙ ap (λ xs. row_at xs m) c.take-was.ensures.rows ∙ other_row rows n None m ne)
    waits.sorted waits.chains.items (c.take_told-told.ensures.chained rows chained)

pub returns-in-Some-clause-waits : goal.returns-in-Some-clause-waits
returns-in-Some-clause-waits c =
    let n = c.args.change.number in
    let mid = c.take-was.new.self.rows.items in
    let again : n < length mid = omega (arith, c.requires.number, c.take-was.ensures.room) in
    record {
      wait = c.announced_wait.result;
      owed = search rules;
      slot = c.announced_wait.ensures.slot;
      backed = announced_backed _ c.announced_wait.result c.args.change.prefix n _ c.announced_wait.ensures.slot c.announced_wait.ensures.due
          (ap (λ xs. option_map prefix_and_hash (row_at xs n)) c.put.ensures.rows ∙ ap (option_map prefix_and_hash) (this_row mid n _ again));
      added = c.list_wait-in-Some.ensures.items;
      closed = c.take_told-told.ensures.slots;
    }
