use Rattle.std.proofs.Common.{◌≡◌, ◌∙◌, ℕ, Some, None, cond, refl, rules, sym, ap, subst, arith}
use Rattle.std.specs.List.{list_any}
use Rattle.rs_octets.specs.Prefixes.{Prefix}
use Rattle.rs_adjin.specs.AdjIns.{number_of}
use Rattle.rs_outlet.specs.Pending.Slots.{open_at, withdrawn_count}
use Rattle.rs_outlet.specs.Inside.{loc_of, numbers_from, view_of}
use Rattle.rs_outlet.specs.Pending.Choosing.{AreChosen}
use Rattle.rs_outlet.proofs.Decided.LocByNumber.{same}
use Rattle.rs_outlet.proofs.Decided.Numbering.{all_front}
use Rattle.rs_outlet.proofs.Message.Ranges.{from_start}
use Rattle.rs_outlet.proofs.Message.Beginning.{backed_left, update_seen}
use Rattle.rs_outlet.proofs.Pending.Unchanged.{backed_same, marked_same, told_same, waits_same}
use Rattle.rs_outlet.proofs.outlet.Outlet.begin_update.Goals as goal

pub returns-clause-begins : goal.returns-clause-begins
returns-clause-begins c = λ spoken e.
    let a = c.self.inside in
    let rows = a.rows.rows.items in
    let was = a.waits.slots.items in
    let ws = c.prepare.new.self.slots.items in
    let is = c.prepare.ensures.slots in
    update_seen c.args.speech spoken (view_of a) c.args.self.now _ rows ws c.give_up.new.self.slots.items c.self.view_is (sym c.requires ∙ e)
    (record { loc = refl; told = sym (told_same (loc_of rows) was ws is); marked = sym (marked_same (loc_of rows) was ws is); waits = sym (waits_same (loc_of rows) was ws is); numbers = λ ins h. all_front (λ (e : ℕ × Prefix). number_of ins e.1 ≡ Some e.0) (numbers_from 0 rows) _ h })
    (record { loc = refl; told = refl; marked = refl; waits = refl; numbers = λ ins h. all_front (λ (e : ℕ × Prefix). number_of ins e.1 ≡ Some e.0) (numbers_from 0 rows) _ h })
    c.put_update-packed.new.batch.chosen.items c.put_update-packed.new.batch.front.items c.put_update-packed.new.out.items c.put_update-packed.result
    c.put_update-packed.ensures.update c.put_update-packed.ensures.most
    (from_start c.put_update-packed.new.out.items c.put_update-packed.result.octets)
    (λ said qs are q.
    c.give_up.ensures.slots rows said qs
    (subst (λ ws. AreChosen rows ws said c.deref.result.now qs) (sym c.put_update-packed.ensures.slots)
    (subst (λ ns. AreChosen rows c.prepare.new.self.slots.items said ns qs) (sym (c.deref.ensures.value ∙ c.truncate.ensures.items)) are)) q
    ∙ ap (λ ws. cond (list_any (same q) qs) None (open_at q ws)) c.put_update-packed.ensures.slots)
    (backed_same rows was ws is c.self.invariant.backed)

pub prepare-requires-clause-backed : goal.prepare-requires-clause-backed
prepare-requires-clause-backed c = c.self.invariant.backed

pub prepare-requires-clause-chained : goal.prepare-requires-clause-chained
prepare-requires-clause-chained c = c.self.invariant.chained

pub put_update-packed-requires-clause-backed : goal.put_update-packed-requires-clause-backed
put_update-packed-requires-clause-backed c = backed_same c.self.inside.rows.rows.items c.self.inside.waits.slots.items c.prepare.new.self.slots.items c.prepare.ensures.slots c.self.invariant.backed

pub invariant_of-self : goal.invariant_of-self
invariant_of-self c =
    let a = c.self.inside in
    let rows = a.rows.rows.items in
    let kept = c.self.invariant in
    record {
      octets = search rules;
      started = search rules;
      ended = search rules;
      slots = omega (arith, kept.slots, c.give_up.ensures.withdrawn, c.give_up.ensures.capacity, ap withdrawn_count c.put_update-packed.ensures.slots, c.put_update-packed.ensures.capacity, c.prepare.ensures.withdrawn, c.prepare.ensures.capacity);
      extended = kept.extended;
      backed = backed_left c.args.speech rows c.prepare.new.self.slots.items c.give_up.new.self.slots.items c.put_update-packed.new.batch.chosen.items c.put_update-packed.new.batch.front.items c.put_update-packed.new.out.items c.put_update-packed.result
          c.put_update-packed.ensures.update
          (λ said qs are q.
          c.give_up.ensures.slots rows said qs
          (subst (λ ws. AreChosen rows ws said c.deref.result.now qs) (sym c.put_update-packed.ensures.slots)
          (subst (λ ns. AreChosen rows c.prepare.new.self.slots.items said ns qs) (sym (c.deref.ensures.value ∙ c.truncate.ensures.items)) are)) q
          ∙ ap (λ ws. cond (list_any (same q) qs) None (open_at q ws)) c.put_update-packed.ensures.slots)
          (backed_same rows a.waits.slots.items c.prepare.new.self.slots.items c.prepare.ensures.slots kept.backed);
      chained = c.give_up.ensures.chained rows c.put_update-packed.ensures.chained;
      fit = kept.fit;
      asked = λ is. cc is;
    }
