use Rattle.std.proofs.Common.{◌≡◌, ◌<◌, ◌∙◌, ◌++◌, ◌∷◌, ℕ, [], Option, Some, List, length, get_or, true, false, ◌&&◌, refl, rules, sym, ap, append-nil}
use Rattle.std.specs.List.{HoldsAt}
use Rattle.std.proofs.lemmas.Option.{slice_get_read}
use Rattle.rs_attrs.specs.Meaning.{Attribute}
use Rattle.rs_octets.specs.Prefixes.{Prefix}
use Rattle.rs_rows.specs.Rows.{Row}
use Rattle.rs_outlet.specs.declared.waiting.Wait.{Wait}
use Rattle.rs_outlet.specs.Pending.Choosing.{passing, shares}
use Rattle.rs_outlet.specs.Inside.{row_by, shown}
use Rattle.rs_outlet.specs.Message.Next.{has_attributes}
use Rattle.rs_outlet.proofs.Message.Chosen.{chosen_announced}
use Rattle.rs_outlet.proofs.Pending.Apart.{found_apart}
use Rattle.rs_outlet.proofs.Message.Fullest.{at_slot, passing_none, passing_one}
use Rattle.rs_outlet.proofs.waiting.Waits.list_announced.Goals as goal

pub returns-clause-waits : goal.returns-clause-waits
returns-clause-waits c = λ _.
    at_slot (λ (w : Wait). (w.open ≡ true) × (shown (row_by c.args.rows.now.rows.items w.due) ≡ Some c.args.attrs.now)) c.args.self.now.slots.items c.args.slot c.index-wait.result.now (search rules) c.index-wait.ensures
    (c.if-not-wait.false, c.waits_for.ensures.due c.if-not-waits_for.false)

pub returns-clause-are : goal.returns-clause-are
returns-clause-are c = λ are.
    c.list_slot.ensures.are c.args.rows.now.rows.items c.args.self.now.slots.items (Some c.args.attrs.now) are
    (chosen_announced c.args.rows.now.rows.items c.args.self.now.slots.items c.args.slot c.index-wait.result.now c.args.attrs.now c.args.self.now.apart (search rules) c.index-wait.ensures c.len-len.ensures.prefix c.if-not-wait.false (c.waits_for.ensures.said c.if-not-waits_for.false) (c.waits_for.ensures.row c.if-not-waits_for.false))

pub returns-clause-all : goal.returns-clause-all
returns-clause-all c =
    let w = c.index-wait.result.now in
    let rows = c.args.rows.now.rows.items in
    let m = c.args.attrs.now in
    at_slot (λ (w : Wait). c.list_slot.new.front.items ≡ c.args.front.now.items ++ passing (shares rows m) (w ∷ [])) c.args.self.now.slots.items c.args.slot w (search rules) c.index-wait.ensures
    (c.list_slot.ensures.prefix
    ∙ ap (λ (ps : List Prefix). c.args.front.now.items ++ ps) (sym (passing_one (shares rows m) w
    (ap (λ b. b && has_attributes (shown (row_by rows w.due)) m) c.if-not-wait.false ∙ sym c.waits_for.ensures.just ∙ c.if-not-waits_for.false))))

-- a slot that nothing is listed of
none_listed : (rows : List (Option Row)) (m : List Attribute) (ws : List Wait) (n : ℕ) (w : Wait) (ps : List Prefix) → n < length ws → w ≡ get_or ws n w → shares rows m w ≡ false → HoldsAt (λ w. ps ≡ ps ++ passing (shares rows m) (w ∷ [])) ws n
none_listed rows m ws n w ps below is none =
    at_slot (λ (w : Wait). ps ≡ ps ++ passing (shares rows m) (w ∷ [])) ws n w below is
    (sym (append-nil ps) ∙ ap (λ (qs : List Prefix). ps ++ qs) (sym (passing_none (shares rows m) w none)))

pub returns-then-not-wait-clause-all : goal.returns-then-not-wait-clause-all
returns-then-not-wait-clause-all c =
    let w = c.index-wait.result.now in
    let rows = c.args.rows.now.rows.items in
    none_listed rows c.args.attrs.now c.args.self.now.slots.items c.args.slot w c.args.front.now.items (search rules) c.index-wait.ensures
    (ap (λ o. o && has_attributes (shown (row_by rows w.due)) c.args.attrs.now) c.if-not-wait.true)

pub returns-then-not-waits_for-clause-all : goal.returns-then-not-waits_for-clause-all
returns-then-not-waits_for-clause-all c =
    let w = c.index-wait.result.now in
    let rows = c.args.rows.now.rows.items in
    none_listed rows c.args.attrs.now c.args.self.now.slots.items c.args.slot w c.args.front.now.items (search rules) c.index-wait.ensures
    (ap (λ o. o && has_attributes (shown (row_by rows w.due)) c.args.attrs.now) c.if-not-wait.false ∙ sym c.waits_for.ensures.just ∙ c.if-not-waits_for.true)

-- an open slot has its row
pub waits_for-requires-clause-backed : goal.waits_for-requires-clause-backed
waits_for-requires-clause-backed c =
    let ws = c.args.self.now.slots.items in
    let w = c.index-wait.result.now in
    c.requires.backed w.prefix w (found_apart ws c.args.slot w c.args.self.now.apart (slice_get_read ws (length ws) c.args.slot w refl (search rules) c.index-wait.ensures) c.if-not-wait.false)
