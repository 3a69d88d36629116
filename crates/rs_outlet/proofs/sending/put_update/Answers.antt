use Rattle.std.proofs.Common.{◌≡◌, ◌∙◌, ℕ, Option, None, Some, List, length, ap, arith, inl, refl, subst, sym}
use Rattle.std.specs.Prelude.{option_map}
use Rattle.std.specs.Arc.{arc_value}
use Rattle.std.proofs.lemmas.Option.{slice_get_within}
use Rattle.std.specs.List.{HoldsAt}
use Rattle.rs_rows.specs.Rows.{Row}
use Rattle.rs_outlet.specs.declared.waiting.Wait.{Wait}
use Rattle.rs_outlet.specs.Pending.Choosing.{IsLeast, IsLeastOf, NoneWithdrawn, WaitsFor}
use Rattle.rs_attrs.specs.Meaning.{Attribute}
use Rattle.rs_outlet.specs.Inside.{AreBacked, row_by}
use Rattle.rs_rows.specs.Places.{lent_row}
use Rattle.rs_outlet.specs.Pending.Slots.{AreApart, is_announced, is_withdrawn}
use Rattle.rs_outlet.proofs.Message.Chosen.{first_row, first_waits, nothing_waits}
use Rattle.rs_outlet.proofs.Message.Collected.{read_holds, there_holds}
use Rattle.rs_outlet.proofs.Message.Rising.{any_passes, none_withdrawn}
use Rattle.rs_outlet.proofs.sending.put_update.Goals as goal

pub put_gone-requires-clause-some : goal.put_gone-requires-clause-some
put_gone-requires-clause-some c = any_passes is_withdrawn c.first_withdrawn.new.self.slots.items c.args.waits.now.slots.items c.in-Some._slot c.first_withdrawn.ensures.slots c.in-Some.ensures.first

pub put_news-requires-clause-in_turn : goal.put_news-requires-clause-in_turn
put_news-requires-clause-in_turn c =
    subst NoneWithdrawn (sym (c.first_announced.ensures.slots ∙ c.first_withdrawn.ensures.slots)) (none_withdrawn c.args.waits.now.slots.items c.in_default.ensures.first)

pub row_for-requires : goal.row_for-requires
row_for-requires c =
    let found = c.in-Some-first_announced.ensures.first in
    let ws = c.first_withdrawn.new.self.slots.items in
    omega (arith, slice_get_within ws c.in-Some-first_announced.first found.0 found.1, ap length c.first_announced.ensures.slots, c.first_announced.new.self.slots.ok)

pub returns-in_default-first_announced-clause-update : goal.returns-in_default-first_announced-clause-update
returns-in_default-first_announced-clause-update c =
    inl (
      refl,
      nothing_waits c.args.waits.now.slots.items c.in_default.ensures.first
          (subst (λ (ws : List Wait). IsLeast is_announced ws None) c.first_withdrawn.ensures.slots c.in_default-first_announced.ensures.first),
    )

pub returns-in_default-row_for-clause-update : goal.returns-in_default-row_for-clause-update
returns-in_default-row_for-clause-update c =
    let ws = c.args.waits.now.slots.items in
    let n = c.in-Some-first_announced.first in
    let found : IsLeast is_announced ws (Some n) = subst (λ (xs : List Wait). IsLeast is_announced xs (Some n)) c.first_withdrawn.ensures.slots c.in-Some-first_announced.ensures.first in
    let at : HoldsAt (λ (w : Wait). None ≡ row_by c.args.rows.now.rows.items w.due) ws n =
    subst (λ (xs : List Wait). HoldsAt (λ (w : Wait). None ≡ row_by c.args.rows.now.rows.items w.due) xs n) (c.first_announced.ensures.slots ∙ c.first_withdrawn.ensures.slots) c.in_default-row_for.ensures in
    absurd (first_row c.args.rows.now.rows.items ws n found.0 c.args.waits.now.apart c.requires.backed found.1 found.2 (read_holds (λ (w : Wait). None ≡ row_by c.args.rows.now.rows.items w.due) ws n found.0 found.1 at))

-- the first slot that is to be announced waits for what its row has
first_known : (rows : List (Option Row)) (ws zs : List Wait) (n : ℕ) (lent : Option Row) (said : List Attribute) → zs ≡ ws → AreApart ws → AreBacked rows ws → IsLeast is_announced zs (Some n)
    → HoldsAt (λ (w : Wait). lent ≡ row_by rows w.due) zs n → option_map (λ (r : Row). r.attributes) lent ≡ Some said → IsLeastOf (WaitsFor rows said) is_announced zs × HoldsAt (WaitsFor rows said) zs n
first_known rows ws zs n lent said same apart backed found holds value =
    subst (λ (xs : List Wait). IsLeast is_announced xs (Some n) → HoldsAt (λ (w : Wait). lent ≡ row_by rows w.due) xs n → IsLeastOf (WaitsFor rows said) is_announced xs × HoldsAt (WaitsFor rows said) xs n) (sym same)
    (λ found holds.
    let at = read_holds (λ (w : Wait). lent ≡ row_by rows w.due) ws n found.0 found.1 holds in
    let waits = first_waits rows ws n found.0 apart backed found.1 found.2 said (sym (ap (option_map (λ (r : Row). r.attributes)) at) ∙ value) in
    ((n, found.0, found.1, waits, found.2, found.3), there_holds (WaitsFor rows said) ws n found.0 found.1 waits)) found holds

pub put_news-requires-clause-some : goal.put_news-requires-clause-some
put_news-requires-clause-some c =
    (first_known c.args.rows.now.rows.items c.args.waits.now.slots.items c.first_announced.new.self.slots.items c.in-Some-first_announced.first (option_map lent_row c.row_for.result) (arc_value c.in-Some-row_for.row.attrs.now)
    (c.first_announced.ensures.slots ∙ c.first_withdrawn.ensures.slots) c.args.waits.now.apart c.requires.backed
    (subst (λ (xs : List Wait). IsLeast is_announced xs (Some c.in-Some-first_announced.first)) (sym c.first_announced.ensures.slots) c.in-Some-first_announced.ensures.first)
    c.row_for.ensures (ap (λ o. option_map (λ (r : Row). r.attributes) (option_map lent_row o)) c.in-Some-row_for.is)).0

pub put_news-requires-clause-known : goal.put_news-requires-clause-known
put_news-requires-clause-known c =
    (first_known c.args.rows.now.rows.items c.args.waits.now.slots.items c.first_announced.new.self.slots.items c.in-Some-first_announced.first (option_map lent_row c.row_for.result) (arc_value c.in-Some-row_for.row.attrs.now)
    (c.first_announced.ensures.slots ∙ c.first_withdrawn.ensures.slots) c.args.waits.now.apart c.requires.backed
    (subst (λ (xs : List Wait). IsLeast is_announced xs (Some c.in-Some-first_announced.first)) (sym c.first_announced.ensures.slots) c.in-Some-first_announced.ensures.first)
    c.row_for.ensures (ap (λ o. option_map (λ (r : Row). r.attributes) (option_map lent_row o)) c.in-Some-row_for.is)).1
