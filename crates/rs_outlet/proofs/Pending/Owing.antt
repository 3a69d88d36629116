-- What is owed at one prefix, and how it changes as something else becomes due.
use Rattle.std.proofs.Common.{◌≡◌, Bool, true, false, cond, not, ◌&&◌, Option, None, Some, List, refl, sym, ap, ◌∙◌}
use Rattle.std.specs.Prelude.{is_some}
use mathlib.Core.Bool.{true≢false}
use Rattle.std.proofs.Math.Bool.{and-false}
use Rattle.rs_attrs.specs.Meaning.{Attribute}
use Rattle.rs_attrs.specs.Comparing.{same_attributes}
use Rattle.rs_attrs.specs.ComparisonLaws.{attributes_decides, same_attributes_equiv}
use Rattle.rs_outlet.specs.Views.{waits_at}
use Rattle.rs_outlet.specs.Pending.Owed.{IsBeside, IsOwed}

-- ---- what was told beside what is due

of_not : (b r c : Bool) → r ≡ not b → r ≡ c → b ≡ not c
of_not true r true e f = absurd (true≢false (sym f ∙ e))
of_not true r false e f = refl
of_not false r true e f = refl
of_not false r false e f = absurd (true≢false (sym e ∙ f))

module _ (o : Option (List Attribute)) (told due : List Attribute) (marked differ : Bool) (is : o ≡ Some told) (tells : differ ≡ not (same_attributes told due)) where
  pub beside_other : differ ≡ true → (Some told ≡ o) × (waits_at (Some due) o (marked && is_some o) ≡ Some false)
  beside_other t = (
    sym is,
    ap (λ o. waits_at (Some due) o (marked && is_some o)) is
        ∙ ap (λ b. cond (b && not (marked && true)) None (Some false)) (same_attributes_equiv.symm due told ∙ of_not (same_attributes told due) differ true tells t),
  )

  equal : differ ≡ false → told ≡ due
  equal f = (attributes_decides told due).0 (of_not (same_attributes told due) differ false tells f)

  pub beside_marked : differ ≡ false → marked ≡ true → (Some due ≡ o) × (waits_at (Some due) o (marked && is_some o) ≡ Some false)
  beside_marked f t = (
    sym (is ∙ ap (λ m. Some m) (equal f)),
    (λ i. waits_at (Some due) (is i) (t i && is_some (is i)))
        ∙ ap (λ b. cond b None (Some false)) (and-false (same_attributes due told)),
  )

  pub beside_same : differ ≡ false → marked ≡ false → (o ≡ Some due) × (marked ≡ false)
  beside_same f g = (is ∙ ap (λ m. Some m) (equal f), g)

-- ---- what waits then

pub owed_nothing : (due : List Attribute) (told : Option (List Attribute)) (marked : Bool) → IsBeside None due told marked → IsOwed None (Some due) told marked
owed_nothing due told marked is = record {
  tells = sym is.0;
  marks = ap (λ b. b && is_some told) (sym is.1);
  exact = ap (λ b. cond (b && true) None (Some false)) (sym ((attributes_decides due due).1 refl));
}
