use Rattle.std.proofs.Common.{◌≡◌, ◌∙◌, ◌==◌, ◌&&◌, true, false, not, is_some, Option, None, Some, List, [], ◌∷◌, length, refl, sym, ap, ℕ, suc, arith}
use Rattle.std.proofs.lemmas.Bool.Decides.{nat_tests}
use Rattle.std.specs.Prelude.{option_map}
use Rattle.std.specs.List.{list_any}
use Rattle.rs_attrs.specs.Meaning.{Attribute}
use Rattle.rs_outlet.specs.Decided.Due.{any_holds}
use Rattle.rs_outlet.specs.Decided.HeldBy.{held_by}
use Rattle.rs_rows.specs.declared.place.Lent.{Lent}
use Rattle.rs_rows.specs.Places.{lent_row}
use Rattle.rs_outlet.proofs.Decided.Ranks.{sent}
use Rattle.rs_outlet.proofs.turn.is_left.Goals as goal

some_lent : (r : Option Lent) → is_some r ≡ is_some (option_map lent_row r)
some_lent None = refl
some_lent (Some row) = refl

none_of : (holders : List ((ℕ × List Attribute) × ℕ)) → (length holders == 0) ≡ not (list_any (λ h. true) (sent holders))
none_of [] = refl
none_of (h ∷ holders) = more (length holders)
  where
    more : (n : ℕ) → (suc n == 0) ≡ false
    more n = grind (arith, nat_tests)

pub returns-then-is_some : goal.returns-then-is_some
returns-then-is_some c = λ p at.
    let there = sym (some_lent c.get.result ∙ ap is_some c.get.ensures) ∙ sym c.is_some.ensures ∙ c.if-is_some.true in
    c.is_empty.ensures ∙ none_of c.at_number.result ∙ ap (λ hs. not (list_any (λ h. true) hs)) (c.at_number.ensures.holders p at).all
    ∙ sym (ap (λ b. b && not (any_holds (held_by c.args.sources.now) p)) there)

pub returns-else-is_some : goal.returns-else-is_some
returns-else-is_some c = λ p at.
    let there = sym (some_lent c.get.result ∙ ap is_some c.get.ensures) ∙ sym c.is_some.ensures ∙ c.if-is_some.false in
    c.if-is_some.false ∙ sym (ap (λ b. b && not (any_holds (held_by c.args.sources.now) p)) there)
