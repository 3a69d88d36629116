-- An operator's text at the front of a piece.
use Rattle.std.proofs.Common.{◌≡◌, ℕ, ◌≤◌, ◌<◌, Bool, true, false, min, List, length, take, refl, sym, ap, ◌∙◌, arith, Option, Some, None}
use Rattle.std.specs.Prelude.{nat_le, option_map}
use Rattle.std.specs.Option.{option_and_then}
use Rattle.std.proofs.lemmas.List.{take_all}
use Rattle.std.proofs.lemmas.Bool.Decides.{nat_tests}
use Rattle.rs_open.specs.Notes.{shutdown_text}
use Rattle.rs_trace.specs.Trace.{text_of, operator_text}

pub least : (size : ℕ) (piece : List ℕ) → length piece ≡ 4096 → take (min size 4096) piece ≡ take size piece
least size piece is = by_test (nat_le size 4096) refl where
  by_test : (b : Bool) → nat_le size 4096 ≡ b → take (min size 4096) piece ≡ take size piece
  by_test true e =
      let le : size ≤ 4096 = grind (arith, nat_tests) in
      let same : min size 4096 ≡ size = omega (arith, le) in
      ap (λ n. take n piece) same
  by_test false e =
      let lt : 4096 < size = grind (arith, nat_tests) in
      let same : min size 4096 ≡ 4096 = omega (arith, lt) in
      ap (λ n. take n piece) same ∙ take_all 4096 piece (omega (arith, is)) ∙ sym (take_all size piece (omega (arith, is, lt)))

pub no_text_read : (piece digits : List ℕ) (found : Option ℕ) → found ≡ None → option_map (λ n. take n piece) found ≡ text_of digits → None ≡ operator_text digits
no_text_read piece digits found e is = ap (λ x. option_and_then shutdown_text (option_map (λ n. take n piece) x)) (sym e) ∙ ap (option_and_then shutdown_text) is

pub text_read : (piece digits : List ℕ) (found : Option ℕ) (size : ℕ) → found ≡ Some size → option_map (λ n. take n piece) found ≡ text_of digits → shutdown_text (take size piece) ≡ operator_text digits
text_read piece digits found size e is = ap (λ x. option_and_then shutdown_text (option_map (λ n. take n piece) x)) (sym e) ∙ ap (option_and_then shutdown_text) is
