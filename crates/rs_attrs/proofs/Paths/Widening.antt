-- Segments put behind one another, with AS numbers in four octets.
use Rattle.std.proofs.Common.{◌≡◌, ℕ, zero, suc, ◌*◌, ◌<◌, ◌≤◌, List, [], ◌∷◌, ◌++◌, length, take, drop, get_or, refl, sym, ap, ◌∙◌, arith, append_assoc}
use Rattle.std.specs.Prelude.{Result, Ok, Err, OnOk}
use Rattle.std.specs.List.{flat_map}
use Rattle.std.specs.Int.{w16, w32, from_be_bytes}
use Rattle.std.proofs.lemmas.Nat.{be_bytes_4}
use Rattle.std.proofs.lemmas.List.{append-nil}
use Rattle.rs_attrs.specs.Paths.{two_octets, four_octets, number_octets, pairs, segment_octets}
use Rattle.rs_attrs.proofs.Paths.PathLength.{numbers_count}

-- ---- numbers

abbrev pub widened : List ℕ → List ℕ
widened octets = flat_map (number_octets four_octets) (pairs octets)

four_fit : (a b : ℕ) → a < 256 → b < 256 → (i : ℕ) → get_or (0 ∷ 0 ∷ a ∷ b ∷ []) i 0 < 256
four_fit a b p q zero = omega arith
four_fit a b p q (suc zero) = omega arith
four_fit a b p q (suc (suc zero)) = p
four_fit a b p q (suc (suc (suc zero))) = q
four_fit a b p q (suc (suc (suc (suc i)))) = omega arith

pub widened_step : (octets : List ℕ) → 2 ≤ length octets → ((i : ℕ) → get_or octets i 0 < 256) → widened octets ≡ (0 ∷ 0 ∷ get_or octets 0 0 ∷ get_or octets 1 0 ∷ []) ++ widened (drop 2 octets)
widened_step [] h fits = absurd (omega arith)
widened_step (a ∷ []) h fits = absurd (omega arith)
widened_step (a ∷ b ∷ octets) h fits =
    let same : from_be_bytes w16 (a ∷ b ∷ []) ≡ from_be_bytes w32 (0 ∷ 0 ∷ a ∷ b ∷ []) = omega arith in
    ap (λ front. front ++ widened octets) (be_bytes_4 (0 ∷ 0 ∷ a ∷ b ∷ []) (from_be_bytes w16 (a ∷ b ∷ [])) refl (four_fit a b (fits 0) (fits 1)) same)

pub widened_none : (octets : List ℕ) → length octets < 2 → widened octets ≡ []
widened_none [] h = refl
widened_none (a ∷ []) h = refl
widened_none (a ∷ b ∷ octets) h = absurd (omega arith)

-- what is put so far, and what is left of the numbers
pub record Widening (old numbers values rest : List ℕ) : Type 0 where
  pub whole : old ++ widened numbers ≡ values ++ widened rest

pub widening_step : (old numbers values values' rest rest' number : List ℕ) → Widening old numbers values rest → 2 ≤ length rest → ((i : ℕ) → get_or rest i 0 < 256)
    → number ≡ take 2 rest → rest' ≡ drop 2 rest → values' ≡ values ++ (0 ∷ 0 ∷ get_or number 0 0 ∷ get_or number 1 0 ∷ []) → Widening old numbers values' rest'
widening_step old numbers values values' rest rest' number had h fits number_is rest_is values_is =
    let here : 0 ∷ 0 ∷ get_or rest 0 0 ∷ get_or rest 1 0 ∷ [] ≡ 0 ∷ 0 ∷ get_or number 0 0 ∷ get_or number 1 0 ∷ [] = two_of rest number h number_is in
    record {
      whole = had.whole ∙ ap (λ octets. values ++ octets) (widened_step rest h fits)
          ∙ (λ i. values ++ (here i ++ widened (sym rest_is i)))
          ∙ sym (append_assoc values (0 ∷ 0 ∷ get_or number 0 0 ∷ get_or number 1 0 ∷ []) (widened rest'))
          ∙ ap (λ values. values ++ widened rest') (sym values_is);
    }
  where
    two_of : (rest number : List ℕ) → 2 ≤ length rest → number ≡ take 2 rest → 0 ∷ 0 ∷ get_or rest 0 0 ∷ get_or rest 1 0 ∷ [] ≡ 0 ∷ 0 ∷ get_or number 0 0 ∷ get_or number 1 0 ∷ []
    two_of [] number h e = absurd (omega arith)
    two_of (a ∷ []) number h e = absurd (omega arith)
    two_of (a ∷ b ∷ rest) number h e = λ i. 0 ∷ 0 ∷ get_or (sym e i) 0 0 ∷ get_or (sym e i) 1 0 ∷ []

pub widening_end : (old numbers values rest : List ℕ) → Widening old numbers values rest → length rest < 2 → values ≡ old ++ widened numbers
widening_end old numbers values rest had h = sym (had.whole ∙ ap (λ octets. values ++ octets) (widened_none rest h) ∙ append-nil values)

-- a segment of so many numbers
pub widened_segment : (old numbers after values : List ℕ) (kind count : ℕ) → length numbers ≡ 2 * count → after ≡ old ++ kind ∷ count ∷ [] → values ≡ after ++ widened numbers
    → values ≡ old ++ segment_octets four_octets (record { kind = kind; numbers = pairs numbers })
widened_segment old numbers after values kind count size after_is values_is =
    let count_is : count ≡ length (pairs numbers) = sym (numbers_count two_octets count numbers size) in
    values_is ∙ ap (λ after. after ++ widened numbers) after_is ∙ append_assoc old (kind ∷ count ∷ []) (widened numbers)
    ∙ ap (λ count. old ++ kind ∷ count ∷ widened numbers) count_is

-- what holds where a call is well holds of more
pub on_ok : {T E : Type 0} (r : Result T E) (P Q : Type 0) → (P → Q) → OnOk r P → OnOk r Q
on_ok (Ok x) P Q f p = f p
on_ok (Err e) P Q f p = p
