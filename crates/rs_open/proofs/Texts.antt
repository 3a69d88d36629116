-- Texts of UTF-8, with zeros behind them.
use Rattle.std.proofs.Common.{◌≡◌, ℕ, ◌-◌, ◌≤◌, min, Bool, true, false, List, ◌++◌, length, take, drop, Some, None, refl, sym, ap, ◌∙◌, arith, if◌then◌else◌}
use Rattle.std.specs.Prelude.{◌&&◌, nat_le, IsUtf8, replicate}
use Rattle.std.specs.Str.{is_utf8}
use Rattle.std.proofs.lemmas.List.{drop-replicate}
use Rattle.std.proofs.Math.Seq.{take-append_seam}
use Rattle.std.proofs.lemmas.Bool.Decides.{nat_tests}
use Rattle.rs_open.specs.declared.shutdown.ShutdownText.{ShutdownText}
use Rattle.rs_open.specs.Notes.{shutdown_text, text_octets}
use Rattle.std.proofs.lemmas.Str.{IsUtf8-from_is_utf8, is_utf8-from_IsUtf8}

pub utf8_tested : (octets : List ℕ) → IsUtf8 octets → is_utf8 octets ≡ true
utf8_tested octets is = is_utf8-from_IsUtf8 octets is

pub utf8_refuted : (octets : List ℕ) → (IsUtf8 octets → ⊥) → is_utf8 octets ≡ false
utf8_refuted octets not = by_test (is_utf8 octets) refl where
  by_test : (b : Bool) → is_utf8 octets ≡ b → b ≡ false
  by_test false e = refl
  by_test true e = absurd (not (IsUtf8-from_is_utf8 octets e))

pub zeros_behind : (text new : List ℕ) → new ≡ text → new ++ drop (length text) (replicate 128 0) ≡ text ++ replicate (128 - length text) 0
zeros_behind text new e = ap (λ xs. xs ++ drop (length text) (replicate 128 0)) e ∙ ap (λ xs. text ++ xs) (drop-replicate (length text) 128 0)

-- its octets are those of which it was made
pub text_kept : (octets : List ℕ) (text : ShutdownText) → shutdown_text octets ≡ Some text → text_octets text ≡ octets
text_kept octets text e = by_test (nat_le (length octets) 128) refl (is_utf8 octets) e where
  made : ShutdownText
  made = record { octets = octets ++ replicate (128 - length octets) 0; count = length octets }

  fits : nat_le (length octets) 128 ≡ true → length octets ≤ 128
  fits h = grind (arith, nat_tests)

  front : length octets ≤ 128 → text_octets made ≡ octets
  front le =
      let all : min (length octets) 128 ≡ length octets = omega (arith, le) in
      ap (λ n. take n (octets ++ replicate (128 - length octets) 0)) all ∙ take-append_seam octets (replicate (128 - length octets) 0)

  by_test : (few : Bool) → nat_le (length octets) 128 ≡ few → (utf8 : Bool) → (if few && utf8 then Some made else None) ≡ Some text → text_octets text ≡ octets
  by_test true h true e = let same : made ≡ text = cc in ap text_octets (sym same) ∙ front (fits h)
  by_test true h false e = cc
  by_test false h utf8 e = cc
