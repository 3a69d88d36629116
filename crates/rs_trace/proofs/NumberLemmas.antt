-- The value of decimal digits grows with each digit, and what spoils a number.
use Rattle.std.proofs.Common.{◌≡◌, ℕ, ◌+◌, ◌-◌, ◌*◌, ◌^◌, ◌<◌, ◌≤◌, List, [], ◌∷◌, length, take, drop, get_or, suc, refl, sym, ◌∙◌, ap, arith, true, false, ◌&&◌, Some, None, rules}
use Rattle.std.specs.Prelude.{fold, nat_lt, ◌==◌, if◌then◌else◌}
use Rattle.std.specs.List.{list_all}
use Rattle.std.proofs.lemmas.Bool.Decides.{nat_tests}
use Rattle.std.proofs.lemmas.List.Sums.{fold-append}
use Rattle.std.proofs.Math.Seq.{take-suc}
use Rattle.std.proofs.lemmas.List.{take-append-drop}
use Rattle.rs_policy.specs.Texts.{is_digit}
use Rattle.rs_trace.specs.Numbers.{value_of, number_of, has_number_length}

abbrev step : ℕ → ℕ → ℕ
step n digit = n * 10 + (digit - 48)

-- more digits make no smaller number
grows : (digits : List ℕ) (n : ℕ) → n ≤ fold step n digits
grows [] n = omega arith
grows (d ∷ digits) n = omega (arith, grows digits (step n d))

-- the value of one digit more
pub value_of-more : (text : List ℕ) (i : ℕ) (d : ℕ) → i < length text → value_of (take (i + 1) text) ≡ value_of (take i text) * 10 + (get_or text i d - 48)
value_of-more text i d h =
    let e : i + 1 ≡ suc i = omega arith in
    rw e (rw (take-suc text i d h) (fold-append step 0 (take i text) (get_or text i d ∷ [])))

-- a front's value is no greater
pub value_of-front : (text : List ℕ) (i : ℕ) → value_of (take i text) ≤ value_of text
value_of-front text i =
    let e : value_of text ≡ fold step (value_of (take i text)) (drop i text) =
    ap value_of (sym (take-append-drop i text)) ∙ fold-append step 0 (take i text) (drop i text) in
    omega (arith, e, grows (drop i text) (value_of (take i text)))

pub number_of-over : (text : List ℕ) → 2 ^ 64 ≤ value_of text → number_of text ≡ None
number_of-over text h =
    let e : nat_lt (value_of text) (2 ^ 64) ≡ false = search rules in
    rw e (elim (has_number_length text && list_all is_digit text) as (λ b. (if b && false then Some (value_of text) else None) ≡ None) [ true ↦ refl | false ↦ refl ])

pub number_of-good : (text : List ℕ) → has_number_length text ≡ true → list_all is_digit text ≡ true → value_of text < 2 ^ 64 → number_of text ≡ Some (value_of text)
number_of-good text l h v =
    let e : nat_lt (value_of text) (2 ^ 64) ≡ true = search rules in
    rw l (rw h (rw e refl))

pub has_length : (text : List ℕ) → (length text == 0) ≡ false → length text ≤ 20 → has_number_length text ≡ true
has_length text some most = grind (arith, nat_tests)
