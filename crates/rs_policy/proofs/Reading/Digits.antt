-- The digits of a number, one after the other.
use Rattle.std.proofs.Common.{◌≡◌, ℕ, ◌+◌, ◌-◌, ◌*◌, ◌<◌, ◌≤◌, List, [], ◌∷◌, length, get_or, drop, refl, sym, ◌∙◌, ap, arith}
use Rattle.std.proofs.Common.{Bool, true, false, nat_le, ◌&&◌, Some, None, cond}
use Rattle.std.proofs.lemmas.Bool.Decides.{nat_tests}
use Rattle.std.proofs.lemmas.List.{drop_more}
use Rattle.rs_policy.specs.Texts.{is_decimal, number_after, number_to}

-- a number is no less than its first digits
pub number_after-grows : (n : ℕ) (cs : List ℕ) → n ≤ number_after n cs
number_after-grows n [] = omega arith
number_after-grows n (c ∷ cs) = omega (arith, number_after-grows (10 * n + (c - 48)) cs)

pub number_after-digit : (n i : ℕ) (text : List ℕ) → i < length text → number_after n (drop i text) ≡ number_after (10 * n + (get_or text i 0 - 48)) (drop (i + 1) text)
number_after-digit n i text h = ap (number_after n) (drop_more text i 0 h)

if_none : {A : Type 0} (b : Bool) (x : A) → cond (b && false) (Some x) None ≡ None
if_none true x = refl
if_none false x = refl

-- a number whose first digits are too much already
pub number_to-over : (high n i : ℕ) (text : List ℕ) → i < length text → number_after n (drop i text) ≡ number_after 0 text → high < 10 * n + (get_or text i 0 - 48) → number_to high text ≡ None
unfolding number_to
number_to-over high n i text within so_far over =
    let all : ℕ = number_after 0 text in
    let last : ℕ = 10 * n + (get_or text i 0 - 48) in
    let whole : number_after last (drop (i + 1) text) ≡ number_after 0 text = sym (number_after-digit n i text within) ∙ so_far in
    let more : last ≤ number_after last (drop (i + 1) text) = number_after-grows last (drop (i + 1) text) in
    let above : high < number_after 0 text = omega arith in
    let test : nat_le (number_after 0 text) high ≡ false = grind (arith, nat_tests) in
    rw test (if_none (is_decimal text) (number_after 0 text))
