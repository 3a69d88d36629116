-- Where an octet was found, or was not.
use Rattle.std.proofs.Common.{◌≡◌, ℕ, ◌+◌, ◌-◌, ◌≤◌, Bool, true, false, List, [], length, take, drop, Option, Some, None, cond, ltb, refl, sym, ap, ◌∙◌, arith}
use Rattle.std.proofs.lemmas.List.{take_all, drop_all}
use Rattle.std.proofs.lemmas.Grind.{common_steps}

at_place : (b : Bool) (n at : ℕ) (r : Option ℕ) → r ≡ cond b (Some n) None → r ≡ Some at → at ≡ n
at_place true n at r e f = cc
at_place false n at r e f = cc

at_none : (b : Bool) (n : ℕ) (r : Option ℕ) → r ≡ cond b (Some n) None → r ≡ None → b ≡ false
at_none true n r e f = cc
at_none false n r e f = refl

not_less : (n m : ℕ) → ltb n m ≡ false → m ≤ n
not_less n m h = grind (arith, common_steps)

-- what stands before the place that was found
pub before : (n at : ℕ) (octets front : List ℕ) (r : Option ℕ) → r ≡ cond (ltb n (length octets)) (Some n) None → r ≡ Some at → front ≡ take at octets → front ≡ take n octets
before n at octets front r e f g = g ∙ ap (λ m. take m octets) (at_place (ltb n (length octets)) n at r e f)

rest_fits : (at : ℕ) (octets : List ℕ) → length (drop (at + 1) octets) ≤ length octets - (at + 1)
rest_fits at octets = grind (arith, common_steps)

-- what stands behind it, up to the end
pub behind : (n at : ℕ) (octets : List ℕ) (r : Option ℕ) → r ≡ cond (ltb n (length octets)) (Some n) None → r ≡ Some at → take (length octets - (at + 1)) (drop (at + 1) octets) ≡ drop (n + 1) octets
behind n at octets r e f = take_all (length octets - (at + 1)) (drop (at + 1) octets) (rest_fits at octets) ∙ ap (λ m. drop (m + 1) octets) (at_place (ltb n (length octets)) n at r e f)

-- all, where nothing was found
pub all_before : (n : ℕ) (octets : List ℕ) (r : Option ℕ) → r ≡ cond (ltb n (length octets)) (Some n) None → r ≡ None → octets ≡ take n octets
all_before n octets r e f = sym (take_all n octets (not_less n (length octets) (at_none (ltb n (length octets)) n r e f)))

longer : (n m : ℕ) → m ≤ n → m ≤ n + 1
longer n m h = omega arith

-- and nothing behind
pub none_behind : (n : ℕ) (octets : List ℕ) (r : Option ℕ) → r ≡ cond (ltb n (length octets)) (Some n) None → r ≡ None → [] ≡ drop (n + 1) octets
none_behind n octets r e f = sym (drop_all (n + 1) octets (longer n (length octets) (not_less n (length octets) (at_none (ltb n (length octets)) n r e f))))
