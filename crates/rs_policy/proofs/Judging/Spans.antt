-- A prefix is in a range where the range's span covers it.
use Rattle.std.proofs.Common.{◌≡◌, ◌≤◌, ◌<◌, ℕ, ◌+◌, ◌-◌, ◌*◌, ◌/◌, ◌^◌, ◌==◌, ◌&&◌, nat_le, sym, ap, ◌∙◌, subst, rules, false}
use Rattle.std.proofs.Common.{Bool, ◌||◌, suc, refl, map, List, [], ◌∷◌, ◌++◌, take, length, get_or}
use Rattle.std.specs.List.{list_any}
use Rattle.std.proofs.lemmas.List.Folds.{list_any-append, list_any_more}
use Rattle.std.proofs.Math.Nat.{lt-div-mul-add, div-mul-le_self, add-mul-div_right, div-eq_of_lt}
use Rattle.std.proofs.lemmas.Nat.{pow_pos, pow_below, pow-add, mul-le, div_below}
use Rattle.std.proofs.Common.{arith, ◌%◌}
use Rattle.rs_lists.specs.declared.Span.{Span}
use Rattle.rs_lists.specs.Lists.{covers, span}
use Rattle.rs_octets.specs.Prefixes.{Prefix, IsIpv4Prefix}
use Rattle.rs_policy.specs.Verdicts.{in_range, front}
use Rattle.rs_policy.specs.declared.rules.Range.{Range}

above_low : (a b d : ℕ) → 0 < d → b / d * d ≡ b → a / d ≡ b / d → b ≤ a
above_low a b d pos whole same = subst (λ (x : ℕ). x ≤ a) (ap (λ (q : ℕ). q * d) same ∙ whole) (div-mul-le_self a d)

below_high : (a b d : ℕ) → 0 < d → b / d * d ≡ b → a / d ≡ b / d → a < b + d
below_high a b d pos whole same = subst (λ (x : ℕ). a < x + d) (ap (λ (q : ℕ). q * d) same ∙ whole) (lt-div-mul-add pos)

parts : (a b : ℕ) → b ≤ a → a ≡ (a - b) + b
parts a b low = search rules

rest_below : (a b d : ℕ) → b ≤ a → a < b + d → a - b < d
rest_below a b d low high = search rules

zero_plus : (x : ℕ) → 0 + x ≡ x
zero_plus x = search rules

fronts_same : (a b d : ℕ) → 0 < d → b / d * d ≡ b → b ≤ a → a < b + d → a / d ≡ b / d
fronts_same a b d pos whole low high =
    ap (λ (x : ℕ). x / d) (parts a b low ∙ ap (λ (x : ℕ). (a - b) + x) (sym whole))
    ∙ (add-mul-div_right (a - b) (b / d) pos ∙ ap (λ (x : ℕ). x + b / d) (div-eq_of_lt (rest_below a b d low high)) ∙ zero_plus (b / d))

decided : (f g a b d l m x r k : ℕ) → (f ≡ g → b ≤ a) → (f ≡ g → a < b + d) → (b ≤ a → a < b + d → f ≡ g) → 0 < d
    → r ≤ k → m ≤ k → (r ≤ l → m ≤ l → k ≤ l)
    → (nat_le b a && (nat_le a (b + (d - 1)) && (nat_le k l && nat_le l x))) ≡ ((nat_le r l && f == g) && (nat_le m l && nat_le l x))
decided f g a b d l m x r k p q s pos own said least = search rules

pub range_covers : (r : Range) (p : Prefix) (k t : ℕ) → 0 < 2 ^ (32 - r.prefix.len) → front r.prefix.len r.prefix.bits * 2 ^ (32 - r.prefix.len) ≡ r.prefix.bits
    → r.prefix.len ≤ k → r.min ≤ k → ((len : ℕ) → r.prefix.len ≤ len → r.min ≤ len → k ≤ len)
    → covers p.bits p.len (span r.prefix.bits (r.prefix.bits + (2 ^ (32 - r.prefix.len) - 1)) k r.max t) ≡ in_range r p
range_covers r p k t pos whole own said least =
    let d = 2 ^ (32 - r.prefix.len) in
    decided (p.bits / d) (r.prefix.bits / d) p.bits r.prefix.bits d p.len r.min r.max r.prefix.len k
    (above_low p.bits r.prefix.bits d pos whole) (below_high p.bits r.prefix.bits d pos whole) (fronts_same p.bits r.prefix.bits d pos whole) pos
    own said (least p.len)

or_false : (b : Bool) → (b || false) ≡ b
or_false b = search rules

-- one more of a list, and its span
pub one_more : {A B : Type 0} (p : B → Bool) (f : A → Bool) (spans : List B) (xs : List A) (i : ℕ) (x : A) (s : B) → i < length xs → x ≡ get_or xs i x
    → list_any p spans ≡ list_any f (take i xs) → p s ≡ f x → list_any p (spans ++ s ∷ []) ≡ list_any f (take (i + 1) xs)
one_more p f spans xs i x s within this same one =
    list_any-append p spans (s ∷ [])
    ∙ ap (λ b. list_any p spans || b) (or_false (p s) ∙ one ∙ ap f this)
    ∙ ap (λ b. b || f (get_or xs i x)) same
    ∙ sym (list_any_more f xs i x within)

-- the numbers of a prefix's addresses are numbers of 32 bits

pub size_is : (len : ℕ) → 1 * 2 ^ (32 - len) % 18446744073709551616 ≡ 2 ^ (32 - len)
size_is len = let small : 2 ^ (32 - len) < 2 ^ 64 = pow_below (32 - len) 64 (omega arith) in omega arith

pub size_some : (len : ℕ) → 0 < 2 ^ (32 - len)
size_some len = pow_pos (32 - len)

last_by : (b d q e : ℕ) → q * d ≡ b → q < e → b + d ≤ e * d
last_by b d q e whole below =
    let more : (q + 1) * d ≤ e * d = mul-le (q + 1) d e d (omega arith) (omega arith) in
    subst (λ x. x ≤ e * d) (let f : (q + 1) * d ≡ q * d + d = search rules in f ∙ ap (λ x. x + d) whole) more

pub last_fits : (b len : ℕ) → len ≤ 32 → b < 2 ^ 32 → b / 2 ^ (32 - len) * 2 ^ (32 - len) ≡ b → b + (2 ^ (32 - len) - 1) < 2 ^ 32
last_fits b len most fits whole =
    let d : ℕ = 2 ^ (32 - len) in
    let all : 2 ^ len * d ≡ 2 ^ 32 = sym (pow-add 2 len (32 - len)) ∙ ap (λ n. 2 ^ n) (let e : len + (32 - len) ≡ 32 = omega arith in e) in
    let q : b / d < 2 ^ len = div_below b d (2 ^ len) (size_some len) (subst (λ x. b < x) (sym all) fits) in
    let sum : b + d ≤ 2 ^ 32 = subst (λ x. b + d ≤ x) all (last_by b d (b / d) (2 ^ len) whole q) in
    let some : 0 < d = size_some len in
    omega arith

pub last_of : (p : Prefix) (from len : ℕ) → IsIpv4Prefix p → from ≡ p.bits → len ≡ p.len
    → from + (1 * 2 ^ (32 - len) % 18446744073709551616 - 1) < 2 ^ 32
last_of p from len h e f = rw (e, f, size_is p.len) (last_fits p.bits p.len h.1 h.0 h.2)

pub span_covers : (r : Range) (low from len k t : ℕ) (s : Span) → IsIpv4Prefix r.prefix → low ≡ r.prefix.bits → from ≡ r.prefix.bits → len ≡ r.prefix.len
    → s ≡ span low (from + (1 * 2 ^ (32 - len) % 18446744073709551616 - 1)) k r.max t
    → r.prefix.len ≤ k → r.min ≤ k → ((l : ℕ) → r.prefix.len ≤ l → r.min ≤ l → k ≤ l)
    → (p : Prefix) → covers p.bits p.len s ≡ in_range r p
span_covers r low from len k t s h a e f whole own said least p =
    rw (whole, a, e, f, size_is r.prefix.len) (range_covers r p k t (size_some r.prefix.len) h.2 own said least)

-- spans have some ranges if each has the one at its place
pub mapped_by_places : {A B : Type 0} (f : A → B) (xs : List A) (ys : List B) → length xs ≡ length ys
    → ((k : ℕ) (a : A) (b : B) → k < length xs → f (get_or xs k a) ≡ get_or ys k b) → map f xs ≡ ys
mapped_by_places f [] [] e h = refl
mapped_by_places f [] (y ∷ ys) e h = search rules
mapped_by_places f (x ∷ xs) [] e h = search rules
mapped_by_places f (x ∷ xs) (y ∷ ys) e h =
    ap (λ z. z ∷ map f xs) (h 0 x y (omega arith))
    ∙ ap (λ zs. y ∷ zs) (mapped_by_places f xs ys (omega (arith, e)) (λ k a b l. h (suc k) a b (omega (arith, l))))
