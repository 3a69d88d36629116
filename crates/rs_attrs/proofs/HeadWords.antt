-- The words that heads lie in: what is read of the word of a head is that head, and words are ordered as heads are.
use Rattle.std.proofs.Common.{◌≡◌, ℕ, suc, ◌+◌, ◌*◌, ◌/◌, ◌%◌, ◌^◌, ◌<◌, ◌≤◌, lit<, Bool, true, false, refl, sym, ap, ◌∙◌, arith}
use Rattle.std.specs.Prelude.{◌==◌}
use Rattle.std.specs.Bool.{Decides}
use Rattle.std.specs.Cmp.{unsigned_Decides, nat_cmp_is}
use Rattle.std.specs.Ordering.{nat_cmp, bool_cmp, ordering_then, MatchOrdering}
use Rattle.std.specs.declared.cmp.Ordering.{Ordering}
use Rattle.std.specs.declared.cmp.Ordering.TheVariants.{Less, Equal, Greater}
use Rattle.std.proofs.lemmas.Cmp.{ranked}
use Rattle.std.proofs.Math.Nat.{div-div-eq-div-mul, mul-le-mul_right, mod-lt}
use Rattle.std.proofs.lemmas.Bool.Decides.{same_from_decides}
use Rattle.std.proofs.lemmas.Nat.{div-mul-add, mod-mul-add}
use mir.Val.{bool_byte}
use Rattle.rs_attrs.specs.Spellings.{has_flag}
use Rattle.rs_attrs.specs.Writing.{bit}
use Rattle.rs_attrs.specs.Heads.{Head, head_in, word_of, same_head, head_order}
use Rattle.rs_attrs.specs.HeadLaws.{flag_back, word_back, head_decides}

bit_below : (b : Bool) → bit 1 b < 2
bit_below true = omega arith
bit_below false = omega arith

-- a flag is what its bit is
pub same_bit : (b c : Bool) → bit 1 b ≡ bit 1 c → b ≡ c
same_bit true true e = refl
same_bit true false e = absurd (omega arith)
same_bit false true e = absurd (omega arith)
same_bit false false e = refl

-- a flag that is the lowest bit behind k others
flag_of : (k n above : ℕ) (b : Bool) → n / 2 ^ k ≡ above * 2 + bit 1 b → has_flag (2 ^ k) n ≡ b
flag_of k n above b e = same_bit _ b (flag_back k n ∙ ap (λ m. m % 2) e ∙ mod-mul-add above 2 (bit 1 b) (bit_below b))

-- a flag as a number
pub flag_byte : (b : Bool) → bool_byte b ≡ bit 1 b
flag_byte true = refl
flag_byte false = refl

-- what is read of the word of a head is the head
pub head_back : (h : Head) → h.len < 2 ^ 32 → head_in (word_of h) ≡ h
head_back h short =
    let w : ℕ = word_of h in
    let first : w / 2 ^ 32 ≡ ((h.kind * 2 + bit 1 h.optional) * 2 + bit 1 h.transitive) * 2 + bit 1 h.partial = div-mul-add _ (2 ^ 32) h.len short in
    let second : w / 2 ^ 33 ≡ (h.kind * 2 + bit 1 h.optional) * 2 + bit 1 h.transitive = sym (div-div-eq-div-mul w (2 ^ 32) 2) ∙ ap (λ n. n / 2) first ∙ div-mul-add _ 2 (bit 1 h.partial) (bit_below h.partial) in
    let third : w / 2 ^ 34 ≡ h.kind * 2 + bit 1 h.optional = sym (div-div-eq-div-mul w (2 ^ 33) 2) ∙ ap (λ n. n / 2) second ∙ div-mul-add _ 2 (bit 1 h.transitive) (bit_below h.transitive) in
    let kind : w / 2 ^ 35 ≡ h.kind = sym (div-div-eq-div-mul w (2 ^ 34) 2) ∙ ap (λ n. n / 2) third ∙ div-mul-add _ 2 (bit 1 h.optional) (bit_below h.optional) in
    let optional = flag_of 34 w h.kind h.optional third in
    let transitive = flag_of 33 w _ h.transitive second in
    let partial = flag_of 32 w _ h.partial first in
    let len : w % 2 ^ 32 ≡ h.len = mod-mul-add _ (2 ^ 32) h.len short in
    λ i. record { kind = kind i; optional = optional i; transitive = transitive i; partial = partial i; len = len i }

-- heads are equal where their words are
pub words_equal : (v w : ℕ) → (v == w) ≡ same_head (head_in v) (head_in w)
words_equal v w = same_from_decides _ _ same (head_decides (head_in v) (head_in w))
  where
    same : Decides (v == w) (head_in v ≡ head_in w)
    same = (
      λ e. ap head_in ((unsigned_Decides v w).0 e),
      λ e. (unsigned_Decides v w).1 (sym (word_back v) ∙ ap word_of e ∙ word_back w),
    )

-- numbers of two digits are ordered by the first and then by the second
by_digits : (n a b c d : ℕ) → b < n → d < n → nat_cmp (a * n + b) (c * n + d) ≡ ordering_then (nat_cmp a c) (nat_cmp b d)
by_digits n a b c d left right = sym (each (nat_cmp a c) (nat_cmp b d) (ranked a c _ refl) (ranked b d _ refl))
  where
    each : (r s : Ordering) → MatchOrdering r (a < c) (a ≡ c) (c < a) → MatchOrdering s (b < d) (b ≡ d) (d < b) → ordering_then r s ≡ nat_cmp (a * n + b) (c * n + d)
    each Less s first second = let more : suc a * n ≤ c * n = mul-le-mul_right n first in nat_cmp_is (a * n + b) (c * n + d) Less (omega arith)
    each Equal Less first second = let same = ap (λ m. m * n) first in nat_cmp_is (a * n + b) (c * n + d) Less (omega arith)
    each Equal Equal first second = let same = ap (λ m. m * n) first in nat_cmp_is (a * n + b) (c * n + d) Equal (omega arith)
    each Equal Greater first second = let same = ap (λ m. m * n) first in nat_cmp_is (a * n + b) (c * n + d) Greater (omega arith)
    each Greater s first second = let more : suc c * n ≤ a * n = mul-le-mul_right n first in nat_cmp_is (a * n + b) (c * n + d) Greater (omega arith)

bits_ordered : (b c : Bool) → nat_cmp (bit 1 b) (bit 1 c) ≡ bool_cmp b c
bits_ordered true true = refl
bits_ordered true false = refl
bits_ordered false true = refl
bits_ordered false false = refl

then_assoc : (r s t : Ordering) → ordering_then (ordering_then r s) t ≡ ordering_then r (ordering_then s t)
then_assoc Less s t = refl
then_assoc Equal s t = refl
then_assoc Greater s t = refl

-- and words are ordered as heads are
pub words_ordered : (v w : ℕ) → nat_cmp v w ≡ head_order (head_in v) (head_in w)
words_ordered v w = (λ i. nat_cmp (sym (word_back v) i) (sym (word_back w) i)) ∙ of_heads (head_in v) (head_in w) (mod-lt v (lit< tt)) (mod-lt w (lit< tt))
  where
    flag_next : (a c : ℕ) (b d : Bool) (o : Ordering) → nat_cmp a c ≡ o → nat_cmp (a * 2 + bit 1 b) (c * 2 + bit 1 d) ≡ ordering_then o (bool_cmp b d)
    flag_next a c b d o e = by_digits 2 a (bit 1 b) c (bit 1 d) (bit_below b) (bit_below d) ∙ (λ i. ordering_then (e i) (bits_ordered b d i))

    of_heads : (x y : Head) → x.len < 2 ^ 32 → y.len < 2 ^ 32 → nat_cmp (word_of x) (word_of y) ≡ head_order x y
    of_heads x y left right =
        by_digits (2 ^ 32) _ x.len _ y.len left right
        ∙ ap (λ o. ordering_then o (nat_cmp x.len y.len)) (flag_next _ _ x.partial y.partial _ (flag_next _ _ x.transitive y.transitive _ (flag_next x.kind y.kind x.optional y.optional _ refl)))
        ∙ then_assoc (ordering_then (ordering_then (nat_cmp x.kind y.kind) (bool_cmp x.optional y.optional)) (bool_cmp x.transitive y.transitive)) (bool_cmp x.partial y.partial) (nat_cmp x.len y.len)
        ∙ then_assoc (ordering_then (nat_cmp x.kind y.kind) (bool_cmp x.optional y.optional)) (bool_cmp x.transitive y.transitive) _
        ∙ then_assoc (nat_cmp x.kind y.kind) (bool_cmp x.optional y.optional) _
