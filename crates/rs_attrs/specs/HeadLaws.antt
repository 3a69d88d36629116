-- The laws of heads: what is read of a head's word gives the word back, and the laws of their equality, order and hash.
-- The impls of `Head` cite these.
use Rattle.std.proofs.Common.{◌≡◌, ℕ, zero, suc, ◌*◌, ◌/◌, ◌%◌, ◌^◌, ◌<◌, ◌==◌, Bool, true, false, ◌&&◌, refl, sym, ap, ◌∙◌, subst, arith}
use Rattle.std.specs.Prelude.{nat_lt}
use Rattle.std.specs.Int.{bit_at}
use Rattle.std.specs.Bool.{Decides}
use Rattle.std.specs.Cmp.{Equal-is, IsEquivalence, IsTotalOrder, first_so, second_so, decided, nat_cmp_total, bool_cmp_total, on_total, then_total, tied_itself, unsigned_Decides, booleans_Decides}
use Rattle.std.specs.Ordering.{eq_by_cmp, is_eq, ordering_then, nat_cmp, bool_cmp}
use Rattle.std.specs.declared.cmp.Ordering.{Ordering}
use Rattle.std.specs.declared.cmp.Ordering.TheVariants.{Less, Equal, Greater}
use Rattle.std.specs.FinMap.{nat_cmp-IsAntisymmetric}
use Rattle.std.proofs.Math.Nat.{div-div-eq-div-mul}
use Rattle.std.proofs.lemmas.Bool.Decides.{nat_tests, same_from_decides}
use Rattle.std.proofs.lemmas.Nat.{pow_pos}
use Rattle.std.proofs.lemmas.Nat.Bits.{and_pow, bit_at-lt}
use mathlib.Core.Bool.{beq}
use Rattle.rs_attrs.specs.Spellings.{has_flag}
use Rattle.rs_attrs.specs.Writing.{bit}
use Rattle.rs_attrs.specs.Heads.{Head, head_in, word_of, same_head, head_order, writes_of_head}

-- ---- the word

one_bit : (worth b : ℕ) → 0 < worth → b < 2 → bit 1 (nat_lt 0 (b * worth)) ≡ b
one_bit worth zero some below = grind (arith, nat_tests)
one_bit worth (suc zero) some below = grind (arith, nat_tests)
one_bit worth (suc (suc b)) some below = absurd (omega arith)

pub flag_back : (k n : ℕ) → bit 1 (has_flag (2 ^ k) n) ≡ n / 2 ^ k % 2
flag_back k n = ap (λ b. bit 1 (nat_lt 0 b)) (and_pow n k) ∙ one_bit (2 ^ k) (bit_at n k) (pow_pos k) (bit_at-lt n k)

-- the word is the one of what is read of it
pub word_back : (word : ℕ) → word_of (head_in word) ≡ word
word_back word =
    let q : ℕ = word / 2 ^ 32 in
    let second : word / 2 ^ 33 ≡ q / 2 = sym (div-div-eq-div-mul word (2 ^ 32) 2) in
    let third : word / 2 ^ 34 ≡ q / 4 = sym (div-div-eq-div-mul word (2 ^ 32) 4) in
    let fourth : word / 2 ^ 35 ≡ q / 8 = sym (div-div-eq-div-mul word (2 ^ 32) 8) in
    omega (arith, second, third, fourth, flag_back 34 word, flag_back 33 word, flag_back 32 word)

-- ---- equality

same_itself : (x : Head) → same_head x x ≡ true
same_itself x =
    λ i. (unsigned_Decides x.kind x.kind).1 refl i && ((booleans_Decides x.optional x.optional).1 refl i
    && ((booleans_Decides x.transitive x.transitive).1 refl i && ((booleans_Decides x.partial x.partial).1 refl i
    && (unsigned_Decides x.len x.len).1 refl i)))

same_from : (x y : Head) → same_head x y ≡ true → x ≡ y
same_from x y e =
    let k : Bool = x.kind == y.kind in
    let o : Bool = beq x.optional y.optional in
    let t : Bool = beq x.transitive y.transitive in
    let p : Bool = beq x.partial y.partial in
    let n : Bool = x.len == y.len in
    let flags : (o && (t && (p && n))) ≡ true = second_so k (o && (t && (p && n))) e in
    let two : (t && (p && n)) ≡ true = second_so o (t && (p && n)) flags in
    let one : (p && n) ≡ true = second_so t (p && n) two in
    let kind : x.kind ≡ y.kind = (unsigned_Decides x.kind y.kind).0 (first_so k (o && (t && (p && n))) e) in
    let optional : x.optional ≡ y.optional = (booleans_Decides x.optional y.optional).0 (first_so o (t && (p && n)) flags) in
    let transitive : x.transitive ≡ y.transitive = (booleans_Decides x.transitive y.transitive).0 (first_so t (p && n) two) in
    let partial : x.partial ≡ y.partial = (booleans_Decides x.partial y.partial).0 (first_so p n one) in
    let len : x.len ≡ y.len = (unsigned_Decides x.len y.len).0 (second_so p n one) in
    λ i. record { kind = kind i; optional = optional i; transitive = transitive i; partial = partial i; len = len i }

pub head_decides : (x y : Head) → Decides (same_head x y) (x ≡ y)
head_decides x y = (same_from x y, λ e. subst (λ z. same_head x z ≡ true) e (same_itself x))

pub same_head_equiv : IsEquivalence same_head
same_head_equiv = decided same_head head_decides

-- ---- order

pub head_order_total : IsTotalOrder head_order
head_order_total =
    then_total (on_total (λ h. h.kind) nat_cmp_total)
    (then_total (on_total (λ h. h.optional) bool_cmp_total)
    (then_total (on_total (λ h. h.transitive) bool_cmp_total)
    (then_total (on_total (λ h. h.partial) bool_cmp_total)
    (on_total (λ h. h.len) nat_cmp_total))))

pub then_first : (r s : Ordering) → ordering_then r s ≡ Equal → r ≡ Equal
then_first Less s e = cc e
then_first Equal s e = refl
then_first Greater s e = cc e

pub then_second : (r s : Ordering) → ordering_then r s ≡ Equal → s ≡ Equal
then_second Less s e = cc e
then_second Equal s e = e
then_second Greater s e = cc e

same_numbers : (x y : ℕ) → nat_cmp x y ≡ Equal → x ≡ y
same_numbers = nat_cmp-IsAntisymmetric

same_flags : (x y : Bool) → bool_cmp x y ≡ Equal → x ≡ y
same_flags true true e = refl
same_flags true false e = cc e
same_flags false true e = cc e
same_flags false false e = refl

-- heads that the order doesn't tell apart are one
pub untied_heads : (x y : Head) → head_order x y ≡ Equal → x ≡ y
untied_heads x y e =
    let kind = same_numbers x.kind y.kind (then_first (nat_cmp x.kind y.kind) _ e) in
    let flags = then_second (nat_cmp x.kind y.kind) _ e in
    let optional = same_flags x.optional y.optional (then_first (bool_cmp x.optional y.optional) _ flags) in
    let two = then_second (bool_cmp x.optional y.optional) _ flags in
    let transitive = same_flags x.transitive y.transitive (then_first (bool_cmp x.transitive y.transitive) _ two) in
    let one = then_second (bool_cmp x.transitive y.transitive) _ two in
    let partial = same_flags x.partial y.partial (then_first (bool_cmp x.partial y.partial) _ one) in
    let len = same_numbers x.len y.len (then_second (bool_cmp x.partial y.partial) _ one) in
    λ i. record { kind = kind i; optional = optional i; transitive = transitive i; partial = partial i; len = len i }

head_order_decides : (x y : Head) → Decides (is_eq (head_order x y)) (x ≡ y)
head_order_decides x y = (
  λ h. untied_heads x y ((Equal-is (head_order x y)).0 h),
  λ e. subst (λ z. is_eq (head_order x z) ≡ true) e (ap is_eq (tied_itself head_order_total x)),
)

pub head_ties : (x y : Head) → same_head x y ≡ eq_by_cmp head_order x y
head_ties x y = same_from_decides (same_head x y) (is_eq (head_order x y)) (head_decides x y) (head_order_decides x y)

-- ---- hash

pub same_head_writes : (x y : Head) → same_head x y ≡ true → writes_of_head x ≡ writes_of_head y
same_head_writes x y h = ap writes_of_head ((head_decides x y).0 h)
