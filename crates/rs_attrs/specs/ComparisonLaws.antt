-- The laws of equality, order and hash of attributes. The impls of `Attrs` cite these.
use Rattle.std.proofs.Common.{◌≡◌, ℕ, List, [], ◌∷◌, ◌++◌, length, refl, ap, ◌==◌, true, Bool, ◌&&◌, subst, arith, bytes_eq}
use Rattle.std.specs.Bool.{Decides}
use Rattle.std.specs.Cmp.{Equal-is, IsEquivalence, IsTotalOrder, first_so, second_so, decided, on_total, then_total, tied_itself, unsigned_Decides, booleans_Decides}
use Rattle.std.specs.Cmp.Lexicographic.{lists_total, nat_list_cmp_total, pointwise_decides, bytes_decides, slice_cmp}
use Rattle.std.specs.Ordering.{eq_by_cmp, is_eq, nat_cmp}
use Rattle.std.specs.declared.cmp.Ordering.TheVariants.{Equal}
use Rattle.std.specs.FinMap.{nat_cmp-IsAntisymmetric, slice_cmp-IsAntisymmetric}
use Rattle.std.proofs.lemmas.Bool.Decides.{same_from_decides}
use mathlib.Core.Bool.{beq}
use Rattle.rs_attrs.specs.Meaning.{Attribute}
use Rattle.rs_attrs.specs.Heads.{Head}
use Rattle.rs_attrs.specs.HeadLaws.{head_order_total, then_first, then_second, untied_heads}
use Rattle.rs_attrs.specs.Comparing.{same_attribute, same_attributes, octets_of, head_cmp, attributes_cmp, attributes_writes}

same_itself : (a : Attribute) → same_attribute a a ≡ true
same_itself a =
    λ i. (unsigned_Decides a.kind a.kind).1 refl i && (booleans_Decides a.optional a.optional).1 refl i
    && (booleans_Decides a.transitive a.transitive).1 refl i && (booleans_Decides a.partial a.partial).1 refl i
    && (bytes_decides a.value a.value).1 refl i

same_from : (a b : Attribute) → same_attribute a b ≡ true → a ≡ b
same_from a b h =
    let k : Bool = a.kind == b.kind in
    let o : Bool = beq a.optional b.optional in
    let t : Bool = beq a.transitive b.transitive in
    let p : Bool = beq a.partial b.partial in
    let v : Bool = bytes_eq a.value b.value in
    let flags : (k && o && t && p) ≡ true = first_so (k && o && t && p) v h in
    let two : (k && o && t) ≡ true = first_so (k && o && t) p flags in
    let one : (k && o) ≡ true = first_so (k && o) t two in
    let kind : a.kind ≡ b.kind = (unsigned_Decides a.kind b.kind).0 (first_so k o one) in
    let optional : a.optional ≡ b.optional = (booleans_Decides a.optional b.optional).0 (second_so k o one) in
    let transitive : a.transitive ≡ b.transitive = (booleans_Decides a.transitive b.transitive).0 (second_so (k && o) t two) in
    let partial : a.partial ≡ b.partial = (booleans_Decides a.partial b.partial).0 (second_so (k && o && t) p flags) in
    let value : a.value ≡ b.value = (bytes_decides a.value b.value).0 (second_so (k && o && t && p) v h) in
    λ i. record { kind = kind i; optional = optional i; transitive = transitive i; partial = partial i; value = value i }

pub attribute_decides : (a b : Attribute) → Decides (same_attribute a b) (a ≡ b)
attribute_decides a b = (same_from a b, λ e. subst (λ x. same_attribute a x ≡ true) e (same_itself a))

-- equality decides that two maps are one
pub attributes_decides : (m n : List Attribute) → Decides (same_attributes m n) (m ≡ n)
attributes_decides m n = pointwise_decides attribute_decides m n

pub same_attributes_equiv : IsEquivalence same_attributes
same_attributes_equiv = decided same_attributes attributes_decides

abbrev pub head_of : Attribute → Head
head_of a = record { kind = a.kind; optional = a.optional; transitive = a.transitive; partial = a.partial; len = length a.value }

pub head_cmp_total : IsTotalOrder head_cmp
head_cmp_total = on_total head_of head_order_total

pub attributes_cmp_total : IsTotalOrder attributes_cmp
attributes_cmp_total = then_total (lists_total head_cmp_total) (on_total octets_of nat_list_cmp_total)

same_octets : (xs ys : List ℕ) → slice_cmp nat_cmp xs ys ≡ Equal → xs ≡ ys
same_octets = slice_cmp-IsAntisymmetric nat_cmp-IsAntisymmetric

-- two fronts as long as each other
same_parts : (xs ys vs ws : List ℕ) → length xs ≡ length ys → xs ++ vs ≡ ys ++ ws → (xs ≡ ys) × (vs ≡ ws)
same_parts [] [] vs ws n e = (refl, e)
same_parts [] (y ∷ ys) vs ws n e = absurd (omega arith)
same_parts (x ∷ xs) [] vs ws n e = absurd (omega arith)
same_parts (x ∷ xs) (y ∷ ys) vs ws n e =
    let head : x ≡ y = cc e in
    let tail : xs ++ vs ≡ ys ++ ws = cc e in
    let more = same_parts xs ys vs ws (omega arith) tail in
    (λ i. head i ∷ more.0 i, more.1)

untied : (m n : List Attribute) → slice_cmp head_cmp m n ≡ Equal → octets_of m ≡ octets_of n → m ≡ n
untied [] [] e o = refl
untied [] (b ∷ n) e o = cc e
untied (a ∷ m) [] e o = cc e
untied (a ∷ m) (b ∷ n) e o =
    let heads = untied_heads (head_of a) (head_of b) (then_first (head_cmp a b) (slice_cmp head_cmp m n) e) in
    let parts = same_parts a.value b.value (octets_of m) (octets_of n) (ap (λ h. h.len) heads) o in
    let others = untied m n (then_second (head_cmp a b) (slice_cmp head_cmp m n) e) parts.1 in
    λ i. record { kind = (heads i).kind; optional = (heads i).optional; transitive = (heads i).transitive; partial = (heads i).partial; value = parts.0 i } ∷ others i

-- the order tells any two maps apart
pub attributes_cmp_decides : (m n : List Attribute) → Decides (is_eq (attributes_cmp m n)) (m ≡ n)
attributes_cmp_decides m n = (
  λ h. let level = (Equal-is (attributes_cmp m n)).0 h in
      untied m n (then_first (slice_cmp head_cmp m n) _ level) (same_octets (octets_of m) (octets_of n) (then_second (slice_cmp head_cmp m n) _ level)),
  λ e. subst (λ x. is_eq (attributes_cmp m x) ≡ true) e (ap is_eq (tied_itself attributes_cmp_total m)),
)

pub attributes_ties : (m n : List Attribute) → same_attributes m n ≡ eq_by_cmp attributes_cmp m n
attributes_ties m n = same_from_decides (same_attributes m n) (is_eq (attributes_cmp m n)) (attributes_decides m n) (attributes_cmp_decides m n)

pub same_attributes_writes : (m n : List Attribute) → same_attributes m n ≡ true → attributes_writes m ≡ attributes_writes n
same_attributes_writes m n h = ap attributes_writes ((attributes_decides m n).0 h)
