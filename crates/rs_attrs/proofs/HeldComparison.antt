-- Attributes are equal where their heads and the octets of their values are, and go by the order of these.
use Rattle.std.proofs.Common.{◌≡◌, ℕ, suc, ◌&&◌, List, [], ◌∷◌, ◌++◌, length, take, drop, map, refl, sym, ap, ◌∙◌, arith, length-drop, nat_eq}
use Rattle.std.specs.Bool.{Decides}
use Rattle.std.specs.List.{flat_map}
use Rattle.std.specs.Cmp.{first_so, second_so}
use Rattle.std.specs.Cmp.Lexicographic.{pointwise, slice_cmp, pointwise_decides, bytes_decides}
use Rattle.std.specs.Ordering.{nat_cmp, ordering_then}
use Rattle.std.specs.Hash as fed
use Rattle.std.proofs.lemmas.List.{length-take-le, take-append-drop}
use Rattle.rs_attrs.specs.Heads.{Head, same_head, head_order, writes_of_head}
use Rattle.rs_attrs.specs.HeadLaws.{head_decides}
use Rattle.rs_attrs.specs.ComparisonLaws.{head_of}
use Rattle.rs_attrs.specs.Meaning.{Attribute}
use Rattle.rs_attrs.specs.Held.{attributes_in, values_size}
use Rattle.rs_attrs.specs.Comparing.{octets_of, head_cmp, attributes_cmp, head_writes, attributes_writes}

-- what is held gives its heads back, since each head has the length of its value
pub heads_back : (heads : List Head) (values : List ℕ) → values_size heads ≡ length values → map head_of (attributes_in heads values) ≡ heads
heads_back [] values e = refl
heads_back (h ∷ heads) values e =
    let here : length (take h.len values) ≡ h.len = length-take-le h.len values (omega arith) in
    let others = heads_back heads (drop h.len values) (omega (arith, length-drop h.len values)) in
    λ i. record h { len = here i } ∷ others i

-- and the octets of its values
pub octets_back : (heads : List Head) (values : List ℕ) → values_size heads ≡ length values → octets_of (attributes_in heads values) ≡ values
octets_back [] [] e = refl
octets_back [] (x ∷ values) e = absurd (omega arith)
octets_back (h ∷ heads) values e =
    let others = octets_back heads (drop h.len values) (omega (arith, length-drop h.len values)) in
    ap (λ rest. take h.len values ++ rest) others ∙ take-append-drop h.len values

-- equal heads and equal octets decide that two maps are one
pub held_decides : (g h : List Head) (v w : List ℕ) (m n : List Attribute) → values_size g ≡ length v → values_size h ≡ length w → attributes_in g v ≡ m → attributes_in h w ≡ n → Decides (pointwise same_head g h && pointwise nat_eq v w) (m ≡ n)
held_decides g h v w m n left right is_m is_n = (
  λ e.
      let heads : g ≡ h = (pointwise_decides head_decides g h).0 (first_so (pointwise same_head g h) (pointwise nat_eq v w) e) in
      let octets : v ≡ w = (bytes_decides v w).0 (second_so (pointwise same_head g h) (pointwise nat_eq v w) e) in
      sym is_m ∙ (λ i. attributes_in (heads i) (octets i)) ∙ is_n,
  λ e.
      let same : attributes_in g v ≡ attributes_in h w = is_m ∙ e ∙ sym is_n in
      let heads : g ≡ h = sym (heads_back g v left) ∙ ap (map head_of) same ∙ heads_back h w right in
      let octets : v ≡ w = sym (octets_back g v left) ∙ ap octets_of same ∙ octets_back h w right in
      λ i. (pointwise_decides head_decides g h).1 heads i && (bytes_decides v w).1 octets i,
)

-- ---- order

order_of_heads : (m n : List Attribute) → slice_cmp head_cmp m n ≡ slice_cmp head_order (map head_of m) (map head_of n)
order_of_heads [] [] = refl
order_of_heads [] (b ∷ n) = refl
order_of_heads (a ∷ m) [] = refl
order_of_heads (a ∷ m) (b ∷ n) = ap (ordering_then (head_cmp a b)) (order_of_heads m n)

pub held_order : (g h : List Head) (v w : List ℕ) (m n : List Attribute) → values_size g ≡ length v → values_size h ≡ length w → attributes_in g v ≡ m → attributes_in h w ≡ n → ordering_then (slice_cmp head_order g h) (slice_cmp nat_cmp v w) ≡ attributes_cmp m n
held_order g h v w m n left right is_m is_n =
    (λ i. ordering_then (slice_cmp head_order (sym (heads_back g v left) i) (sym (heads_back h w right) i)) (slice_cmp nat_cmp (sym (octets_back g v left) i) (sym (octets_back h w right) i)))
    ∙ ap (λ o. ordering_then o (slice_cmp nat_cmp (octets_of (attributes_in g v)) (octets_of (attributes_in h w)))) (sym (order_of_heads (attributes_in g v) (attributes_in h w)))
    ∙ (λ i. attributes_cmp (is_m i) (is_n i))

-- ---- hash

writes_of_heads : (m : List Attribute) → fed.slice head_writes m ≡ fed.slice writes_of_head (map head_of m)
writes_of_heads m = λ i. fed.usize (length-map-sym m i) ++ each m i
  where
    length-map-sym : (m : List Attribute) → length m ≡ length (map head_of m)
    length-map-sym [] = refl
    length-map-sym (a ∷ m) = ap suc (length-map-sym m)

    each : (m : List Attribute) → flat_map head_writes m ≡ flat_map writes_of_head (map head_of m)
    each [] = refl
    each (a ∷ m) = ap (λ ws. head_writes a ++ ws) (each m)

pub held_writes : (g : List Head) (v : List ℕ) (m : List Attribute) → values_size g ≡ length v → attributes_in g v ≡ m → fed.slice writes_of_head g ++ v ∷ [] ≡ attributes_writes m
held_writes g v m size is_m =
    (λ i. fed.slice writes_of_head (sym (heads_back g v size) i) ++ sym (octets_back g v size) i ∷ [])
    ∙ ap (λ ws. ws ++ octets_of (attributes_in g v) ∷ []) (sym (writes_of_heads (attributes_in g v)))
    ∙ ap attributes_writes is_m
