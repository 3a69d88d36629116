-- A field of prefixes reads in one way, and what prefixes spell is read again.
use Rattle.std.proofs.Common.{◌≡◌, ◌≤◌, ℕ, zero, suc, Bool, true, false, cond, List, [], ◌∷◌, ◌++◌, length, map, take, drop, refl, sym, ap, subst, ◌∙◌, arith, nat_lt, length-append, append_assoc}
use Rattle.std.specs.Prelude.{Result, Ok, Err}
use Rattle.std.specs.List.{flat_map, AllByRecursion}
use Rattle.std.specs.Int.{w32, to_be_bytes}
use Rattle.std.proofs.Math.Seq.{drop-nil}
use Rattle.std.proofs.lemmas.Bool.{ltb-true, ltb-false}
use Rattle.std.proofs.lemmas.List.{length-take-le, take-append-drop}
use Rattle.rs_octets.specs.declared.prefix.FieldFault.{FieldFault}
use Rattle.rs_octets.specs.declared.prefix.FieldFault.TheVariants.{TooLong, Cut}
use Rattle.rs_octets.specs.Prefixes.{Prefix, IsIpv4Prefix, octet_count}
use Rattle.rs_octets.specs.PrefixFields.{SpeltPrefix, IsSpeltPrefix, spelt_octets, ReadsPrefixes, field_fault_of, prefix_at, prefix_octets, prefixes_behind, prefixes_of}
use Rattle.rs_octets.specs.Parts.{BeginsNone, IsPrefixFree}
use Rattle.rs_octets.proofs.Masked.{back}
use Rattle.rs_octets.proofs.OneWay.{one_more, one_way, same_fronts}

-- what the walk reads at a length, by its two tests
abbrev read_by : Bool → Bool → Prefix → List (Result Prefix FieldFault) → List (Result Prefix FieldFault)
read_by long cut p others = cond long (Err TooLong ∷ []) (cond cut (Err Cut ∷ []) (Ok p ∷ others))

-- a prefix that is found stands there
abbrev at_front : ℕ → List ℕ → SpeltPrefix
at_front len octets = record { len = len; address = take (octet_count len) octets }

stands_is : (len : ℕ) (octets : List ℕ) → nat_lt 32 len ≡ false → nat_lt (length octets) (octet_count len) ≡ false → IsSpeltPrefix (at_front len octets)
stands_is len octets p q = (ltb-false _ _ p, length-take-le (octet_count len) octets (ltb-false _ _ q))

-- a length over 32, and too few octets, begin no prefix
too_long_stops : (len : ℕ) (octets : List ℕ) → nat_lt 32 len ≡ true → BeginsNone spelt_octets IsSpeltPrefix (len ∷ octets)
too_long_stops len octets e s after is here =
    let same : s.len ≡ len = cc in
    absurd (omega (arith, is.0, ltb-true _ _ e))

cut_stops : (len : ℕ) (octets : List ℕ) → nat_lt (length octets) (octet_count len) ≡ true → BeginsNone spelt_octets IsSpeltPrefix (len ∷ octets)
cut_stops len octets e s after is here =
    let same : s.len ≡ len = cc in
    let behind : octets ≡ s.address ++ after = cc in
    absurd (omega (arith, is.1, ap octet_count same, ap length behind, length-append s.address after, ltb-true _ _ e))

-- and there is one reading
reads_behind : (octets : List ℕ) (n : ℕ) → ReadsPrefixes (drop n octets) (prefixes_behind n octets)
reads_behind [] n =
    let P : List ℕ → Type 0 = λ octets. ReadsPrefixes octets [] in
    subst P (sym (drop-nil n)) (record { spelt = []; rest = []; split = record { whole = refl; each = tt; stops = λ s after is here. cc }; are = refl })
reads_behind (len ∷ octets) (suc n) = reads_behind octets n
reads_behind (len ∷ octets) zero = by_tests (reads_behind octets (octet_count len)) (nat_lt 32 len) (nat_lt (length octets) (octet_count len)) refl refl
  where
    count : ℕ
    count = octet_count len

    others : List (Result Prefix FieldFault)
    others = prefixes_behind (octet_count len) octets

    p : Prefix
    p = prefix_at len (take (octet_count len) octets)

    by_tests : ReadsPrefixes (drop (octet_count len) octets) others
        → (long cut : Bool) → nat_lt 32 len ≡ long → nat_lt (length octets) (octet_count len) ≡ cut → ReadsPrefixes (len ∷ octets) (read_by long cut p others)
    by_tests later true cut e f = record {
      spelt = [];
      rest = len ∷ octets;
      split = record { whole = refl; each = tt; stops = too_long_stops len octets e };
      are = ap (λ long. Err (cond long TooLong Cut) ∷ []) (sym e);
    }
    by_tests later false true e f = record {
      spelt = [];
      rest = len ∷ octets;
      split = record { whole = refl; each = tt; stops = cut_stops len octets f };
      are = ap (λ long. Err (cond long TooLong Cut) ∷ []) (sym e);
    }
    by_tests later false false e f = record {
      spelt = at_front len octets ∷ later.spelt;
      rest = later.rest;
      split = record {
        whole = ap (λ xs. len ∷ xs) (sym (take-append-drop (octet_count len) octets) ∙ ap (λ xs. take (octet_count len) octets ++ xs) later.split.whole
            ∙ sym (append_assoc (take (octet_count len) octets) _ _));
        each = (stands_is len octets e f, later.split.each);
        stops = later.split.stops;
      };
      are = ap (λ xs. Ok p ∷ xs) later.are;
    }

pub reads_of : (field : List ℕ) → ReadsPrefixes field (prefixes_of field)
reads_of field = reads_behind field 0

-- a prefix is no front of another, since its length gives the number of its octets
prefixes_apart : IsPrefixFree spelt_octets IsSpeltPrefix
prefixes_apart a b x y is other e =
    let len : a.len ≡ b.len = cc in
    let parts = same_fronts a.address b.address x y (is.1 ∙ ap octet_count len ∙ sym other.1) cc in
    ((λ i. record { len = len i; address = parts.0 i }), parts.1)

-- so there is no other reading
pub reads_only : (field : List ℕ) (read : List (Result Prefix FieldFault)) → ReadsPrefixes field read → read ≡ prefixes_of field
reads_only field read reads =
    let computed = reads_of field in
    let only = one_way spelt_octets IsSpeltPrefix prefixes_apart field reads.spelt computed.spelt reads.rest computed.rest reads.split computed.split in
    reads.are ∙ (λ i. map (λ s. Ok (prefix_at s.len s.address)) (only.0 i) ++ field_fault_of (only.1 i)) ∙ sym computed.are

-- ---- what prefixes spell

prefix_back : (p : Prefix) → IsIpv4Prefix p → prefix_at p.len (take (octet_count p.len) (to_be_bytes w32 p.bits)) ≡ p
prefix_back p is = let bits = back p.len p.bits is.1 is.2 is.0 in λ i. record { bits = bits i; len = p.len }

read_back : (ps : List Prefix) → AllByRecursion IsIpv4Prefix ps → ReadsPrefixes (flat_map prefix_octets ps) (map Ok ps)
read_back [] is = record { spelt = []; rest = []; split = record { whole = refl; each = tt; stops = λ s after is here. cc }; are = refl }
read_back (p ∷ ps) is =
    let later = read_back ps is.1 in
    let address : List ℕ = take (octet_count p.len) (to_be_bytes w32 p.bits) in
    let len : p.len ≤ 32 = is.0.1 in
    let s : SpeltPrefix = record { len = p.len; address = address } in
    let size : length address ≡ octet_count p.len = length-take-le (octet_count p.len) (to_be_bytes w32 p.bits) (omega arith) in
    record {
      spelt = s ∷ later.spelt;
      rest = later.rest;
      split = one_more spelt_octets IsSpeltPrefix s (flat_map prefix_octets ps) later.spelt later.rest (len, size) later.split;
      are = λ i. Ok (sym (prefix_back p is.0) i) ∷ later.are i;
    }

-- a field that spells prefixes holds just these
pub prefixes_read_back : (ps : List Prefix) → AllByRecursion IsIpv4Prefix ps → prefixes_of (flat_map prefix_octets ps) ≡ map Ok ps
prefixes_read_back ps is = sym (reads_only (flat_map prefix_octets ps) (map Ok ps) (read_back ps is))
