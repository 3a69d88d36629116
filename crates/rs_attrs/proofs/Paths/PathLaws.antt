-- A path's spelling reads back, and what is read is spelt so.
use Rattle.std.proofs.Common.{◌≡◌, ℕ, zero, suc, ◌*◌, ◌^◌, ◌<◌, ◌≤◌, ◌&&◌, Bool, true, false, cond, List, [], ◌∷◌, ◌++◌, length, take, drop, get_or, Option, Some, None, refl, sym, ap, subst, ◌∙◌, arith, nat_lt, length-append}
use Rattle.std.specs.Prelude.{nat_le}
use Rattle.std.specs.List.{flat_map, AllByRecursion}
use Rattle.std.specs.Int.{w16, w32, from_be_bytes}
use Rattle.std.proofs.lemmas.Nat.{be_bytes_2, be_bytes_4, from_be_bytes-to_be_bytes_2, from_be_bytes-to_be_bytes_4}
use Rattle.std.proofs.lemmas.Bool.{ltb-true, lt-ltb, le-leb, leb-true}
use Rattle.std.proofs.lemmas.List.{take-append-drop, length-take-le}
use Rattle.std.proofs.Math.Seq.{take-append_seam, drop-append_seam, drop-nil}
use Rattle.rs_attrs.specs.Spellings.{AreOctets}
use Rattle.rs_attrs.specs.Paths.{Segment, AsSize, two_octets, four_octets, octets_each, number_octets, path_octets, IsSegment, IsPath, pairs, quads, numbers_in, begins_segment, with_front, segments_behind, segments_of}

-- ---- numbers

pub numbers_back : (size : AsSize) (ns : List ℕ) → AllByRecursion (λ n. n < 256 ^ octets_each size) ns → numbers_in size (flat_map (number_octets size) ns) ≡ ns
numbers_back two_octets [] fit = refl
numbers_back two_octets (n ∷ ns) fit = λ i. from_be_bytes-to_be_bytes_2 n fit.0 i ∷ numbers_back two_octets ns fit.1 i
numbers_back four_octets [] fit = refl
numbers_back four_octets (n ∷ ns) fit = λ i. from_be_bytes-to_be_bytes_4 n fit.0 i ∷ numbers_back four_octets ns fit.1 i

pub numbers_size : (size : AsSize) (ns : List ℕ) → length (flat_map (number_octets size) ns) ≡ octets_each size * length ns
numbers_size two_octets [] = refl
numbers_size two_octets (n ∷ ns) = let more = numbers_size two_octets ns in omega arith
numbers_size four_octets [] = refl
numbers_size four_octets (n ∷ ns) = let more = numbers_size four_octets ns in omega arith

two_fit : (a b : ℕ) → a < 256 → b < 256 → (i : ℕ) → get_or (a ∷ b ∷ []) i 0 < 256
two_fit a b p q zero = p
two_fit a b p q (suc zero) = q
two_fit a b p q (suc (suc i)) = omega arith

four_fit : (a b c d : ℕ) → a < 256 → b < 256 → c < 256 → d < 256 → (i : ℕ) → get_or (a ∷ b ∷ c ∷ d ∷ []) i 0 < 256
four_fit a b c d p q r s zero = p
four_fit a b c d p q r s (suc zero) = q
four_fit a b c d p q r s (suc (suc zero)) = r
four_fit a b c d p q r s (suc (suc (suc zero))) = s
four_fit a b c d p q r s (suc (suc (suc (suc i)))) = omega arith

-- the octets are those of so many numbers
pub record AreNumbers (size : AsSize) (count : ℕ) (octets numbers : List ℕ) : Type 0 where
  pub count_is : length numbers ≡ count
  pub octets_are : flat_map (number_octets size) numbers ≡ octets
  pub fit : AllByRecursion (λ n. n < 256 ^ octets_each size) numbers

pairs_found : (count : ℕ) (octets : List ℕ) → AreOctets octets → length octets ≡ 2 * count → AreNumbers two_octets count octets (pairs octets)
pairs_found count [] are size = record { count_is = omega arith; octets_are = refl; fit = tt }
pairs_found count (a ∷ []) are size = absurd (omega arith)
pairs_found zero (a ∷ b ∷ octets) are size = absurd (omega arith)
pairs_found (suc count) (a ∷ b ∷ octets) are size =
    let others = pairs_found count octets are.1.1 (omega arith) in
    let back = be_bytes_2 (a ∷ b ∷ []) (from_be_bytes w16 (a ∷ b ∷ [])) refl (two_fit a b are.0 are.1.0) refl in
    record {
      count_is = ap suc others.count_is;
      octets_are = λ i. back i ++ others.octets_are i;
      fit = (omega (arith, are.0, are.1.0), others.fit);
    }

quads_found : (count : ℕ) (octets : List ℕ) → AreOctets octets → length octets ≡ 4 * count → AreNumbers four_octets count octets (quads octets)
quads_found count [] are size = record { count_is = omega arith; octets_are = refl; fit = tt }
quads_found count (a ∷ []) are size = absurd (omega arith)
quads_found count (a ∷ b ∷ []) are size = absurd (omega arith)
quads_found count (a ∷ b ∷ c ∷ []) are size = absurd (omega arith)
quads_found zero (a ∷ b ∷ c ∷ d ∷ octets) are size = absurd (omega arith)
quads_found (suc count) (a ∷ b ∷ c ∷ d ∷ octets) are size =
    let others = quads_found count octets are.1.1.1.1 (omega arith) in
    let back = be_bytes_4 (a ∷ b ∷ c ∷ d ∷ []) (from_be_bytes w32 (a ∷ b ∷ c ∷ d ∷ [])) refl (four_fit a b c d are.0 are.1.0 are.1.1.0 are.1.1.1.0) refl in
    record {
      count_is = ap suc others.count_is;
      octets_are = λ i. back i ++ others.octets_are i;
      fit = (omega (arith, are.0, are.1.0, are.1.1.0, are.1.1.1.0), others.fit);
    }

pub numbers_found : (size : AsSize) (count : ℕ) (octets : List ℕ) → AreOctets octets → length octets ≡ octets_each size * count → AreNumbers size count octets (numbers_in size octets)
numbers_found two_octets count octets are h = pairs_found count octets are h
numbers_found four_octets count octets are h = quads_found count octets are h

-- ---- segments

pub skip_segments : (size : AsSize) (is_kind : ℕ → Bool) (n : ℕ) (octets : List ℕ) → segments_behind size is_kind n octets ≡ segments_of size is_kind (drop n octets)
skip_segments size is_kind zero [] = refl
skip_segments size is_kind (suc n) [] = refl
skip_segments size is_kind zero (o ∷ octets) = refl
skip_segments size is_kind (suc n) (o ∷ octets) = skip_segments size is_kind n octets

three_hold : (a b c : Bool) → a ≡ true → b ≡ true → c ≡ true → (a && b && c) ≡ true
three_hold a b c p q r = λ i. p i && q i && r i

-- what a segment and what follows it read as
pub segment_step : (size : AsSize) (is_kind : ℕ → Bool) (kind count : ℕ) (front after : List ℕ) → is_kind kind ≡ true → 0 < count → length front ≡ octets_each size * count
    → segments_of size is_kind (kind ∷ count ∷ (front ++ after)) ≡ with_front (record { kind = kind; numbers = numbers_in size front }) (segments_of size is_kind after)
segment_step size is_kind kind count front after kind_is some size_is =
    let n : ℕ = octets_each size * count in
    let room : n ≤ length (front ++ after) = omega (arith, length-append front after) in
    let begins : begins_segment size is_kind kind count (front ++ after) ≡ true =
    three_hold (is_kind kind) (nat_lt 0 count) (nat_le n (length (front ++ after))) kind_is (lt-ltb 0 count some) (le-leb n (length (front ++ after)) room) in
    let taken : take n (front ++ after) ≡ front = ap (λ n. take n (front ++ after)) (sym size_is) ∙ take-append_seam front after in
    let dropped : drop n (front ++ after) ≡ after = ap (λ n. drop n (front ++ after)) (sym size_is) ∙ drop-append_seam front after in
    ap (λ b. cond b (with_front (record { kind = kind; numbers = numbers_in size (take n (front ++ after)) }) (segments_behind size is_kind n (front ++ after))) None) begins
    ∙ (λ i. with_front (record { kind = kind; numbers = numbers_in size (taken i) }) (skip_segments size is_kind n (front ++ after) i))
    ∙ ap (λ octets. with_front (record { kind = kind; numbers = numbers_in size front }) (segments_of size is_kind octets)) dropped

pub path_back : (size : AsSize) (is_kind : ℕ → Bool) (path : List Segment) → AllByRecursion (IsSegment size is_kind) path → segments_of size is_kind (path_octets size path) ≡ Some path
path_back size is_kind [] each = refl
path_back size is_kind (s ∷ path) each =
    let here = each.0 in
    segment_step size is_kind s.kind (length s.numbers) (flat_map (number_octets size) s.numbers) (path_octets size path) here.kind here.some (numbers_size size s.numbers)
    ∙ (λ i. with_front (record { kind = s.kind; numbers = numbers_back size s.numbers here.numbers i }) (path_back size is_kind path each.1 i))

pub are_taken : (n : ℕ) (octets : List ℕ) → AreOctets octets → AreOctets (take n octets)
are_taken zero octets are = tt
are_taken (suc n) [] are = tt
are_taken (suc n) (o ∷ octets) are = (are.0, are_taken n octets are.1)

-- what begins a segment says
pub record Begins (size : AsSize) (is_kind : ℕ → Bool) (kind count : ℕ) (octets : List ℕ) : Type 0 where
  pub kind_is : is_kind kind ≡ true
  pub some : 0 < count
  pub room : octets_each size * count ≤ length octets

begins_by : (a b c : Bool) → (a && b && c) ≡ true → (a ≡ true) × (b ≡ true) × (c ≡ true)
begins_by true true true e = (refl, refl, refl)
begins_by true true false e = cc
begins_by true false c e = cc
begins_by false b c e = cc

pub begins : (size : AsSize) (is_kind : ℕ → Bool) (kind count : ℕ) (octets : List ℕ) → begins_segment size is_kind kind count octets ≡ true → Begins size is_kind kind count octets
begins size is_kind kind count octets e =
    let three = begins_by (is_kind kind) (nat_lt 0 count) (nat_le (octets_each size * count) (length octets)) e in
    record { kind_is = three.0; some = ltb-true 0 count three.1; room = leb-true (octets_each size * count) (length octets) three.2 }

-- a segment that is read stands there, and so does the rest of the path
path_more : (size : AsSize) (is_kind : ℕ → Bool) (kind count : ℕ) (octets : List ℕ) (path : List Segment) → AreOctets (kind ∷ count ∷ octets) → Begins size is_kind kind count octets
    → IsPath size is_kind (drop (octets_each size * count) octets) path
    → IsPath size is_kind (kind ∷ count ∷ octets) (record { kind = kind; numbers = numbers_in size (take (octets_each size * count) octets) } ∷ path)
path_more size is_kind kind count octets path are here rest =
    let n : ℕ = octets_each size * count in
    let numbers = numbers_found size count (take n octets) (are_taken n octets are.1.1) (length-take-le n octets here.room) in
    let same : take n octets ++ drop n octets ≡ flat_map (number_octets size) (numbers_in size (take n octets)) ++ path_octets size path =
    λ i. sym numbers.octets_are i ++ rest.whole i in
    record {
      whole = λ i. kind ∷ sym numbers.count_is i ∷ (sym (take-append-drop n octets) ∙ same) i;
      each = (
        record {
          kind = here.kind_is;
          some = subst (λ (c : ℕ). 0 < c) (sym numbers.count_is) here.some;
          most = subst (λ (c : ℕ). c < 256) (sym numbers.count_is) are.1.0;
          numbers = numbers.fit;
        },
        rest.each,
      );
    }

path_behind : (size : AsSize) (is_kind : ℕ → Bool) (n : ℕ) (octets : List ℕ) (path : List Segment) → AreOctets octets → segments_behind size is_kind n octets ≡ Some path → IsPath size is_kind (drop n octets) path
path_behind size is_kind n [] path are e =
    let none : [] ≡ path = cc in
    subst (λ (path : List Segment). IsPath size is_kind (drop n []) path) none (record { whole = drop-nil n; each = tt })
path_behind size is_kind (suc n) (o ∷ octets) path are e = path_behind size is_kind n octets path are.1 e
path_behind size is_kind zero (kind ∷ []) path are e = cc
path_behind size is_kind zero (kind ∷ count ∷ octets) path are e =
    by_test (begins_segment size is_kind kind count octets) refl (segments_behind size is_kind (octets_each size * count) octets) (λ path e. path_behind size is_kind (octets_each size * count) octets path are.1.1 e) e
  where
    front : Segment
    front = record { kind = kind; numbers = numbers_in size (take (octets_each size * count) octets) }

    by_test : (b : Bool) → begins_segment size is_kind kind count octets ≡ b → (r : Option (List Segment))
        → ((path : List Segment) → r ≡ Some path → IsPath size is_kind (drop (octets_each size * count) octets) path)
        → cond b (with_front front r) None ≡ Some path → IsPath size is_kind (kind ∷ count ∷ octets) path
    by_test false t r later e = cc
    by_test true t None later e = cc
    by_test true t (Some rest) later e =
        let is : front ∷ rest ≡ path = cc in
        subst (λ (path : List Segment). IsPath size is_kind (kind ∷ count ∷ octets) path) is (path_more size is_kind kind count octets rest are (begins size is_kind kind count octets t) (later rest refl))

pub path_found : (size : AsSize) (is_kind : ℕ → Bool) (octets : List ℕ) (path : List Segment) → AreOctets octets → segments_of size is_kind octets ≡ Some path → IsPath size is_kind octets path
path_found size is_kind octets path are e = path_behind size is_kind 0 octets path are e
