-- Octets are a row of triples and a rest in one way.
use Rattle.std.proofs.Common.{get_or, ◌≡◌, ℕ, zero, suc, ◌-◌, ◌≤◌, Bool, true, false, cond, List, [], ◌∷◌, ◌++◌, length, take, drop, refl, sym, ap, subst, ◌∙◌, arith, nat_lt, length-append}
use Rattle.std.specs.List.{AllByRecursion}
use Rattle.rs_octets.specs.Parts.{BeginsNone, IsPrefixFree}
use Rattle.rs_octets.proofs.OneWay.{one_way, one_more, same_fronts}
use Rattle.std.proofs.lemmas.Bool.{ltb-true, ltb-false, le-ltb}
use Rattle.std.proofs.lemmas.List.{take-append-drop, length-take-le}
use Rattle.std.proofs.Math.Seq.{take-length}
use Rattle.rs_open.specs.Triples.{Triple, Row, triple_octets, IsTriple, IsRow, no_triple, with_first, row_behind, row_of}

pub skip : (n : ℕ) (octets : List ℕ) → row_behind n octets ≡ row_of (drop n octets)
skip zero [] = refl
skip zero (octet ∷ octets) = refl
skip (suc n) [] = refl
skip (suc n) (octet ∷ octets) = skip n octets

-- ---- a triple at the front

abbrev row_by : Bool → ℕ → ℕ → List ℕ → Row
row_by short kind len octets =
    cond short (no_triple (kind ∷ len ∷ octets)) (with_first (record { kind = kind; value = take len octets }) (row_behind len octets))

-- a length that fits
pub row_at : (kind len : ℕ) (octets : List ℕ) → len ≤ length octets
    → row_of (kind ∷ len ∷ octets) ≡ with_first (record { kind = kind; value = take len octets }) (row_of (drop len octets))
row_at kind len octets h =
    ap (λ b. row_by b kind len octets) (le-ltb (length octets) len h)
    ∙ ap (λ row. with_first (record { kind = kind; value = take len octets }) row) (skip len octets)

-- ---- no triple at the front

pub none_in_nothing : BeginsNone triple_octets IsTriple []
none_in_nothing t after is e = cc

none_in_one : (kind : ℕ) → BeginsNone triple_octets IsTriple (kind ∷ [])
none_in_one kind t after is e = cc

none_in_cut : (kind len : ℕ) (octets : List ℕ) → suc (length octets) ≤ len → BeginsNone triple_octets IsTriple (kind ∷ len ∷ octets)
none_in_cut kind len octets h t after is e =
    let same : len ≡ length t.value = cc in
    let behind : octets ≡ t.value ++ after = cc in
    omega (arith, h, same, ap length behind, length-append t.value after)

-- ---- the row that is computed is one, and the only one

row_behind_is : (n : ℕ) (octets : List ℕ) → IsRow (drop n octets) (row_behind n octets)
row_behind_is zero [] = record { whole = refl; each = tt; stops = none_in_nothing }
row_behind_is (suc n) [] = record { whole = refl; each = tt; stops = none_in_nothing }
row_behind_is (suc n) (octet ∷ octets) = row_behind_is n octets
row_behind_is zero (kind ∷ []) = record { whole = refl; each = tt; stops = none_in_one kind }
row_behind_is zero (kind ∷ len ∷ octets) = by_test (nat_lt (length octets) len) refl (row_behind_is len octets)
  where
    by_test : (b : Bool) → nat_lt (length octets) len ≡ b → IsRow (drop len octets) (row_behind len octets) → IsRow (kind ∷ len ∷ octets) (row_by b kind len octets)
    by_test true e later = record { whole = refl; each = tt; stops = none_in_cut kind len octets (ltb-true _ _ e) }
    by_test false e later =
        let t : Triple = record { kind = kind; value = take len octets } in
        let same : triple_octets t ++ drop len octets ≡ kind ∷ len ∷ octets =
        ap (λ n. kind ∷ n ∷ (take len octets ++ drop len octets)) (length-take-le len octets (ltb-false _ _ e))
        ∙ ap (λ xs. kind ∷ len ∷ xs) (take-append-drop len octets) in
        let P : List ℕ → Type 0 = λ xs. IsRow xs (with_first t (row_behind len octets)) in
        subst P same (one_more triple_octets IsTriple t (drop len octets) (row_behind len octets).triples (row_behind len octets).rest tt later)

pub row_is : (octets : List ℕ) → IsRow octets (row_of octets)
row_is octets = row_behind_is 0 octets

-- a triple is no front of another, since its length says how many octets it has
triples_apart : IsPrefixFree triple_octets IsTriple
triples_apart a b x y is other e =
    let kind : a.kind ≡ b.kind = cc in
    let size : length a.value ≡ length b.value = cc in
    let parts = same_fronts a.value b.value x y size cc in
    ((λ i. record { kind = kind i; value = parts.0 i }), parts.1)

pub row_is_only : (octets : List ℕ) (row : Row) → IsRow octets row → row ≡ row_of octets
row_is_only octets row is =
    let only = one_way triple_octets IsTriple triples_apart octets row.triples (row_of octets).triples row.rest (row_of octets).rest is (row_is octets) in
    λ i. record { triples = only.0 i; rest = only.1 i }

-- triples one after the other are a row with nothing left
pub each_is_triple : (triples : List Triple) → AllByRecursion IsTriple triples
each_is_triple [] = tt
each_is_triple (t ∷ triples) = (tt, each_is_triple triples)

-- the triple that is read at the front
pub row_in : (octets behind value rest : List ℕ) (len : ℕ) → 2 ≤ length octets → behind ≡ take (length octets - 2) (drop 2 octets) → len ≡ get_or octets 1 0 → len ≤ length behind
    → value ≡ take len behind → rest ≡ drop len behind
    → row_of octets ≡ with_first (record { kind = get_or octets 0 0; value = value }) (row_of rest)
row_in [] behind value rest len h is size fits front back = absurd (omega (arith, h))
row_in (kind ∷ []) behind value rest len h is size fits front back = absurd (omega (arith, h))
row_in (kind ∷ n ∷ octets) behind value rest len h is size fits front back =
    let count : length (kind ∷ n ∷ octets) - 2 ≡ length octets = omega arith in
    let whole : behind ≡ octets = is ∙ ap (λ k. take k octets) count ∙ take-length octets in
    let reads : len ≡ n = size in
    row_at kind n octets (omega (arith, fits, reads, ap length whole))
    ∙ ap (λ xs. with_first (record { kind = kind; value = xs }) (row_of (drop n octets))) (ap (λ k. take k octets) (sym reads) ∙ ap (take len) (sym whole) ∙ sym front)
    ∙ ap (λ xs. with_first (record { kind = kind; value = value }) (row_of xs)) (ap (λ k. drop k octets) (sym reads) ∙ ap (drop len) (sym whole) ∙ sym back)
