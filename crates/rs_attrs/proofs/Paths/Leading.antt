-- The leading part of a path, put segment by segment.
use Rattle.std.proofs.Common.{◌≡◌, ℕ, zero, suc, ◌-◌, ◌*◌, ◌<◌, ◌≤◌, Bool, true, false, cond, List, [], ◌∷◌, ◌++◌, take, get_or, refl, sym, ap, subst, ◌∙◌, arith, nat_eq, append_assoc}
use Rattle.std.specs.Prelude.{nat_le}
use Rattle.std.specs.Int.{w16, from_be_bytes}
use Rattle.std.proofs.lemmas.Bool.{le-leb, leb-true, eq-eqb, ne_eqb}
use Rattle.std.proofs.lemmas.List.{append-nil}
use Rattle.rs_attrs.proofs.Paths.NarrowPath.{are_octets}
use Rattle.rs_attrs.specs.declared.segments.RawSegment.{RawSegment}
use Rattle.rs_attrs.specs.Paths.{Segment, two_octets, four_octets, pairs, segment_octets, path_octets, segment_length, leading, is_set_or_sequence}
use Rattle.rs_attrs.specs.Merging.{segments_in, IsWhole, IsCut, plain, segment_in}
use Rattle.rs_attrs.proofs.Paths.PathLaws.{numbers_found}
use Rattle.rs_attrs.proofs.Paths.PathLength.{numbers_count}

pub leading_none : (path : List Segment) → leading 0 path ≡ []
leading_none [] = refl
leading_none (s ∷ path) = refl

pub leading_whole : (n : ℕ) (s : Segment) (path : List Segment) → 0 < n → segment_length s ≤ n → leading n (s ∷ path) ≡ s ∷ leading (n - segment_length s) path
leading_whole zero s path some h = absurd (omega arith)
leading_whole (suc n) s path some h =
    ap (λ b. cond b (s ∷ leading (suc n - segment_length s) path) (record { kind = s.kind; numbers = take (suc n) s.numbers } ∷ [])) (le-leb (segment_length s) (suc n) h)

pub leading_cut : (n : ℕ) (s : Segment) (path : List Segment) → 0 < n → n < segment_length s → leading n (s ∷ path) ≡ record { kind = s.kind; numbers = take n s.numbers } ∷ []
leading_cut zero s path some h = absurd (omega arith)
leading_cut (suc n) s path some h =
    ap (λ b. cond b (s ∷ leading (suc n - segment_length s) path) (record { kind = s.kind; numbers = take (suc n) s.numbers } ∷ [])) (not_le (segment_length s) (suc n) h)
  where
    not_le : (m n : ℕ) → n < m → nat_le m n ≡ false
    not_le m n h = by_test (nat_le m n) refl
      where
        by_test : (b : Bool) → nat_le m n ≡ b → b ≡ false
        by_test true e = let le : m ≤ n = leb-true m n e in absurd (omega arith)
        by_test false e = refl

pub pairs_take : (n : ℕ) (octets : List ℕ) → take n (pairs octets) ≡ pairs (take (2 * n) octets)
pairs_take zero octets = refl
pairs_take (suc n) [] = let two : 2 * suc n ≡ suc (suc (2 * n)) = omega arith in ap (λ n. pairs (take n [])) (sym two)
pairs_take (suc n) (a ∷ []) = let two : 2 * suc n ≡ suc (suc (2 * n)) = omega arith in ap (λ n. pairs (take n (a ∷ []))) (sym two)
pairs_take (suc n) (a ∷ b ∷ octets) =
    let two : 2 * suc n ≡ suc (suc (2 * n)) = omega arith in
    ap (λ ns. from_be_bytes w16 (a ∷ b ∷ []) ∷ ns) (pairs_take n octets) ∙ ap (λ n. pairs (take n (a ∷ b ∷ octets))) (sym two)

-- what is put so far, and what is left of the leading part
pub record Leading (old path values : List ℕ) (keep left : ℕ) (rest : List ℕ) : Type 0 where
  pub whole : IsWhole two_octets false rest
  pub octets : old ++ path_octets four_octets (leading keep (segments_in two_octets false path)) ≡ values ++ path_octets four_octets (leading left (segments_in two_octets false rest))

pub leading_start : (old path : List ℕ) (keep : ℕ) → IsWhole two_octets false path → Leading old path old keep keep path
leading_start old path keep whole = record { whole = whole; octets = refl }

-- what a segment counts
pub length_here : (s : RawSegment) (path : List ℕ) (n : ℕ) → IsCut two_octets false path s → n ≡ cond (nat_eq s.kind 1) 1 s.count → n ≡ segment_length (segment_in two_octets s)
length_here s path n cut e = e ∙ ap (λ c. cond (nat_eq s.kind 1) 1 c) (sym (numbers_count two_octets s.count s.numbers.now cut.octets))

pub leading_step : (old path values values' : List ℕ) (keep left left' n : ℕ) (rest : List ℕ) (s : RawSegment) → Leading old path values keep left rest → IsCut two_octets false rest s
    → 0 < left → n ≤ left → n ≡ cond (nat_eq s.kind 1) 1 s.count → left' ≡ left - n
    → values' ≡ values ++ segment_octets four_octets (segment_in two_octets s) → Leading old path values' keep left' s.rest.now
leading_step old path values values' keep left left' n rest s had cut some h n_is left_is values_is =
    let front : Segment = segment_in two_octets s in
    let ss : List Segment = segments_in two_octets false s.rest.now in
    let counted : n ≡ segment_length front = length_here s rest n cut n_is in
    let P : ℕ → Type 0 = λ n. n ≤ left in
    record {
      whole = cut.whole;
      octets = had.octets
          ∙ ap (λ ss. values ++ path_octets four_octets (leading left ss)) cut.segments
          ∙ ap (λ ss. values ++ path_octets four_octets ss) (leading_whole left front ss some (subst P counted h))
          ∙ sym (append_assoc values (segment_octets four_octets front) (path_octets four_octets (leading (left - segment_length front) ss)))
          ∙ (λ i. sym values_is i ++ path_octets four_octets (leading ((ap (λ n. left - n) (sym counted) ∙ sym left_is) i) ss));
    }

pub leading_done : (old path values : List ℕ) (keep left : ℕ) (rest : List ℕ) → Leading old path values keep left rest → left ≡ 0 → values ≡ old ++ path_octets four_octets (leading keep (segments_in two_octets false path))
leading_done old path values keep left rest had e =
    sym (had.octets ∙ ap (λ left. values ++ path_octets four_octets (leading left (segments_in two_octets false rest))) e
    ∙ ap (λ ss. values ++ path_octets four_octets ss) (leading_none (segments_in two_octets false rest)) ∙ append-nil values)

pub leading_end : (old path values : List ℕ) (keep left : ℕ) (rest : List ℕ) → Leading old path values keep left rest → segments_in two_octets false rest ≡ [] → values ≡ old ++ path_octets four_octets (leading keep (segments_in two_octets false path))
leading_end old path values keep left rest had none =
    sym (had.octets ∙ ap (λ ss. values ++ path_octets four_octets (leading left ss)) none ∙ append-nil values)

-- a sequence is cut, and nothing follows it
pub leading_last : (old path values values' : List ℕ) (keep left n : ℕ) (rest numbers : List ℕ) (s : RawSegment) → Leading old path values keep left rest → IsCut two_octets false rest s
    → 0 < left → left < n → n ≡ cond (nat_eq s.kind 1) 1 s.count → numbers ≡ take (2 * left) s.numbers.now
    → values' ≡ values ++ segment_octets four_octets (record { kind = s.kind; numbers = pairs numbers }) → values' ≡ old ++ path_octets four_octets (leading keep (segments_in two_octets false path))
leading_last old path values values' keep left n rest numbers s had cut some h n_is numbers_is values_is =
    let front : Segment = segment_in two_octets s in
    let ss : List Segment = segments_in two_octets false s.rest.now in
    let counted : n ≡ segment_length front = length_here s rest n cut n_is in
    let P : ℕ → Type 0 = λ n. left < n in
    let taken : take left front.numbers ≡ pairs numbers = pairs_take left s.numbers.now ∙ ap pairs (sym numbers_is) in
    values_is ∙ sym (had.octets
    ∙ ap (λ ss. values ++ path_octets four_octets (leading left ss)) cut.segments
    ∙ ap (λ ss. values ++ path_octets four_octets ss) (leading_cut left front ss some (subst P counted h))
    ∙ ap (λ octets. values ++ octets) (append-nil (segment_octets four_octets (record { kind = s.kind; numbers = take left front.numbers })))
    ∙ ap (λ numbers. values ++ segment_octets four_octets (record { kind = s.kind; numbers = numbers })) taken)

-- ---- AS4_PATH

-- what is put so far, and what is left of the sets and sequences
pub record Copying (old path values rest : List ℕ) : Type 0 where
  pub whole : IsWhole four_octets true rest
  pub octets : old ++ path_octets four_octets (plain (segments_in four_octets true path)) ≡ values ++ path_octets four_octets (plain (segments_in four_octets true rest))

pub copying_start : (old path : List ℕ) → IsWhole four_octets true path → Copying old path old path
copying_start old path whole = record { whole = whole; octets = refl }

plain_cons : (s : Segment) (ss : List Segment) (b : Bool) → is_set_or_sequence s.kind ≡ b → plain (s ∷ ss) ≡ cond b (s ∷ plain ss) (plain ss)
plain_cons s ss b e = ap (λ b. cond b (s ∷ plain ss) (plain ss)) e

-- a segment of a confederation
pub copying_skip : (old path values rest : List ℕ) (s : RawSegment) → Copying old path values rest → IsCut four_octets true rest s → is_set_or_sequence s.kind ≡ false → Copying old path values s.rest.now
copying_skip old path values rest s had cut other = record {
  whole = cut.whole;
  octets = had.octets ∙ ap (λ ss. values ++ path_octets four_octets (plain ss)) cut.segments
      ∙ ap (λ ss. values ++ path_octets four_octets ss) (plain_cons (segment_in four_octets s) (segments_in four_octets true s.rest.now) false other);
}

-- a set or a sequence
pub copying_step : (old path values head values' rest : List ℕ) (s : RawSegment) → Copying old path values rest → IsCut four_octets true rest s → is_set_or_sequence s.kind ≡ true → ((i : ℕ) → get_or s.numbers.now i 0 < 256)
    → head ≡ values ++ s.kind ∷ s.count ∷ [] → values' ≡ head ++ s.numbers.now → Copying old path values' s.rest.now
copying_step old path values head values' rest s had cut here fits head_is values_is =
    let front : Segment = segment_in four_octets s in
    let ss : List Segment = segments_in four_octets true s.rest.now in
    let found = numbers_found four_octets s.count s.numbers.now (are_octets s.numbers.now fits) cut.octets in
    let same : segment_octets four_octets front ≡ s.kind ∷ s.count ∷ s.numbers.now = λ i. s.kind ∷ found.count_is i ∷ found.octets_are i in
    let put : values ++ segment_octets four_octets front ≡ values' =
    ap (λ octets. values ++ octets) same ∙ sym (append_assoc values (s.kind ∷ s.count ∷ []) s.numbers.now)
    ∙ ap (λ head. head ++ s.numbers.now) (sym head_is) ∙ sym values_is in
    record {
      whole = cut.whole;
      octets = had.octets ∙ ap (λ ss. values ++ path_octets four_octets (plain ss)) cut.segments
          ∙ ap (λ ss. values ++ path_octets four_octets ss) (plain_cons front ss true here)
          ∙ sym (append_assoc values (segment_octets four_octets front) (path_octets four_octets (plain ss)))
          ∙ ap (λ values. values ++ path_octets four_octets (plain ss)) put;
    }

pub copying_end : (old path values rest : List ℕ) → Copying old path values rest → segments_in four_octets true rest ≡ [] → values ≡ old ++ path_octets four_octets (plain (segments_in four_octets true path))
copying_end old path values rest had none = sym (had.octets ∙ ap (λ ss. values ++ path_octets four_octets (plain ss)) none ∙ append-nil values)

-- ---- what the code counts of a segment

pub counts_one : (kind count : ℕ) → kind ≡ 1 → 1 ≡ cond (nat_eq kind 1) 1 count
counts_one kind count e = sym (ap (λ b. cond b 1 count) (eq-eqb kind 1 e))

pub counts_all : (kind count : ℕ) → (kind ≡ 1 → ⊥) → count ≡ cond (nat_eq kind 1) 1 count
counts_all kind count e = sym (ap (λ b. cond b 1 count) (ne_eqb kind 1 e))
