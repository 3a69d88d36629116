-- What is read from a two-octet peer is legal.
use Rattle.std.proofs.Common.{◌≡◌, ℕ, ◌<◌, Bool, true, false, cond, List, [], ◌∷◌, ◌++◌, length, Option, Some, None, refl, sym, ap, subst, ◌∙◌, arith, nat_eq, ◌⊎◌, inl, inr}
use Rattle.std.specs.Prelude.{codes, is_some, option_map, ◌==◌}
use Rattle.std.specs.List.{find, AllByRecursion}
use Rattle.std.proofs.lemmas.Bool.{eqb-true, eq-eqb}
use Rattle.rs_attrs.specs.declared.mode.Mode.TheVariants.{Two, Four}
use Rattle.rs_attrs.specs.declared.table.Outcome.TheVariants.{Kept, Withdraw, Discard}
use Rattle.rs_attrs.specs.declared.table.Class.TheVariants.{WellKnown, OptionalTransitive, Any}
use Rattle.rs_attrs.specs.declared.table.Shape.TheVariants.{As4Path, Length, Never}
use Rattle.rs_attrs.specs.declared.table.Partial.TheVariants as partial
use Rattle.rs_attrs.specs.Spellings.{Spelling, AreOctets, IsSpelling}
use Rattle.rs_attrs.specs.Paths.{Segment, two_octets, four_octets, path_octets, is_set_or_sequence}
use Rattle.rs_attrs.specs.Table.{Row, row, outcome_of, outcome_by, is_kept, is_path, fits_class, is_well_formed, common_rows, as4_rows}
use Rattle.rs_attrs.specs.Meaning.{merged_with, Attribute, attribute_with, ignores_as4, aggregator_by, value_by_two, kept, kept_spelling, that_counts, is_as4, meaning_of}
use Rattle.rs_attrs.specs.Writing.{IsLegal, IsLegalAttribute}
use Rattle.rs_attrs.specs.Merging.{segments_in, plain, as4_value}
use Rattle.rs_attrs.proofs.Paths.PathLaws.{path_back}
use Rattle.rs_attrs.proofs.Fields.FirstOfType.{counts_has, counts_kind}
use Rattle.rs_attrs.proofs.Fields.Meant.{behind, kept_is}
use Rattle.rs_attrs.proofs.Fields.Legal.{legal_with, legal_meaning, HasOctets}
use Rattle.rs_attrs.proofs.Paths.MergedPaths.{whole_segments}
use Rattle.rs_attrs.proofs.Fields.ByTwo.{kept_good, kept_at, good_path, good_aggregator, good_as4_path, good_as4_aggregator, good_as4_value, path_value, aggregator_value, other_value}
use Rattle.rs_attrs.proofs.Paths.PathFour.{IsFour, fours, plain_fours, merged_fours, path_are}

-- ---- the outcome for a four-octet peer

-- the row doesn't tell the two kinds of peer apart, or is of another type
abbrev IsCommon : ℕ → Row → Type 0
IsCommon kind r = r.kind == kind ≡ true → (value : List ℕ) → is_well_formed Two r.shape value ≡ is_well_formed Four r.shape value

same_rows : (s : Spelling) (rs : List Row) → is_as4 s.kind ≡ false → AllByRecursion (IsCommon s.kind) rs
    → outcome_by Two (find (λ r. r.kind == s.kind) (rs ++ as4_rows Two)) s ≡ outcome_by Four (find (λ r. r.kind == s.kind) (rs ++ as4_rows Four)) s
same_rows s [] other common = by_tests (nat_eq 17 s.kind) (nat_eq 18 s.kind) refl refl
  where
    by_tests : (a b : Bool) → nat_eq 17 s.kind ≡ a → nat_eq 18 s.kind ≡ b
        → outcome_by Two (find (λ r. r.kind == s.kind) (as4_rows Two)) s ≡ outcome_by Four (find (λ r. r.kind == s.kind) (as4_rows Four)) s
    by_tests true b p q = absurd (let is : 17 ≡ s.kind = eqb-true 17 s.kind p in let no : is_as4 17 ≡ false = ap is_as4 is ∙ other in cc)
    by_tests false true p q = absurd (let is : 18 ≡ s.kind = eqb-true 18 s.kind q in let no : is_as4 18 ≡ false = ap is_as4 is ∙ other in cc)
    by_tests false false p q =
        ap (λ o. outcome_by Two o s) (λ i. cond (p i) (Some (row 17 (codes "AS4_PATH") OptionalTransitive As4Path Discard partial.Never)) (cond (q i) (Some (row 18 (codes "AS4_AGGREGATOR") OptionalTransitive (Length 8) Discard partial.Never)) None))
        ∙ sym (ap (λ o. outcome_by Four o s) (λ i. cond (p i) (Some (row 17 (codes "AS4_PATH") Any Never Discard partial.Never)) (cond (q i) (Some (row 18 (codes "AS4_AGGREGATOR") Any Never Discard partial.Never)) None)))
same_rows s (r ∷ rs) other common = by_test (nat_eq r.kind s.kind) refl (same_rows s rs other common.1)
  where
    by_test : (b : Bool) → nat_eq r.kind s.kind ≡ b → outcome_by Two (find (λ r. r.kind == s.kind) (rs ++ as4_rows Two)) s ≡ outcome_by Four (find (λ r. r.kind == s.kind) (rs ++ as4_rows Four)) s
        → outcome_by Two (cond b (Some r) (find (λ r. r.kind == s.kind) (rs ++ as4_rows Two))) s ≡ outcome_by Four (cond b (Some r) (find (λ r. r.kind == s.kind) (rs ++ as4_rows Four))) s
    by_test true e later = ap (λ good. cond (fits_class r.class s.flags) (cond good Kept r.otherwise) Withdraw) (common.0 e s.value)
    by_test false e later = later

common : (kind : ℕ) → (kind ≡ 2 → ⊥) → (kind ≡ 7 → ⊥) → AllByRecursion (IsCommon kind) common_rows
common kind p q = (
  λ e v. refl,
  (
    λ e v. absurd (p (sym (eqb-true 2 kind e))),
    (
      λ e v. refl,
      (
        λ e v. refl,
        (
          λ e v. refl,
          (
            λ e v. refl,
            (
              λ e v. absurd (q (sym (eqb-true 7 kind e))),
              (λ e v. refl, (λ e v. refl, (λ e v. refl, (λ e v. refl, (λ e v. refl, (λ e v. refl, (λ e v. refl, tt))))))),
            ),
          ),
        ),
      ),
    ),
  ),
)

same_outcome : (s : Spelling) → (s.kind ≡ 2 → ⊥) → (s.kind ≡ 7 → ⊥) → is_as4 s.kind ≡ false → outcome_of Two s ≡ outcome_of Four s
same_outcome s p q other = same_rows s common_rows other (common s.kind p q)

-- ---- an attribute

-- what the kept spelling of each type gives
abbrev pub IsUsed : (ℕ → Option Spelling) → Type 0
IsUsed used = (kind : ℕ) (s : Spelling) → used kind ≡ Some s → (is_kept (outcome_of Two s) ≡ true) × (s.kind ≡ kind) × AreOctets s.value

pub as4_octets : (ignores : Bool) (o : Option Spelling) → ((s : Spelling) → o ≡ Some s → AreOctets s.value) → AreOctets (as4_value ignores o)
as4_octets true None are = tt
as4_octets true (Some s) are = tt
as4_octets false None are = tt
as4_octets false (Some s) are = are s refl

-- AS_PATH with what AS4_PATH gives
two_path : (used : ℕ → Option Spelling) (s : Spelling) → IsUsed used → s.kind ≡ 2 → is_kept (outcome_of Two s) ≡ true → AreOctets s.value → (path : List Segment) × (AllByRecursion IsFour path) × (value_by_two used s ≡ path_octets four_octets path)
two_path used s is e good octets =
    let whole = good_path s e good in
    let as4 : List ℕ = as4_value (ignores_as4 (used 7) (used 18)) (used 17) in
    let as4_whole = good_as4_value (ignores_as4 (used 7) (used 18)) (used 17) (λ t u. (let had = is 17 t u in good_as4_path t had.1 had.0)) in
    let as4_bytes : AreOctets as4 = as4_octets (ignores_as4 (used 7) (used 18)) (used 17) (λ t u. (is 17 t u).2) in
    let path = whole_segments two_octets false s.value octets whole in
    let more = whole_segments four_octets true as4 as4_bytes as4_whole in (
      merged_with (segments_in two_octets false s.value) (plain (segments_in four_octets true as4)),
      merged_fours (segments_in two_octets false s.value) (plain (segments_in four_octets true as4)) (fours (segments_in two_octets false s.value) path.each) (plain_fours (segments_in four_octets true as4) more.each),
      path_value used s e octets whole,
    )

path_legal : (used : ℕ → Option Spelling) (s : Spelling) → IsUsed used → s.kind ≡ 2 → is_kept (outcome_of Two s) ≡ true → AreOctets s.value → s.kind < 256 → IsLegalAttribute (attribute_with (value_by_two used s) s)
path_legal used s is e good octets byte =
    let made = two_path used s is e good octets in
    let class = (kept_good (fits_class WellKnown s.flags) (is_path two_octets s.value) Withdraw refl (kept_at 2 s e good)).0 in
    let path : is_path four_octets (path_octets four_octets made.0) ≡ true = ap is_some (path_back four_octets is_set_or_sequence made.0 made.1) in
    let kept_four : is_kept (cond (fits_class WellKnown s.flags) (cond (is_path four_octets (path_octets four_octets made.0)) Kept Withdraw) Withdraw) ≡ true =
    λ i. is_kept (cond (class i) (cond (path i) Kept Withdraw) Withdraw) in
    let P : ℕ → Type 0 = λ kind. is_kept (outcome_of Four (record { flags = s.flags; kind = kind; value = path_octets four_octets made.0 })) ≡ true in
    let Q : List ℕ → Type 0 = λ value. IsLegalAttribute (attribute_with value s) in
    subst Q (sym made.2) (legal_with s (path_octets four_octets made.0) byte (path_are made.0 made.1) (subst P (sym e) kept_four))

aggregator_bytes : (ignores : Bool) (o : Option Spelling) (value : List ℕ) → ((s : Spelling) → o ≡ Some s → (length s.value ≡ 8) × AreOctets s.value) → length value ≡ 6 → AreOctets value
    → (length (aggregator_by ignores o value) ≡ 8) × AreOctets (aggregator_by ignores o value)
aggregator_bytes true None value as4 six are = (omega arith, (omega arith, (omega arith, are)))
aggregator_bytes true (Some s) value as4 six are = (omega arith, (omega arith, (omega arith, are)))
aggregator_bytes false None value as4 six are = (omega arith, (omega arith, (omega arith, are)))
aggregator_bytes false (Some s) value as4 six are = as4 s refl

aggregator_legal : (used : ℕ → Option Spelling) (s : Spelling) → IsUsed used → s.kind ≡ 7 → is_kept (outcome_of Two s) ≡ true → AreOctets s.value → s.kind < 256 → IsLegalAttribute (attribute_with (value_by_two used s) s)
aggregator_legal used s is e good octets byte =
    let value : List ℕ = aggregator_by (ignores_as4 (used 7) (used 18)) (used 18) s.value in
    let both = aggregator_bytes (ignores_as4 (used 7) (used 18)) (used 18) s.value (λ t u. (let had = is 18 t u in (good_as4_aggregator t had.1 had.0, had.2))) (good_aggregator s e good) octets in
    let class = (kept_good (fits_class OptionalTransitive s.flags) (nat_eq (length s.value) 6) Discard refl (kept_at 7 s e good)).0 in
    let kept_four : is_kept (cond (fits_class OptionalTransitive s.flags) (cond (nat_eq (length value) 8) Kept Discard) Withdraw) ≡ true =
    λ i. is_kept (cond (class i) (cond (eq-eqb (length value) 8 both.0 i) Kept Discard) Withdraw) in
    let P : ℕ → Type 0 = λ kind. is_kept (outcome_of Four (record { flags = s.flags; kind = kind; value = value })) ≡ true in
    let Q : List ℕ → Type 0 = λ value. IsLegalAttribute (attribute_with value s) in
    subst Q (sym (aggregator_value used s e)) (legal_with s value byte both.1 (subst P (sym e) kept_four))

other_legal : (used : ℕ → Option Spelling) (s : Spelling) → (s.kind ≡ 2 → ⊥) → (s.kind ≡ 7 → ⊥) → is_as4 s.kind ≡ false → is_kept (outcome_of Two s) ≡ true → AreOctets s.value → s.kind < 256 → IsLegalAttribute (attribute_with (value_by_two used s) s)
other_legal used s p q other good octets byte =
    let Q : List ℕ → Type 0 = λ value. IsLegalAttribute (attribute_with value s) in
    subst Q (sym (other_value used s p q)) (legal_with s s.value byte octets (ap is_kept (sym (same_outcome s p q other)) ∙ good))

-- ---- all of them

pub used_two : (ss : List Spelling) → AllByRecursion HasOctets ss → IsUsed (kept_spelling Two ss)
used_two ss octets kind s e =
    let had = kept_is Two kind (that_counts kind ss) s e in
    (had.1, counts_kind kind ss s had.0, counts_has HasOctets kind ss s had.0 octets)

pub eq_or_not : (n m : ℕ) → (n ≡ m) ⊎ (n ≡ m → ⊥)
eq_or_not n m = by_test (nat_eq n m) refl
  where
    by_test : (b : Bool) → nat_eq n m ≡ b → (n ≡ m) ⊎ (n ≡ m → ⊥)
    by_test true e = inl (eqb-true n m e)
    by_test false e = inr (λ same. (let is : nat_eq n m ≡ true = eq-eqb n m same in cc))

pub legal_two : (ss : List Spelling) → AllByRecursion IsSpelling ss → AllByRecursion HasOctets ss → IsLegal (meaning_of Two ss)
legal_two ss each octets = legal_meaning Two ss each by_kind
  where
    by_cases : (s : Spelling) → is_as4 s.kind ≡ false → is_kept (outcome_of Two s) ≡ true → AreOctets s.value → s.kind < 256 → (s.kind ≡ 2) ⊎ (s.kind ≡ 2 → ⊥) → (s.kind ≡ 7) ⊎ (s.kind ≡ 7 → ⊥)
        → IsLegalAttribute (attribute_with (value_by_two (kept_spelling Two ss) s) s)
    by_cases s other good are byte (inl two) seven = path_legal (kept_spelling Two ss) s (used_two ss octets) two good are byte
    by_cases s other good are byte (inr not_two) (inl seven) = aggregator_legal (kept_spelling Two ss) s (used_two ss octets) seven good are byte
    by_cases s other good are byte (inr not_two) (inr not_seven) = other_legal (kept_spelling Two ss) s not_two not_seven other good are byte

    not_as4 : (kind : ℕ) (a : Attribute) → kept Two ss kind ≡ Some a → is_as4 kind ≡ false
    not_as4 kind a e = by_test (is_as4 kind) e
      where
        by_test : (b : Bool) → cond b None (option_map (λ s. attribute_with (value_by_two (kept_spelling Two ss) s) s) (kept_spelling Two ss kind)) ≡ Some a → b ≡ false
        by_test true e = cc
        by_test false e = refl

    by_kind : (kind : ℕ) (a : Attribute) → kept Two ss kind ≡ Some a → IsLegalAttribute a
    by_kind kind a e =
        let b = behind Two ss kind a e in
        let s = b.spelling in
        let is : IsSpelling s = counts_has IsSpelling kind ss s b.counts each in
        let kind_is = counts_kind kind ss s b.counts in
        subst IsLegalAttribute (sym b.means)
        (by_cases s (ap is_as4 kind_is ∙ not_as4 kind a e) b.is_kept (counts_has HasOctets kind ss s b.counts octets) is.kind (eq_or_not s.kind 2) (eq_or_not s.kind 7))
