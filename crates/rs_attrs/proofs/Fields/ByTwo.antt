-- What is kept of a two-octet peer has the form that its table asks for, and its values are those that are meant.
use Rattle.std.proofs.Common.{◌≡◌, ℕ, Bool, true, false, cond, List, length, Option, Some, None, refl, sym, ap, subst, ◌∙◌, nat_eq}
use Rattle.std.specs.Prelude.{is_some, nat_lt}
use Rattle.std.specs.List.{AllByRecursion}
use Rattle.std.proofs.lemmas.Bool.{and_parts, eqb-true, eq-eqb, ne_eqb}
use Rattle.rs_attrs.specs.declared.mode.Mode.TheVariants.{Two}
use Rattle.rs_attrs.specs.declared.table.Outcome.{Outcome}
use Rattle.rs_attrs.specs.declared.table.Outcome.TheVariants.{Kept, Withdraw, Discard}
use Rattle.rs_attrs.specs.declared.table.Class.TheVariants.{WellKnown, OptionalTransitive}
use Rattle.rs_attrs.specs.Spellings.{Spelling, AreOctets}
use Rattle.rs_attrs.specs.Paths.{Segment, two_octets, four_octets, segments_of, path_octets, is_set_or_sequence, IsSegment, as_path_in}
use Rattle.rs_attrs.specs.Table.{outcome_of, is_kept, is_path, is_as4_path, fits_class}
use Rattle.rs_attrs.specs.Meaning.{as4_path, merged_with, merged, ignores_as4, aggregator_by, value_by_two}
use Rattle.rs_attrs.specs.Merging.{segments_in, IsWhole, plain, as4_value}
use Rattle.rs_attrs.proofs.Paths.MergedPaths.{whole_segments, merged_is, merged_none}

-- ---- well-formed values

abbrev pub by_row : Bool → Bool → Outcome → Outcome
by_row class good otherwise = cond class (cond good Kept otherwise) Withdraw

pub kept_good : (class good : Bool) (otherwise : Outcome) → is_kept otherwise ≡ false → is_kept (by_row class good otherwise) ≡ true → (class ≡ true) × (good ≡ true)
kept_good true true otherwise bad e = (refl, refl)
kept_good true false otherwise bad e = cc
kept_good false good otherwise bad e = cc

abbrev pub IsKeptAt : ℕ → Spelling → Type 0
IsKeptAt kind s = is_kept (outcome_of Two (record { flags = s.flags; kind = kind; value = s.value })) ≡ true

pub kept_at : (kind : ℕ) (s : Spelling) → s.kind ≡ kind → is_kept (outcome_of Two s) ≡ true → IsKeptAt kind s
kept_at kind s e good = let P : ℕ → Type 0 = λ kind. IsKeptAt kind s in subst P e good

pub good_path : (s : Spelling) → s.kind ≡ 2 → is_kept (outcome_of Two s) ≡ true → IsWhole two_octets false s.value
good_path s e good = (kept_good (fits_class WellKnown s.flags) (is_path two_octets s.value) Withdraw refl (kept_at 2 s e good)).1

pub good_aggregator : (s : Spelling) → s.kind ≡ 7 → is_kept (outcome_of Two s) ≡ true → length s.value ≡ 6
good_aggregator s e good = eqb-true (length s.value) 6 (kept_good (fits_class OptionalTransitive s.flags) (nat_eq (length s.value) 6) Discard refl (kept_at 7 s e good)).1

pub good_as4_path : (s : Spelling) → s.kind ≡ 17 → is_kept (outcome_of Two s) ≡ true → IsWhole four_octets true s.value
good_as4_path s e good =
    (and_parts (nat_lt 0 (length s.value)) (is_some (segments_of four_octets _ s.value)) (kept_good (fits_class OptionalTransitive s.flags) (is_as4_path s.value) Discard refl (kept_at 17 s e good)).1).1

pub good_as4_aggregator : (s : Spelling) → s.kind ≡ 18 → is_kept (outcome_of Two s) ≡ true → length s.value ≡ 8
good_as4_aggregator s e good = eqb-true (length s.value) 8 (kept_good (fits_class OptionalTransitive s.flags) (nat_eq (length s.value) 8) Discard refl (kept_at 18 s e good)).1

-- AS4_PATH's value as it is used
pub good_as4_value : (ignores : Bool) (o : Option Spelling) → ((s : Spelling) → o ≡ Some s → IsWhole four_octets true s.value) → IsWhole four_octets true (as4_value ignores o)
good_as4_value true None good = refl
good_as4_value true (Some s) good = refl
good_as4_value false None good = refl
good_as4_value false (Some s) good = good s refl

pub as4_value_is : (value : List ℕ) (ignores : Bool) (aggregator as4_aggregator path a b p : Option Spelling) → value ≡ as4_value ignores path → ignores ≡ ignores_as4 aggregator as4_aggregator
    → aggregator ≡ a → as4_aggregator ≡ b → path ≡ p → value ≡ as4_value (ignores_as4 a b) p
as4_value_is value ignores aggregator as4_aggregator path a b p value_is ignores_is a_is b_is p_is =
    value_is ∙ (λ i. as4_value ((ignores_is ∙ (λ j. ignores_as4 (a_is j) (b_is j))) i) (p_is i))

-- ---- the values

path_by : (ignores : Bool) (o : Option Spelling) (p : List Segment) → AllByRecursion (IsSegment two_octets is_set_or_sequence) p
    → merged p (cond ignores None (as4_path o)) ≡ merged_with p (plain (segments_in four_octets true (as4_value ignores o)))
path_by true None p each = merged_none p each
path_by true (Some s) p each = merged_none p each
path_by false None p each = merged_none p each
path_by false (Some s) p each = merged_is p (plain (segments_in four_octets true s.value)) each

pub path_value : (used : ℕ → Option Spelling) (s : Spelling) → s.kind ≡ 2 → AreOctets s.value → IsWhole two_octets false s.value
    → value_by_two used s ≡ path_octets four_octets (merged_with (segments_in two_octets false s.value) (plain (segments_in four_octets true (as4_value (ignores_as4 (used 7) (used 18)) (used 17)))))
path_value used s e octets whole =
    let ignores : Bool = ignores_as4 (used 7) (used 18) in
    let is = whole_segments two_octets false s.value octets whole in
    let path : List ℕ = path_octets four_octets (merged (as_path_in two_octets s.value) (cond ignores None (as4_path (used 17)))) in
    ap (λ b. cond b path (cond (nat_eq s.kind 7) (aggregator_by ignores (used 18) s.value) s.value)) (eq-eqb s.kind 2 e)
    ∙ ap (path_octets four_octets) (path_by ignores (used 17) (segments_in two_octets false s.value) is.each)

pub aggregator_value : (used : ℕ → Option Spelling) (s : Spelling) → s.kind ≡ 7 → value_by_two used s ≡ aggregator_by (ignores_as4 (used 7) (used 18)) (used 18) s.value
aggregator_value used s e =
    let P : ℕ → Type 0 = λ kind. value_by_two used (record { flags = s.flags; kind = kind; value = s.value }) ≡ aggregator_by (ignores_as4 (used 7) (used 18)) (used 18) s.value in
    subst P (sym e) refl

pub other_value : (used : ℕ → Option Spelling) (s : Spelling) → (s.kind ≡ 2 → ⊥) → (s.kind ≡ 7 → ⊥) → value_by_two used s ≡ s.value
other_value used s p q =
    let ignores : Bool = ignores_as4 (used 7) (used 18) in
    let path : List ℕ = path_octets four_octets (merged (as_path_in two_octets s.value) (cond ignores None (as4_path (used 17)))) in
    λ i. cond (ne_eqb s.kind 2 p i) path (cond (ne_eqb s.kind 7 q i) (aggregator_by ignores (used 18) s.value) s.value)
