-- Each attribute that is written for a two-octet peer is kept where it is read.
use Rattle.std.proofs.Common.{◌≡◌, ℕ, ◌<◌, ◌&&◌, Bool, true, false, cond, List, [], ◌∷◌, ◌++◌, length, map, refl, sym, ap, subst, ◌∙◌, arith, nat_lt, nat_eq}
use Rattle.std.specs.Prelude.{filter, is_some}
use Rattle.std.specs.List.{flat_map, list_any, AllByRecursion}
use Rattle.std.proofs.lemmas.Bool.{eqb-true, eq-eqb, ne_eqb, ltb-true}
use Rattle.rs_attrs.specs.declared.mode.Mode.TheVariants.{Two, Four}
use Rattle.rs_attrs.specs.declared.table.Class.TheVariants.{WellKnown, OptionalTransitive}
use Rattle.rs_attrs.specs.declared.table.Outcome.TheVariants.{Kept, Withdraw, Discard}
use Rattle.rs_attrs.specs.Paths.{Segment, two_octets, is_set_or_sequence, path_octets}
use Rattle.rs_attrs.specs.Table.{fits_class, outcome_of, is_kept, is_path}
use Rattle.rs_attrs.specs.Meaning.{Attribute, is_as4}
use Rattle.rs_attrs.specs.Writing.{flags_of, spelling_of, IsLegalAttribute, with_value, narrowed, narrowed_segment, path_in, aggregator_in, needs_four_octets, path_needs_four_octets, as4_attribute, as4_of, for_two}
use Rattle.rs_attrs.proofs.Fields.FirstOfType.{as4_discarded, IsGood}
use Rattle.rs_attrs.proofs.Paths.PathLaws.{path_back}
use Rattle.rs_attrs.proofs.Written.Narrowing.{narrowed_value, narrowed_is, same_class, IsPlain, same_outcome, other_value}
use Rattle.rs_attrs.proofs.Written.NarrowedNumbers.{path_facts, narrowed_each, as4_path_kept, aggregator_facts, as4_aggregator_kept, aggregator_value, aggregator_size}
use Rattle.rs_attrs.proofs.Written.TwoMap.{narrowed_same}

-- ---- each is kept

-- a legal attribute is neither AS4_PATH nor AS4_AGGREGATOR
pub no_as4 : (a : Attribute) → IsLegalAttribute a → (n : ℕ) → is_as4 n ≡ true → a.kind ≡ n → ⊥
no_as4 a legal n as4 kind =
    let discarded : is_kept (outcome_of Four (spelling_of a)) ≡ false = as4_discarded (spelling_of a) (ap is_as4 kind ∙ as4) in
    let kept = legal.is_kept in
    let no : true ≡ false = sym kept ∙ discarded in
    absurd cc

path_good : (a : Attribute) → IsLegalAttribute a → a.kind ≡ 2 → IsGood Two (spelling_of (with_value a (narrowed_value a)))
path_good a legal kind =
    let facts = path_facts a legal kind in
    let path : List Segment = facts.0 in
    let value : List ℕ = path_octets two_octets (map narrowed_segment path) in
    let written : narrowed_value a ≡ value = ap (λ b. cond b (path_octets two_octets (map narrowed_segment (path_in a.value))) (cond (nat_eq a.kind 7) (aggregator_value a.value) a.value)) (eq-eqb a.kind 2 kind)
    ∙ ap (λ path. path_octets two_octets (map narrowed_segment path)) facts.1.is in
    let flags : fits_class WellKnown (flags_of (with_value a value)) ≡ true = same_class WellKnown a value ∙ facts.1.flags in
    let well : is_path two_octets value ≡ true = ap is_some (path_back two_octets is_set_or_sequence (map narrowed_segment path) (narrowed_each path facts.1.spells.each)) in
    let P : ℕ → Type 0 = λ kind. is_kept (outcome_of Two (record { flags = flags_of (with_value a value); kind = kind; value = value })) ≡ true in
    let good : P 2 = λ i. is_kept (cond (flags i) (cond (well i) Kept Withdraw) Withdraw) in
    subst (λ (value : List ℕ). IsGood Two (spelling_of (with_value a value))) (sym written) (subst P (sym kind) good)

aggregator_good : (a : Attribute) → IsLegalAttribute a → a.kind ≡ 7 → IsGood Two (spelling_of (with_value a (narrowed_value a)))
aggregator_good a legal kind =
    let facts = aggregator_facts a legal kind in
    let value : List ℕ = aggregator_value a.value in
    let not_path : nat_eq a.kind 2 ≡ false = ne_eqb a.kind 2 (λ e. omega arith) in
    let written : narrowed_value a ≡ value = λ i. cond (not_path i) (path_octets two_octets (map narrowed_segment (path_in a.value))) (cond (eq-eqb a.kind 7 kind i) (aggregator_value a.value) a.value) in
    let flags : fits_class OptionalTransitive (flags_of (with_value a value)) ≡ true = same_class OptionalTransitive a value ∙ facts.flags in
    let size : nat_eq (length value) 6 ≡ true = eq-eqb (length value) 6 (aggregator_size a.value facts.size) in
    let P : ℕ → Type 0 = λ kind. is_kept (outcome_of Two (record { flags = flags_of (with_value a value); kind = kind; value = value })) ≡ true in
    let good : P 7 = λ i. is_kept (cond (flags i) (cond (size i) Kept Discard) Withdraw) in
    subst (λ (value : List ℕ). IsGood Two (spelling_of (with_value a value))) (sym written) (subst P (sym kind) good)

narrowed_good : (a : Attribute) → IsLegalAttribute a → IsGood Two (spelling_of (narrowed a))
narrowed_good a legal = subst (λ (a : Attribute). IsGood Two (spelling_of a)) (sym (narrowed_is a)) (by_tests (nat_eq a.kind 2) (nat_eq a.kind 7) refl refl)
  where
    plain : nat_eq a.kind 2 ≡ false → nat_eq a.kind 7 ≡ false → IsPlain a.kind
    plain e f = record {
      not_path = λ k. let no : true ≡ false = sym (eq-eqb a.kind 2 k) ∙ e in absurd cc;
      not_aggregator = λ k. let no : true ≡ false = sym (eq-eqb a.kind 7 k) ∙ f in absurd cc;
      not_as4_path = no_as4 a legal 17 refl;
      not_as4_aggregator = no_as4 a legal 18 refl;
    }

    by_tests : (b c : Bool) → nat_eq a.kind 2 ≡ b → nat_eq a.kind 7 ≡ c → IsGood Two (spelling_of (with_value a (narrowed_value a)))
    by_tests true c e f = path_good a legal (eqb-true a.kind 2 e)
    by_tests false true e f = aggregator_good a legal (eqb-true a.kind 7 f)
    by_tests false false e f =
        let is = plain e f in
        subst (λ (value : List ℕ). IsGood Two (spelling_of (with_value a value))) (sym (other_value a is.not_path is.not_aggregator))
        (ap is_kept (same_outcome (spelling_of a) is) ∙ legal.is_kept)

as4_good : (a : Attribute) → IsLegalAttribute a → AllByRecursion (λ a. IsGood Two (spelling_of a)) (as4_of a)
as4_good a legal = by_tests (nat_eq a.kind 2) (path_needs_four_octets a.value) (nat_eq a.kind 7) (needs_four_octets (aggregator_in a.value)) refl refl refl
  where
    path : nat_eq a.kind 2 ≡ true → path_needs_four_octets a.value ≡ true → IsGood Two (spelling_of (as4_attribute 17 a.value))
    path e f =
        let facts = path_facts a legal (eqb-true a.kind 2 e) in
        let needs : list_any (λ (s : Segment). list_any needs_four_octets s.numbers) facts.0 ≡ true =
        ap (λ (path : List Segment). list_any (λ (s : Segment). list_any needs_four_octets s.numbers) path) (sym facts.1.is) ∙ f in
        as4_path_kept a.value facts.0 facts.1.spells needs

    aggregator : nat_eq a.kind 7 ≡ true → IsGood Two (spelling_of (as4_attribute 18 a.value))
    aggregator e = as4_aggregator_kept a.value (aggregator_facts a legal (eqb-true a.kind 7 e)).size

    by_tests : (b n c w : Bool) → nat_eq a.kind 2 ≡ b → path_needs_four_octets a.value ≡ n → nat_eq a.kind 7 ≡ c
        → AllByRecursion (λ a. IsGood Two (spelling_of a)) (cond (b && n) (as4_attribute 17 a.value ∷ []) (cond (c && w) (as4_attribute 18 a.value ∷ []) []))
    by_tests true true c w e f g = (path e f, tt)
    by_tests true false true true e f g = (aggregator g, tt)
    by_tests true false true false e f g = tt
    by_tests true false false w e f g = tt
    by_tests false n true true e f g = (aggregator g, tt)
    by_tests false n true false e f g = tt
    by_tests false n false w e f g = tt

abbrev pub IsGoodAttribute : Attribute → Type 0
IsGoodAttribute a = IsGood Two (spelling_of a)

pub all_append : (P : Attribute → Type 0) (m n : List Attribute) → AllByRecursion P m → AllByRecursion P n → AllByRecursion P (m ++ n)
all_append P [] n p q = q
all_append P (a ∷ m) n p q = (p.0, all_append P m n p.1 q)

low_good : (m : List Attribute) → AllByRecursion IsLegalAttribute m → AllByRecursion IsGoodAttribute (map narrowed (filter (λ (a : Attribute). nat_lt a.kind 17) m))
low_good [] legal = tt
low_good (a ∷ m) legal = by_test (nat_lt a.kind 17) (low_good m legal.1)
  where
    by_test : (b : Bool) → AllByRecursion IsGoodAttribute (map narrowed (filter (λ (a : Attribute). nat_lt a.kind 17) m))
        → AllByRecursion IsGoodAttribute (map narrowed (cond b (a ∷ filter (λ (a : Attribute). nat_lt a.kind 17) m) (filter (λ (a : Attribute). nat_lt a.kind 17) m)))
    by_test true later = (narrowed_good a legal.0, later)
    by_test false later = later

middle_good : (m : List Attribute) → AllByRecursion IsLegalAttribute m → AllByRecursion IsGoodAttribute (flat_map as4_of m)
middle_good [] legal = tt
middle_good (a ∷ m) legal = all_append IsGoodAttribute (as4_of a) (flat_map as4_of m) (as4_good a legal.0) (middle_good m legal.1)

high_good : (m : List Attribute) → AllByRecursion IsLegalAttribute m → AllByRecursion IsGoodAttribute (filter (λ (a : Attribute). nat_lt 18 a.kind) m)
high_good [] legal = tt
high_good (a ∷ m) legal = by_test (nat_lt 18 a.kind) refl (high_good m legal.1)
  where
    by_test : (b : Bool) → nat_lt 18 a.kind ≡ b → AllByRecursion IsGoodAttribute (filter (λ (a : Attribute). nat_lt 18 a.kind) m)
        → AllByRecursion IsGoodAttribute (cond b (a ∷ filter (λ (a : Attribute). nat_lt 18 a.kind) m) (filter (λ (a : Attribute). nat_lt 18 a.kind) m))
    by_test true e later =
        let above : 18 < a.kind = ltb-true 18 a.kind e in
        (subst IsGoodAttribute (narrowed_same a (λ e. omega arith) (λ e. omega arith)) (narrowed_good a legal.0), later)
    by_test false e later = later

pub two_good : (m : List Attribute) → AllByRecursion IsLegalAttribute m → AllByRecursion IsGoodAttribute (for_two m)
two_good m legal =
    all_append IsGoodAttribute (map narrowed (filter (λ (a : Attribute). nat_lt a.kind 17) m) ++ flat_map as4_of m) (filter (λ (a : Attribute). nat_lt 18 a.kind) m)
    (all_append IsGoodAttribute (map narrowed (filter (λ (a : Attribute). nat_lt a.kind 17) m)) (flat_map as4_of m) (low_good m legal) (middle_good m legal))
    (high_good m legal)

pub spelt_good : (m : List Attribute) → AllByRecursion IsGoodAttribute m → AllByRecursion (IsGood Two) (map spelling_of m)
spelt_good [] good = tt
spelt_good (a ∷ m) good = (good.0, spelt_good m good.1)
