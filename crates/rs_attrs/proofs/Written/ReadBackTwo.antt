-- What is spelt for a two-octet peer is read again.
use Rattle.std.proofs.Common.{◌≡◌, ℕ, ◌+◌, ◌-◌, ◌<◌, ◌&&◌, ◌||◌, Bool, true, false, cond, not, List, [], ◌∷◌, ◌++◌, length, map, Option, Some, None, refl, sym, ap, subst, ◌∙◌, arith, nat_lt, nat_eq}
use Rattle.std.specs.Prelude.{◌==◌, filter, option_map}
use Rattle.std.specs.List.{flat_map, list_any, AllByRecursion}
use Rattle.std.proofs.lemmas.Bool.{eqb-true, eq-eqb, ne_eqb, le-ltb}
use Rattle.rs_attrs.proofs.Paths.Leading.{leading_none}
use Rattle.rs_attrs.specs.declared.mode.Mode.TheVariants.{Two, Four}
use Rattle.rs_attrs.specs.Spellings.{Spelling, IsSpelling}
use Rattle.rs_attrs.specs.Paths.{Segment, two_octets, four_octets, is_set_or_sequence, path_octets, path_length, leading, as_path_in, as4_path_in, or_none}
use Rattle.rs_attrs.specs.Table.{outcome_of, is_kept, is_withdraw, is_discard, is_unknown}
use Rattle.rs_octets.specs.Numbers.{as_trans}
use Rattle.rs_attrs.specs.Meaning.{Attribute, attribute_with, partial_of, if_kept, kept_spelling, kept, is_as4, aggregator_as, as4_path, if_some, ignores_as4, merged, aggregator_by, value_by_two, get, stands_twice, some_comes_to, faults_of}
use Rattle.rs_attrs.specs.Writing.{spelling_of, IsLegal, IsLegalAttribute, with_value, narrowed, narrowed_segment, path_in, aggregator_in, needs_four_octets, path_needs_four_octets, as4_attribute, as4_of, for_two, no_faults, ReadsBack}
use Rattle.rs_attrs.proofs.Fields.FirstOfType.{none_comes_to, not_withdraw, not_discard, not_unknown}
use Rattle.rs_attrs.proofs.Written.ReadBack.{FlagsBack, flags_of_back, partial_of_back, spellings_back, fits_by, count, count_cons}
use Rattle.rs_attrs.proofs.Paths.PathLaws.{path_back}
use Rattle.rs_attrs.proofs.Written.Narrowing.{narrowed_value, narrowed_is}
use Rattle.rs_attrs.proofs.Written.NarrowedNumbers.{path_facts, narrowed_each, narrowed_length, same_path, as4_segments, all_stay, AggregatorFacts, aggregator_facts, aggregator_value, aggregator_as_back, aggregator_back}
use Rattle.rs_attrs.proofs.Written.TwoKept.{IsGoodAttribute, all_append, no_as4, spelt_good, two_good}
use Rattle.rs_attrs.proofs.Written.TwoMap.{as4_aggregator_found, as4_aggregator_of, as4_path_found, as4_path_of, counts_spelt, get_has, get_kind, other_found, same_kind}

-- ---- what is read

abbrev written : List Attribute → List Spelling
written m = map spelling_of (for_two m)

-- the spelling that counts is kept
kept_at : (m : List Attribute) → AllByRecursion IsLegalAttribute m → (kind : ℕ) → kept_spelling Two (written m) kind ≡ option_map spelling_of (get kind (for_two m))
kept_at m legal kind = ap (if_kept Two) (counts_spelt kind (for_two m)) ∙ by_found (get kind (for_two m)) refl
  where
    by_found : (o : Option Attribute) → get kind (for_two m) ≡ o → if_kept Two (option_map spelling_of o) ≡ option_map spelling_of o
    by_found None e = refl
    by_found (Some a) e = ap (λ b. cond b (Some (spelling_of a)) None) (get_has IsGoodAttribute kind (for_two m) a e (two_good m legal))

abbrev ignores : List Attribute → Bool
ignores m = ignores_as4 (kept_spelling Two (written m) 7) (kept_spelling Two (written m) 18)

-- an AGGREGATOR that is written with AS4_AGGREGATOR stands for it
never_ignores : (m : List Attribute) → IsLegal m → ignores m ≡ false
never_ignores m legal =
    (λ i. ignores_as4 (kept_at m legal.each 7 i) (kept_at m legal.each 18 i))
    ∙ (λ i. ignores_as4 (option_map spelling_of (other_found 7 m (λ e. omega arith) (λ e. omega arith) i)) (option_map spelling_of (as4_aggregator_found m legal.rising i)))
    ∙ by_found (get 7 m) refl
  where
    by_found : (o : Option Attribute) → get 7 m ≡ o → ignores_as4 (option_map spelling_of (option_map narrowed o)) (option_map spelling_of (as4_aggregator_of o)) ≡ false
    by_found None e = refl
    by_found (Some a) e = by_need (needs_four_octets (aggregator_in a.value)) refl
      where
        kind : a.kind ≡ 7
        kind = get_kind 7 m a e

        value_is : (narrowed a).value ≡ aggregator_value a.value
        value_is =
            let seven : a.kind ≡ 7 = kind in
            ap (λ (a : Attribute). a.value) (narrowed_is a)
            ∙ (λ i. cond (ne_eqb a.kind 2 (λ e. omega arith) i) (path_octets two_octets (map narrowed_segment (path_in a.value))) (cond (eq-eqb a.kind 7 kind i) (aggregator_value a.value) a.value))

        by_need : (b : Bool) → needs_four_octets (aggregator_in a.value) ≡ b → ignores_as4 (Some (spelling_of (narrowed a))) (option_map spelling_of (cond b (Some (as4_attribute 18 a.value)) None)) ≡ false
        by_need true f =
            ap (λ value. not (aggregator_as value == as_trans)) value_is
            ∙ ap (λ n. not (n == as_trans)) (aggregator_as_back a.value ∙ ap (λ b. cond b as_trans (aggregator_in a.value)) f)
        by_need false f = refl

-- a spelling with another value is read as that attribute, where the value is read back
attribute_two_back : (a : Attribute) (value read : List ℕ) → IsLegalAttribute a → read ≡ a.value → attribute_with read (spelling_of (with_value a value)) ≡ a
attribute_two_back a value read legal e =
    let back : FlagsBack a.optional a.transitive a.partial (nat_lt 255 (length value)) = flags_of_back (with_value a value) in
    let partial : partial_of (spelling_of (with_value a value)) ≡ a.partial = partial_of_back (with_value a value) legal.partial in
    λ i. record { kind = a.kind; optional = back.optional i; transitive = back.transitive i; partial = partial i; value = e i }

-- AS_PATH with AS4_PATH beside it, where a number needs that
path_read : (path : List Segment) (ss : List Spelling) → (o : Option (List Segment)) → ((list_any (λ (s : Segment). list_any needs_four_octets s.numbers) path ≡ true → o ≡ Some path))
    → (list_any (λ (s : Segment). list_any needs_four_octets s.numbers) path ≡ false → o ≡ None) → merged (map narrowed_segment path) o ≡ path
path_read path ss o needs not_needs = by_need (list_any (λ (s : Segment). list_any needs_four_octets s.numbers) path) refl
  where
    equal : nat_lt (path_length (map narrowed_segment path)) (path_length path) ≡ false
    equal = let same = narrowed_length path in le-ltb (path_length (map narrowed_segment path)) (path_length path) (omega arith)

    difference : path_length (map narrowed_segment path) - path_length path ≡ 0
    difference = let same = narrowed_length path in omega arith

    by_need : (b : Bool) → list_any (λ (s : Segment). list_any needs_four_octets s.numbers) path ≡ b → merged (map narrowed_segment path) o ≡ path
    by_need true e =
        ap (merged (map narrowed_segment path)) (needs e)
        ∙ ap (λ b. cond b (map narrowed_segment path) (leading (path_length (map narrowed_segment path) - path_length path) (map narrowed_segment path) ++ path)) equal
        ∙ ap (λ n. leading n (map narrowed_segment path) ++ path) difference
        ∙ ap (λ front. front ++ path) (leading_none (map narrowed_segment path))
    by_need false e = ap (merged (map narrowed_segment path)) (not_needs e) ∙ same_path path e

value_back : (m : List Attribute) → IsLegal m → (a : Attribute) → get a.kind m ≡ Some a → value_by_two (kept_spelling Two (written m)) (spelling_of (with_value a (narrowed_value a))) ≡ a.value
value_back m legal a found = by_tests (nat_eq a.kind 2) (nat_eq a.kind 7) refl refl
  where
    here : IsLegalAttribute a
    here = get_has IsLegalAttribute a.kind m a found legal.each

    value : List ℕ
    value = narrowed_value a

    by_kind : Bool → Bool → List ℕ → List ℕ
    by_kind b c value =
        cond b (path_octets four_octets (merged (as_path_in two_octets value) (cond (ignores m) None (as4_path (kept_spelling Two (written m) 17)))))
        (cond c (aggregator_by (ignores m) (kept_spelling Two (written m) 18) value) value)

    path_is : a.kind ≡ 2 → by_kind true false value ≡ a.value
    path_is kind =
        let facts = path_facts a here kind in
        let path : List Segment = facts.0 in
        let spells = facts.1.spells in
        let found_two : get 2 m ≡ Some a = ap (λ n. get n m) (sym kind) ∙ found in
        let value_is : value ≡ path_octets two_octets (map narrowed_segment path) =
        ap (λ b. cond b (path_octets two_octets (map narrowed_segment (path_in a.value))) (cond (nat_eq a.kind 7) (aggregator_value a.value) a.value)) (eq-eqb a.kind 2 kind)
        ∙ ap (λ path. path_octets two_octets (map narrowed_segment path)) facts.1.is in
        let read_two : as_path_in two_octets value ≡ map narrowed_segment path =
        ap (as_path_in two_octets) value_is ∙ ap or_none (path_back two_octets is_set_or_sequence (map narrowed_segment path) (narrowed_each path spells.each)) in
        let as4 : kept_spelling Two (written m) 17 ≡ option_map spelling_of (cond (path_needs_four_octets a.value) (Some (as4_attribute 17 a.value)) None) =
        kept_at m legal.each 17 ∙ ap (option_map spelling_of) (as4_path_found m legal.rising ∙ ap as4_path_of found_two) in
        let needs_is : path_needs_four_octets a.value ≡ list_any (λ (s : Segment). list_any needs_four_octets s.numbers) path =
        ap (λ (path : List Segment). list_any (λ (s : Segment). list_any needs_four_octets s.numbers) path) facts.1.is in
        let read_as4 : as4_path (kept_spelling Two (written m) 17) ≡ as4_path (option_map spelling_of (cond (list_any (λ (s : Segment). list_any needs_four_octets s.numbers) path) (Some (as4_attribute 17 a.value)) None)) =
        ap as4_path (as4 ∙ ap (λ b. option_map spelling_of (cond b (Some (as4_attribute 17 a.value)) None)) needs_is) in
        let whole : as4_path_in a.value ≡ path = ap or_none (as4_segments a.value path spells) in
        let merges : merged (map narrowed_segment path) (as4_path (kept_spelling Two (written m) 17)) ≡ path =
        path_read path (written m) (as4_path (kept_spelling Two (written m) 17))
        (λ e. read_as4 ∙ ap (λ b. as4_path (option_map spelling_of (cond b (Some (as4_attribute 17 a.value)) None))) e
        ∙ ap (λ (path : List Segment). if_some (filter (λ (s : Segment). is_set_or_sequence s.kind) path)) whole ∙ ap if_some (all_stay path spells.each) ∙ some_path path e)
        (λ e. read_as4 ∙ ap (λ b. as4_path (option_map spelling_of (cond b (Some (as4_attribute 17 a.value)) None))) e) in
        ap (λ b. path_octets four_octets (merged (as_path_in two_octets value) (cond b None (as4_path (kept_spelling Two (written m) 17))))) (never_ignores m legal)
        ∙ ap (λ front. path_octets four_octets (merged front (as4_path (kept_spelling Two (written m) 17)))) read_two
        ∙ ap (path_octets four_octets) merges
        ∙ sym spells.whole
      where
        some_path : (path : List Segment) → list_any (λ (s : Segment). list_any needs_four_octets s.numbers) path ≡ true → if_some path ≡ Some path
        some_path [] e = absurd cc
        some_path (s ∷ path) e = refl

    aggregator_is : a.kind ≡ 7 → by_kind false true value ≡ a.value
    aggregator_is kind =
        let facts = aggregator_facts a here kind in
        let found_seven : get 7 m ≡ Some a = ap (λ n. get n m) (sym kind) ∙ found in
        let not_path : nat_eq a.kind 2 ≡ false = ne_eqb a.kind 2 (λ e. omega arith) in
        let value_is : value ≡ aggregator_value a.value =
        λ i. cond (not_path i) (path_octets two_octets (map narrowed_segment (path_in a.value))) (cond (eq-eqb a.kind 7 kind i) (aggregator_value a.value) a.value) in
        let as4 : kept_spelling Two (written m) 18 ≡ option_map spelling_of (cond (needs_four_octets (aggregator_in a.value)) (Some (as4_attribute 18 a.value)) None) =
        kept_at m legal.each 18 ∙ ap (option_map spelling_of) (as4_aggregator_found m legal.rising ∙ ap as4_aggregator_of found_seven) in
        (λ i. aggregator_by (never_ignores m legal i) (as4 i) (value_is i)) ∙ by_need facts (needs_four_octets (aggregator_in a.value)) refl
      where
        by_need : AggregatorFacts a → (b : Bool) → needs_four_octets (aggregator_in a.value) ≡ b
            → aggregator_by false (option_map spelling_of (cond b (Some (as4_attribute 18 a.value)) None)) (aggregator_value a.value) ≡ a.value
        by_need facts true e = refl
        by_need facts false e = aggregator_back a.value here.octets facts.size e

    by_tests : (b c : Bool) → nat_eq a.kind 2 ≡ b → nat_eq a.kind 7 ≡ c → by_kind (nat_eq a.kind 2) (nat_eq a.kind 7) value ≡ a.value
    by_tests true c e f = ap (λ b. by_kind b (nat_eq a.kind 7) value) e ∙ path_is (eqb-true a.kind 2 e)
    by_tests false true e f = (λ i. by_kind (e i) (f i) value) ∙ aggregator_is (eqb-true a.kind 7 f)
    by_tests false false e f =
        (λ i. by_kind (e i) (f i) value)
        ∙ (λ i. cond (e i) (path_octets two_octets (map narrowed_segment (path_in a.value))) (cond (f i) (aggregator_value a.value) a.value))

same_two_back : (m : List Attribute) → IsLegal m → (kind : ℕ) → get kind m ≡ kept Two (written m) kind
same_two_back m legal kind = by_test (is_as4 kind) refl
  where
    none : is_as4 kind ≡ true → (o : Option Attribute) → get kind m ≡ o → o ≡ None
    none as4 None e = refl
    none as4 (Some a) e = absurd (no_as4 a (get_has IsLegalAttribute kind m a e legal.each) kind as4 (get_kind kind m a e))

    not_17 : is_as4 kind ≡ false → kind ≡ 17 → ⊥
    not_17 e k = let no : true ≡ false = ap is_as4 (sym k) ∙ e in absurd cc

    not_18 : is_as4 kind ≡ false → kind ≡ 18 → ⊥
    not_18 e k = let no : true ≡ false = ap is_as4 (sym k) ∙ e in absurd cc

    read : (o : Option Attribute) → get kind m ≡ o → option_map (λ s. attribute_with (value_by_two (kept_spelling Two (written m)) s) s) (option_map spelling_of (option_map narrowed o)) ≡ o
    read None e = refl
    read (Some a) e =
        let kind_is : a.kind ≡ kind = get_kind kind m a e in
        ap (λ (b : Attribute). Some (attribute_with (value_by_two (kept_spelling Two (written m)) (spelling_of b)) (spelling_of b))) (narrowed_is a)
        ∙ ap Some (attribute_two_back a (narrowed_value a) (value_by_two (kept_spelling Two (written m)) (spelling_of (with_value a (narrowed_value a)))) (get_has IsLegalAttribute kind m a e legal.each)
        (value_back m legal a (ap (λ n. get n m) kind_is ∙ e)))

    by_test : (b : Bool) → is_as4 kind ≡ b → get kind m ≡ cond b None (option_map (λ s. attribute_with (value_by_two (kept_spelling Two (written m)) s) s) (kept_spelling Two (written m) kind))
    by_test true e = none e (get kind m) refl
    by_test false e =
        sym (ap (option_map (λ s. attribute_with (value_by_two (kept_spelling Two (written m)) s) s)) (kept_at m legal.each kind ∙ ap (option_map spelling_of) (other_found kind m (not_17 e) (not_18 e)))
        ∙ read (get kind m) refl)

-- ---- the spellings, and the whole

abbrev IsSmall : Attribute → Type 0
IsSmall a = a.kind < 256

low_small : (m : List Attribute) → AllByRecursion IsLegalAttribute m → AllByRecursion IsSmall (map narrowed (filter (λ (a : Attribute). nat_lt a.kind 17) m))
low_small [] legal = tt
low_small (a ∷ m) legal = by_test (nat_lt a.kind 17) (low_small m legal.1)
  where
    by_test : (b : Bool) → AllByRecursion IsSmall (map narrowed (filter (λ (a : Attribute). nat_lt a.kind 17) m))
        → AllByRecursion IsSmall (map narrowed (cond b (a ∷ filter (λ (a : Attribute). nat_lt a.kind 17) m) (filter (λ (a : Attribute). nat_lt a.kind 17) m)))
    by_test true later = (subst (λ (n : ℕ). n < 256) (sym (same_kind a)) legal.0.kind, later)
    by_test false later = later

middle_small : (m : List Attribute) → AllByRecursion IsSmall (flat_map as4_of m)
middle_small [] = tt
middle_small (a ∷ m) =
    all_append IsSmall (as4_of a) (flat_map as4_of m)
    (by_tests (nat_eq a.kind 2 && path_needs_four_octets a.value) (nat_eq a.kind 7 && needs_four_octets (aggregator_in a.value)))
    (middle_small m)
  where
    by_tests : (b c : Bool) → AllByRecursion IsSmall (cond b (as4_attribute 17 a.value ∷ []) (cond c (as4_attribute 18 a.value ∷ []) []))
    by_tests true c = (omega arith, tt)
    by_tests false true = (omega arith, tt)
    by_tests false false = tt

high_small : (m : List Attribute) → AllByRecursion IsLegalAttribute m → AllByRecursion IsSmall (filter (λ (a : Attribute). nat_lt 18 a.kind) m)
high_small [] legal = tt
high_small (a ∷ m) legal = by_test (nat_lt 18 a.kind) (high_small m legal.1)
  where
    by_test : (b : Bool) → AllByRecursion IsSmall (filter (λ (a : Attribute). nat_lt 18 a.kind) m)
        → AllByRecursion IsSmall (cond b (a ∷ filter (λ (a : Attribute). nat_lt 18 a.kind) m) (filter (λ (a : Attribute). nat_lt 18 a.kind) m))
    by_test true later = (legal.0.kind, later)
    by_test false later = later

two_small : (m : List Attribute) → AllByRecursion IsLegalAttribute m → AllByRecursion IsSmall (for_two m)
two_small m legal =
    all_append IsSmall (map narrowed (filter (λ (a : Attribute). nat_lt a.kind 17) m) ++ flat_map as4_of m) (filter (λ (a : Attribute). nat_lt 18 a.kind) m)
    (all_append IsSmall (map narrowed (filter (λ (a : Attribute). nat_lt a.kind 17) m)) (flat_map as4_of m) (low_small m legal) (middle_small m))
    (high_small m legal)

each_two_back : (m : List Attribute) → AllByRecursion IsSmall m → AllByRecursion (λ a. length a.value < 65536) m → AllByRecursion IsSpelling (map spelling_of m)
each_two_back [] small short = tt
each_two_back (a ∷ m) small short =
    let back = flags_of_back a in
    let P : Bool → Type 0 = λ long. length a.value < cond long 65536 256 in (
      record {
        flags = back.fits;
        kind = small.0;
        length_fits = subst P (sym back.long) (fits_by (nat_lt 255 (length a.value)) (length a.value) refl short.0);
      },
      each_two_back m small.1 short.1,
    )

-- a type that isn't there doesn't stand twice
count_none : (kind : ℕ) (m : List Attribute) → get kind m ≡ None → count kind m ≡ 0
count_none kind [] e = refl
count_none kind (a ∷ m) e = count_cons kind a m ∙ by_test (nat_eq a.kind kind) e (λ e. count_none kind m e)
  where
    by_test : (b : Bool) → cond b (Some a) (get kind m) ≡ None → (get kind m ≡ None → count kind m ≡ 0) → cond b 1 0 + count kind m ≡ 0
    by_test true e later = absurd cc
    by_test false e later = let none : count kind m ≡ 0 = later e in omega arith

never_kept : (kind : ℕ) → ((s : Spelling) → s.kind ≡ kind → is_kept (outcome_of Four s) ≡ false) → (m : List Attribute) → AllByRecursion IsLegalAttribute m → get kind m ≡ None
never_kept kind never m legal = by_found (get kind m) refl
  where
    by_found : (o : Option Attribute) → get kind m ≡ o → o ≡ None
    by_found None e = refl
    by_found (Some a) e =
        let kept : is_kept (outcome_of Four (spelling_of a)) ≡ true = (get_has IsLegalAttribute kind m a e legal).is_kept in
        let no : true ≡ false = sym kept ∙ never (spelling_of a) (get_kind kind m a e) in
        absurd cc

discarded_14 : (s : Spelling) → s.kind ≡ 14 → is_kept (outcome_of Four s) ≡ false
discarded_14 s e = subst (λ (kind : ℕ). is_kept (outcome_of Four (record { flags = s.flags; kind = kind; value = s.value })) ≡ false) (sym e) refl

discarded_15 : (s : Spelling) → s.kind ≡ 15 → is_kept (outcome_of Four s) ≡ false
discarded_15 s e = subst (λ (kind : ℕ). is_kept (outcome_of Four (record { flags = s.flags; kind = kind; value = s.value })) ≡ false) (sym e) refl

not_twice : (kind : ℕ) (m : List Attribute) → get kind (for_two m) ≡ None → stands_twice kind (written m) ≡ false
not_twice kind m e = let none = count_none kind (for_two m) e in le-ltb 1 _ (omega arith)

faults_two_back : (m : List Attribute) → IsLegal m → no_faults ≡ faults_of Two (written m) []
faults_two_back m legal =
    let good = spelt_good (for_two m) (two_good m legal.each) in
    let none_14 : get 14 (for_two m) ≡ None = other_found 14 m (λ e. omega arith) (λ e. omega arith) ∙ ap (option_map narrowed) (never_kept 14 discarded_14 m legal.each) in
    let none_15 : get 15 (for_two m) ≡ None = other_found 15 m (λ e. omega arith) (λ e. omega arith) ∙ ap (option_map narrowed) (never_kept 15 discarded_15 m legal.each) in
    let twice : (stands_twice 14 (written m) || stands_twice 15 (written m)) ≡ false = λ i. not_twice 14 m none_14 i || not_twice 15 m none_15 i in
    let withdraw : (some_comes_to is_withdraw Two (written m) || false) ≡ false = ap (λ b. b || false) (none_comes_to is_withdraw not_withdraw Two (written m) good) in
    let unknown = none_comes_to is_unknown not_unknown Two (written m) good in
    let discard = none_comes_to is_discard not_discard Two (written m) good in
    sym (λ i. record { mp_twice = twice i; withdraw = withdraw i; unknown = unknown i; discard = discard i })

pub reads_back_two : ReadsBack Two
reads_back_two m legal short = (
  written m,
  [],
  record { whole = spellings_back (for_two m); each = each_two_back (for_two m) (two_small m legal.each) short; stops = λ s after h e. cc },
  record { rising = legal.rising; same = same_two_back m legal },
  faults_two_back m legal,
)
