-- An attribute as it is written for a two-octet peer, and how that is read.
use Rattle.std.proofs.Common.{◌≡◌, ℕ, ◌&&◌, Bool, true, false, cond, not, List, [], ◌∷◌, ◌++◌, length, map, drop, Option, Some, refl, sym, ap, ◌∙◌, nat_lt, nat_eq}
use Rattle.std.specs.Prelude.{◌==◌}
use Rattle.std.specs.List.{find}
use Rattle.std.specs.Int.{w16, to_be_bytes}
use Rattle.std.proofs.lemmas.Bool.{ne_eqb}
use Rattle.rs_attrs.specs.declared.mode.Mode.{Mode}
use Rattle.rs_attrs.specs.declared.mode.Mode.TheVariants.{Two, Four}
use Rattle.rs_attrs.specs.declared.table.Outcome.{Outcome}
use Rattle.rs_attrs.specs.declared.table.Outcome.TheVariants.{Kept, Withdraw}
use Rattle.rs_attrs.specs.declared.table.Class.{Class}
use Rattle.rs_attrs.specs.declared.table.Class.TheVariants.{WellKnown, OptionalTransitive, OptionalNonTransitive, Any}
use Rattle.rs_attrs.proofs.Written.ReadBack.{FlagsBack, flags_of_back}
use Rattle.rs_attrs.specs.Spellings.{Spelling}
use Rattle.rs_attrs.specs.Paths.{two_octets, path_octets}
use Rattle.rs_attrs.specs.Table.{Row, fits_class, rows, outcome_by, outcome_of, is_well_formed}
use Rattle.rs_attrs.specs.Meaning.{Attribute}
use Rattle.rs_attrs.specs.Writing.{flags_of, as_trans_or, narrowed_segment, path_in, aggregator_in, with_value, narrowed, as4_attribute}

-- ---- the attribute with another value

abbrev pub narrowed_value : Attribute → List ℕ
narrowed_value a =
    cond (nat_eq a.kind 2) (path_octets two_octets (map narrowed_segment (path_in a.value)))
    (cond (nat_eq a.kind 7) (to_be_bytes w16 (as_trans_or (aggregator_in a.value)) ++ drop 4 a.value) a.value)

pub narrowed_is : (a : Attribute) → narrowed a ≡ with_value a (narrowed_value a)
narrowed_is a = by_tests (nat_eq a.kind 2) (nat_eq a.kind 7)
  where
    by_tests : (two seven : Bool)
        → cond two (with_value a (path_octets two_octets (map narrowed_segment (path_in a.value)))) (cond seven (with_value a (to_be_bytes w16 (as_trans_or (aggregator_in a.value)) ++ drop 4 a.value)) a)
        ≡ with_value a (cond two (path_octets two_octets (map narrowed_segment (path_in a.value))) (cond seven (to_be_bytes w16 (as_trans_or (aggregator_in a.value)) ++ drop 4 a.value) a.value))
    by_tests true seven = refl
    by_tests false true = refl
    by_tests false false = refl

-- AS_PATH and AGGREGATOR alone have another
pub other_value : (a : Attribute) → (a.kind ≡ 2 → ⊥) → (a.kind ≡ 7 → ⊥) → narrowed_value a ≡ a.value
other_value a no2 no7 = λ i. cond (ne_eqb a.kind 2 no2 i) (path_octets two_octets (map narrowed_segment (path_in a.value))) (cond (ne_eqb a.kind 7 no7 i) (to_be_bytes w16 (as_trans_or (aggregator_in a.value)) ++ drop 4 a.value) a.value)

-- ---- flags

-- the optional and the transitive flag are those of the attribute, whatever its value
pub same_class : (class : Class) (a : Attribute) (value : List ℕ) → fits_class class (flags_of (with_value a value)) ≡ fits_class class (flags_of a)
same_class class a value = by_class class (flags_of_back (with_value a value)) (flags_of_back a)
  where
    by_class : (class : Class) → FlagsBack a.optional a.transitive a.partial (nat_lt 255 (length value)) → FlagsBack a.optional a.transitive a.partial (nat_lt 255 (length a.value))
        → fits_class class (flags_of (with_value a value)) ≡ fits_class class (flags_of a)
    by_class WellKnown new old = λ i. not ((new.optional ∙ sym old.optional) i) && (new.transitive ∙ sym old.transitive) i
    by_class OptionalTransitive new old = λ i. (new.optional ∙ sym old.optional) i && (new.transitive ∙ sym old.transitive) i
    by_class OptionalNonTransitive new old = λ i. (new.optional ∙ sym old.optional) i && not ((new.transitive ∙ sym old.transitive) i)
    by_class Any new old = refl

pub as4_class : (kind : ℕ) (value : List ℕ) → fits_class OptionalTransitive (flags_of (as4_attribute kind value)) ≡ true
as4_class kind value = let back = flags_of_back (as4_attribute kind value) in λ i. back.optional i && back.transitive i

-- ---- a type whose value is the same for both kinds of peer

abbrev outcome_in : Mode → List Row → Spelling → Outcome
outcome_in mode rows s = outcome_by mode (find (λ r. r.kind == s.kind) rows) s

-- two rows in the same place: one and the same, with the same values, or of another type
data RowPair (s : Spelling) (two four : Row) : Type 0 where
  One : two ≡ four → ((value : List ℕ) → is_well_formed Two two.shape value ≡ is_well_formed Four two.shape value) → RowPair s two four
  Other : nat_eq two.kind s.kind ≡ false → nat_eq four.kind s.kind ≡ false → RowPair s two four

abbrev RowPairs : Spelling → List Row → List Row → Type 0
RowPairs s [] [] = Unit {0}
RowPairs s (two ∷ twos) (four ∷ fours) = RowPair s two four × RowPairs s twos fours
RowPairs s _ _ = ⊥

same_by : (s : Spelling) (two four : List Row) → RowPairs s two four → outcome_in Two two s ≡ outcome_in Four four s
same_by s [] [] pairs = refl
same_by s [] (four ∷ fours) pairs = absurd pairs
same_by s (two ∷ twos) [] pairs = absurd pairs
same_by s (two ∷ twos) (four ∷ fours) pairs = by_pair pairs.0 (same_by s twos fours pairs.1)
  where
    rest : List Row → Option Row
    rest rows = find (λ r. r.kind == s.kind) rows

    by_test : (r : Row) → ((value : List ℕ) → is_well_formed Two r.shape value ≡ is_well_formed Four r.shape value) → outcome_by Two (rest twos) s ≡ outcome_by Four (rest fours) s
        → (b : Bool) → outcome_by Two (cond b (Some r) (rest twos)) s ≡ outcome_by Four (cond b (Some r) (rest fours)) s
    by_test r same later true = ap (λ well. cond (fits_class r.class s.flags) (cond well Kept r.otherwise) Withdraw) (same s.value)
    by_test r same later false = later

    by_pair : RowPair s two four → outcome_by Two (rest twos) s ≡ outcome_by Four (rest fours) s
        → outcome_by Two (cond (nat_eq two.kind s.kind) (Some two) (rest twos)) s ≡ outcome_by Four (cond (nat_eq four.kind s.kind) (Some four) (rest fours)) s
    by_pair (One is same) later =
        by_test two same later (nat_eq two.kind s.kind) ∙ ap (λ (r : Row). outcome_by Four (cond (nat_eq r.kind s.kind) (Some r) (rest fours)) s) is
    by_pair (Other p q) later =
        ap (λ b. outcome_by Two (cond b (Some two) (rest twos)) s) p ∙ later
        ∙ sym (ap (λ b. outcome_by Four (cond b (Some four) (rest fours)) s) q)

-- neither AS_PATH, AGGREGATOR, AS4_PATH nor AS4_AGGREGATOR
pub record IsPlain (kind : ℕ) : Type 0 where
  pub not_path : kind ≡ 2 → ⊥
  pub not_aggregator : kind ≡ 7 → ⊥
  pub not_as4_path : kind ≡ 17 → ⊥
  pub not_as4_aggregator : kind ≡ 18 → ⊥

-- such a type comes to the same for both kinds of peer
pub same_outcome : (s : Spelling) → IsPlain s.kind → outcome_of Two s ≡ outcome_of Four s
same_outcome s plain =
    let other : (n : ℕ) → (s.kind ≡ n → ⊥) → nat_eq n s.kind ≡ false = λ n no. ne_eqb n s.kind (λ e. no (sym e)) in
    let path = other 2 plain.not_path in
    let aggregator = other 7 plain.not_aggregator in
    let as4_path = other 17 plain.not_as4_path in
    let as4_aggregator = other 18 plain.not_as4_aggregator in
    same_by s (rows Two) (rows Four) (
      One refl (λ value. refl),
      (
        Other path path,
        (
          One refl (λ value. refl),
          (
            One refl (λ value. refl),
            (
              One refl (λ value. refl),
              (
                One refl (λ value. refl),
                (
                  Other aggregator aggregator,
                  (
                    One refl (λ value. refl),
                    (
                      One refl (λ value. refl),
                      (
                        One refl (λ value. refl),
                        (
                          One refl (λ value. refl),
                          (
                            One refl (λ value. refl),
                            (
                              One refl (λ value. refl),
                              (
                                One refl (λ value. refl),
                                (
                                  Other as4_path as4_path,
                                  (
                                    Other as4_aggregator as4_aggregator,
                                    tt,
                                  ),
                                ),
                              ),
                            ),
                          ),
                        ),
                      ),
                    ),
                  ),
                ),
              ),
            ),
          ),
        ),
      ),
    )
