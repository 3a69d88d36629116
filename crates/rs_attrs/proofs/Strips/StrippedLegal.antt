-- What is left of legal attributes is legal.
use Rattle.std.proofs.Common.{◌≡◌, ◌≢◌, ℕ, suc, ◌*◌, ◌%◌, ◌<◌, ◌&&◌, ◌⊎◌, inl, inr, Bool, true, false, cond, List, [], ◌∷◌, ◌++◌, length, refl, sym, ap, ◌∙◌, subst, arith, eq-eqb}
use Rattle.std.specs.List.{flat_map, AllByRecursion}
use Rattle.std.specs.Int.{w32, to_be_bytes}
use Rattle.std.proofs.lemmas.Bool.{lt-ltb, ne_eqb}
use Rattle.rs_attrs.specs.declared.mode.Mode.TheVariants.{Four}
use Rattle.rs_attrs.specs.declared.table.Outcome.TheVariants.{Kept, Withdraw}
use Rattle.rs_attrs.specs.Spellings.{Spelling, AreOctets, has_flag}
use Rattle.rs_attrs.specs.Table.{row_of, is_kept, is_filled_list_of, outcome_by, outcome_of}
use Rattle.rs_attrs.specs.Meaning.{Attribute, AllAbove, IsRising}
use Rattle.rs_attrs.specs.Paths.{quads}
use Rattle.rs_attrs.specs.Patterns.{parts_of, triples}
use Rattle.rs_attrs.specs.Writing.{IsLegal, IsLegalAttribute, spelling_of, with_value}
use Rattle.rs_attrs.specs.Stripping.{Taken, numbers_left, unstripped, unstripped_large, with_numbers, left_of, stripped_of}
use Rattle.rs_attrs.proofs.Strips.Communities.{IsStripped, which, left_is, left_other, length-octets, length-parts}
use Rattle.rs_attrs.proofs.Written.ReadBack.{flags_of_back}

by_octet : (n : ℕ) → n % 256 < 256
by_octet n = omega arith

are_octets : (numbers : List ℕ) → AreOctets (flat_map (to_be_bytes w32) numbers)
are_octets [] = tt
are_octets (n ∷ numbers) = (by_octet _, (by_octet _, (by_octet _, (by_octet _, are_octets numbers))))

-- of large communities numbers are left by threes
threes : (t : Taken) (kind : ℕ) (numbers : List ℕ) → kind ≡ 32 → length (numbers_left t kind numbers) % 3 ≡ 0
threes t kind numbers large =
    let apart : kind ≢ 8 = λ e. omega arith in
    let stay = unstripped_large t (triples numbers) in
    let few : length (flat_map parts_of stay) % 3 ≡ 0 = omega (arith, length-parts stay) in
    ap (λ b. length (cond b (unstripped t numbers) (flat_map parts_of stay)) % 3) (ne_eqb kind 8 apart) ∙ few

flags_kept : (a b : Bool) → is_kept (cond a (cond b Kept Withdraw) Withdraw) ≡ true → a ≡ true
flags_kept true b k = refl
flags_kept false b k = cc

-- an attribute whose type asks for items of so many octets, with another value of such items
kept_anew : (a : Attribute) (size : ℕ) (value : List ℕ) → ((s : Spelling) → outcome_by Four (row_of Four a.kind) s ≡ cond (has_flag 0x80 s.flags && has_flag 0x40 s.flags) (cond (is_filled_list_of size s.value) Kept Withdraw) Withdraw)
    → IsLegalAttribute a → is_filled_list_of size value ≡ true → is_kept (outcome_of Four (spelling_of (with_value a value))) ≡ true
kept_anew a size value row legal filled =
    let s : Spelling = spelling_of a in
    let t : Spelling = spelling_of (with_value a value) in
    let flags : (has_flag 0x80 s.flags && has_flag 0x40 s.flags) ≡ true =
    flags_kept (has_flag 0x80 s.flags && has_flag 0x40 s.flags) (is_filled_list_of size s.value) (ap is_kept (sym (row s)) ∙ legal.is_kept) in
    let before = flags_of_back a in
    let after = flags_of_back (with_value a value) in
    let class : (has_flag 0x80 t.flags && has_flag 0x40 t.flags) ≡ true = (λ i. (after.optional ∙ sym before.optional) i && (after.transitive ∙ sym before.transitive) i) ∙ flags in
    ap is_kept (row t) ∙ (λ i. is_kept (cond (class i) (cond (filled i) Kept Withdraw) Withdraw))

filled_4 : (n : ℕ) (numbers : List ℕ) → is_filled_list_of 4 (flat_map (to_be_bytes w32) (n ∷ numbers)) ≡ true
filled_4 n numbers =
    let value : List ℕ = flat_map (to_be_bytes w32) (n ∷ numbers) in
    let size : length value ≡ 4 * suc (length numbers) = length-octets (n ∷ numbers) in
    λ i. lt-ltb 0 (length value) (omega arith) i && eq-eqb (length value % 4) 0 (omega arith) i

filled_12 : (n : ℕ) (numbers : List ℕ) → length (n ∷ numbers) % 3 ≡ 0 → is_filled_list_of 12 (flat_map (to_be_bytes w32) (n ∷ numbers)) ≡ true
filled_12 n numbers whole =
    let value : List ℕ = flat_map (to_be_bytes w32) (n ∷ numbers) in
    let size : length value ≡ 4 * suc (length numbers) = length-octets (n ∷ numbers) in
    λ i. lt-ltb 0 (length value) (omega arith) i && eq-eqb (length value % 12) 0 (omega arith) i

some_kept : (a : Attribute) (n : ℕ) (numbers : List ℕ) → IsStripped a.kind → (a.kind ≡ 32 → length (n ∷ numbers) % 3 ≡ 0) → IsLegalAttribute a → IsLegalAttribute (with_value a (flat_map (to_be_bytes w32) (n ∷ numbers)))
some_kept a n numbers kind whole legal = record {
  kind = legal.kind;
  octets = are_octets (n ∷ numbers);
  is_kept = by kind;
  partial = legal.partial;
}
  where
    value : List ℕ
    value = flat_map (to_be_bytes w32) (n ∷ numbers)

    by : IsStripped a.kind → is_kept (outcome_of Four (spelling_of (with_value a value))) ≡ true
    by (inl eight) = kept_anew a 4 value (λ s. ap (λ k. outcome_by Four (row_of Four k) s) eight) legal (filled_4 n numbers)
    by (inr large) = kept_anew a 12 value (λ s. ap (λ k. outcome_by Four (row_of Four k) s) large) legal (filled_12 n numbers (whole large))

module _ (t : Taken) where
  left_legal : (a : Attribute) → IsLegalAttribute a → AllByRecursion IsLegalAttribute (left_of t a)
  left_legal a legal = by (which a.kind)
    where
      with_legal : (numbers : List ℕ) → IsStripped a.kind → (a.kind ≡ 32 → length numbers % 3 ≡ 0) → AllByRecursion IsLegalAttribute (with_numbers a numbers)
      with_legal [] kind whole = tt
      with_legal (n ∷ numbers) kind whole = (some_kept a n numbers kind whole legal, tt)

      by : IsStripped a.kind ⊎ ((a.kind ≢ 8) × (a.kind ≢ 32)) → AllByRecursion IsLegalAttribute (left_of t a)
      by (inl kind) = subst (AllByRecursion IsLegalAttribute) (sym (left_is t a kind)) (with_legal (numbers_left t a.kind (quads a.value)) kind (threes t a.kind (quads a.value)))
      by (inr other) = subst (AllByRecursion IsLegalAttribute) (sym (left_other t a other.0 other.1)) (legal, tt)

  left_above : (k : ℕ) (a : Attribute) → k < a.kind → AllAbove k (left_of t a)
  left_above k a h = by (which a.kind)
    where
      with_above : (numbers : List ℕ) → AllAbove k (with_numbers a numbers)
      with_above [] = tt
      with_above (n ∷ numbers) = (h, tt)

      by : IsStripped a.kind ⊎ ((a.kind ≢ 8) × (a.kind ≢ 32)) → AllAbove k (left_of t a)
      by (inl kind) = subst (AllAbove k) (sym (left_is t a kind)) (with_above (numbers_left t a.kind (quads a.value)))
      by (inr other) = subst (AllAbove k) (sym (left_other t a other.0 other.1)) (h, tt)

  legal_both : (m n : List Attribute) → AllByRecursion IsLegalAttribute m → AllByRecursion IsLegalAttribute n → AllByRecursion IsLegalAttribute (m ++ n)
  legal_both [] n p q = q
  legal_both (a ∷ m) n p q = (p.0, legal_both m n p.1 q)

  above_both : (k : ℕ) (m n : List Attribute) → AllAbove k m → AllAbove k n → AllAbove k (m ++ n)
  above_both k [] n p q = q
  above_both k (a ∷ m) n p q = (p.0, above_both k m n p.1 q)

  pub stripped_above : (k : ℕ) (m : List Attribute) → AllAbove k m → AllAbove k (stripped_of t m)
  stripped_above k [] h = tt
  stripped_above k (a ∷ m) h = above_both k (left_of t a) (stripped_of t m) (left_above k a h.0) (stripped_above k m h.1)

  left_rising : (a : Attribute) (m : List Attribute) → AllAbove a.kind m → IsRising m → IsRising (left_of t a ++ m)
  left_rising a m above rising = by (which a.kind)
    where
      with_rising : (numbers : List ℕ) → IsRising (with_numbers a numbers ++ m)
      with_rising [] = rising
      with_rising (n ∷ numbers) = (above, rising)

      by : IsStripped a.kind ⊎ ((a.kind ≢ 8) × (a.kind ≢ 32)) → IsRising (left_of t a ++ m)
      by (inl kind) = subst (λ left. IsRising (left ++ m)) (sym (left_is t a kind)) (with_rising (numbers_left t a.kind (quads a.value)))
      by (inr other) = subst (λ left. IsRising (left ++ m)) (sym (left_other t a other.0 other.1)) (above, rising)

  stripped_rising : (m : List Attribute) → IsRising m → IsRising (stripped_of t m)
  stripped_rising [] r = tt
  stripped_rising (a ∷ m) r = left_rising a (stripped_of t m) (stripped_above a.kind m r.0) (stripped_rising m r.1)

  each_legal : (m : List Attribute) → AllByRecursion IsLegalAttribute m → AllByRecursion IsLegalAttribute (stripped_of t m)
  each_legal [] h = tt
  each_legal (a ∷ m) h = legal_both (left_of t a) (stripped_of t m) (left_legal a h.0) (each_legal m h.1)

  pub stripped_legal : (m : List Attribute) → IsLegal m → IsLegal (stripped_of t m)
  stripped_legal m legal = record { rising = stripped_rising m legal.rising; each = each_legal m legal.each }
