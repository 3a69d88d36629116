-- Communities that are stripped: in COMMUNITIES each number of 32 bits is one, in LARGE_COMMUNITY each three are.
use Rattle.std.proofs.Common.{◌≡◌, ◌≢◌, ◌==◌, ℕ, suc, ◌*◌, ◌<◌, ◌≤◌, ◌||◌, ◌⊎◌, inl, inr, Bool, true, false, cond, not, List, [], ◌∷◌, ◌++◌, length, map, filter, take, drop, refl, sym, ap, ◌∙◌, arith, append_assoc, length-append, length-drop, eq-eqb, eqb-true}
use Rattle.std.specs.List.{list_all, list_any, flat_map}
use Rattle.std.specs.Cmp.{first_so, second_so}
use Rattle.std.specs.Int.{w32, to_be_bytes}
use Rattle.std.proofs.lemmas.List.{append-nil, drop_all, take_all, take-append-le, drop-append-le}
use Rattle.std.proofs.lemmas.Bool.{ne_eqb}
use Rattle.rs_attrs.specs.Heads.{Head}
use Rattle.rs_attrs.specs.declared.patterns.LargeCommunity.{LargeCommunity}
use Rattle.rs_attrs.specs.Meaning.{Attribute}
use Rattle.rs_attrs.specs.Paths.{quads}
use Rattle.rs_attrs.specs.Patterns.{parts_of, triples}
use Rattle.rs_attrs.specs.Held.{attribute_by, attributes_in, values_size}
use Rattle.rs_attrs.proofs.Paths.SegmentWalk.{length-quads}
use Rattle.rs_attrs.specs.Stripping.{Taken, is_stripped_large, numbers_left, unstripped, unstripped_large, with_numbers, left_of, stripped_of}

pub list_any-map : {A B : Type 0} (f : A → B) (test : B → Bool) → (xs : List A) → list_any (λ x. test (f x)) xs ≡ list_any test (map f xs)
list_any-map f test [] = refl
list_any-map f test (x ∷ xs) = ap (λ b. test (f x) || b) (list_any-map f test xs)

empty_lacks : {P : Type 0} (test : P → Bool) (list : List P) → (length list == 0) ≡ true → list_any test list ≡ false
empty_lacks test [] e = refl
empty_lacks test (p ∷ list) e = let none = eqb-true (length (p ∷ list)) 0 e in absurd (omega (arith, none))

-- empty lists have no member that passes a test
pub none_named : {P : Type 0} (test : P → Bool) (lists : List (List P)) → list_all (λ list. length list == 0) lists ≡ true → list_any (λ list. list_any test list) lists ≡ false
none_named test [] e = refl
none_named {P} test (list ∷ lists) e =
    let others : Bool = list_all (λ (list : List P). length list == 0) lists in
    λ i. empty_lacks test list (first_so (length list == 0) others e) i || none_named test lists (second_so (length list == 0) others e) i

-- ---- how many

pub filter_short : {A : Type 0} (keeps : A → Bool) (xs : List A) → length (filter keeps xs) ≤ length xs
filter_short keeps [] = omega arith
filter_short keeps (x ∷ xs) = by (keeps x) (filter_short keeps xs)
  where
    by : (b : Bool) → length (filter keeps xs) ≤ length xs → length (cond b (x ∷ filter keeps xs) (filter keeps xs)) ≤ suc (length xs)
    by true h = omega arith
    by false h = omega arith

pub length-parts : (communities : List LargeCommunity) → length (flat_map parts_of communities) ≡ 3 * length communities
length-parts [] = refl
length-parts (c ∷ communities) = omega (arith, length-parts communities)

pub length-triples : (numbers : List ℕ) → 3 * length (triples numbers) ≤ length numbers
length-triples [] = omega arith
length-triples (a ∷ []) = omega arith
length-triples (a ∷ b ∷ []) = omega arith
length-triples (a ∷ b ∷ c ∷ numbers) = omega (arith, length-triples numbers)

pub left_short : (t : Taken) (kind : ℕ) (numbers : List ℕ) → length (numbers_left t kind numbers) ≤ length numbers
left_short t kind numbers = by (kind == 8)
  where
    stay : List LargeCommunity
    stay = unstripped_large t (triples numbers)

    by : (b : Bool) → length (cond b (unstripped t numbers) (flat_map parts_of stay)) ≤ length numbers
    by true = filter_short _ numbers
    by false =
        let few : length stay ≤ length (triples numbers) = filter_short _ (triples numbers) in
        omega (arith, length-parts stay, length-triples numbers)

pub length-quads_4 : (octets : List ℕ) → 4 * length (quads octets) ≤ length octets
length-quads_4 octets = omega (arith, length-quads octets)

-- numbers are four octets each
pub length-octets : (numbers : List ℕ) → length (flat_map (to_be_bytes w32) numbers) ≡ 4 * length numbers
length-octets [] = refl
length-octets (n ∷ numbers) = omega (arith, length-append (to_be_bytes w32 n) (flat_map (to_be_bytes w32) numbers), length-octets numbers)

-- one large community more, which stays: its three numbers are appended
pub large_pushed : (t : Taken) (c : LargeCommunity) (more : List LargeCommunity) (values first second third whole : List ℕ) → is_stripped_large t c ≡ false
    → first ≡ values ++ to_be_bytes w32 c.global → second ≡ first ++ to_be_bytes w32 c.first → third ≡ second ++ to_be_bytes w32 c.second
    → values ++ flat_map (to_be_bytes w32) (flat_map parts_of (unstripped_large t (c ∷ more))) ≡ whole
    → third ++ flat_map (to_be_bytes w32) (flat_map parts_of (unstripped_large t more)) ≡ whole
large_pushed t c more values first second third whole stays e f g h =
    let left = unstripped_large t more in
    let rest : List ℕ = flat_map (to_be_bytes w32) (flat_map parts_of left) in
    (λ i. (g ∙ ap (λ o. o ++ to_be_bytes w32 c.second) (f ∙ ap (λ o. o ++ to_be_bytes w32 c.first) e)) i ++ rest)
    ∙ regroup values (to_be_bytes w32 c.global) (to_be_bytes w32 c.first) (to_be_bytes w32 c.second) rest
    ∙ ap (λ b. values ++ flat_map (to_be_bytes w32) (flat_map parts_of (cond (not b) (c ∷ left) left))) (sym stays)
    ∙ h
  where
    regroup : (a b c d e : List ℕ) → (((a ++ b) ++ c) ++ d) ++ e ≡ a ++ (b ++ (c ++ (d ++ e)))
    regroup a b c d e = simp append_assoc

-- ---- the two types

abbrev pub IsStripped : ℕ → Type 0
IsStripped kind = (kind ≡ 8) ⊎ (kind ≡ 32)

pub which : (kind : ℕ) → IsStripped kind ⊎ ((kind ≢ 8) × (kind ≢ 32))
which kind = by (kind == 8) (kind == 32) refl refl
  where
    apart : (n : ℕ) → false ≡ (kind == n) → kind ≢ n
    apart n e same = let one = eq-eqb kind n same in absurd (let two : true ≡ false = sym one ∙ sym e in (cc))

    by : (b c : Bool) → b ≡ (kind == 8) → c ≡ (kind == 32) → IsStripped kind ⊎ ((kind ≢ 8) × (kind ≢ 32))
    by true c e f = inl (inl (eqb-true kind 8 (sym e)))
    by false true e f = inl (inr (eqb-true kind 32 (sym f)))
    by false false e f = inr (apart 8 e, apart 32 f)

module _ (t : Taken) (a : Attribute) where
  pub left_is : IsStripped a.kind → left_of t a ≡ with_numbers a (numbers_left t a.kind (quads a.value))
  left_is kind = by (a.kind == 8) (a.kind == 32) (one kind) (unstripped t (quads a.value)) (flat_map parts_of (unstripped_large t (triples (quads a.value))))
    where
      one : IsStripped a.kind → ((a.kind == 8) ≡ true) ⊎ ((a.kind == 32) ≡ true)
      one (inl e) = inl (eq-eqb a.kind 8 e)
      one (inr e) = inr (eq-eqb a.kind 32 e)

      by : (b c : Bool) → (b ≡ true) ⊎ (c ≡ true) → (xs ys : List ℕ) → cond b (with_numbers a xs) (cond c (with_numbers a ys) (a ∷ [])) ≡ with_numbers a (cond b xs ys)
      by true c e xs ys = refl
      by false true e xs ys = refl
      by false false (inl e) xs ys = cc
      by false false (inr e) xs ys = cc

  pub left_other : a.kind ≢ 8 → a.kind ≢ 32 → left_of t a ≡ a ∷ []
  left_other other another =
      λ i. cond (ne_eqb a.kind 8 other i) (with_numbers a (unstripped t (quads a.value)))
      (cond (ne_eqb a.kind 32 another i) (with_numbers a (flat_map parts_of (unstripped_large t (triples (quads a.value))))) (a ∷ []))

-- ---- one attribute more

-- the heads and values hold these attributes, and then those left
pub record IsAppended (heads : List Head) (values : List ℕ) (new_heads : List Head) (new_values : List ℕ) (more : List Attribute) : Type 0 where
  pub size : values_size new_heads ≡ length new_values
  pub left : attributes_in new_heads new_values ≡ attributes_in heads values ++ more

pub append_one : (heads : List Head) (values : List ℕ) (h : Head) (value : List ℕ) → values_size heads ≡ length values → h.len ≡ length value → IsAppended heads values (heads ++ h ∷ []) (values ++ value) (attribute_by h value ∷ [])
append_one [] (x ∷ values) h value e f = absurd (omega arith)
append_one [] [] h value e f = record {
  size = omega arith;
  left = λ i. attribute_by h (take_all h.len value (omega arith) i) ∷ [];
}
append_one (g ∷ heads) values h value e f =
    let le : g.len ≤ length values = omega arith in
    let more = append_one heads (drop g.len values) h value (omega (arith, length-drop g.len values)) f in
    let taken : take g.len (values ++ value) ≡ take g.len values = take-append-le g.len values value le in
    let dropped : drop g.len (values ++ value) ≡ drop g.len values ++ value = drop-append-le g.len values value le in
    record {
      size = omega (arith, more.size, length-append values value, length-append (drop g.len values) value, length-drop g.len values);
      left = (λ i. attribute_by g (taken i) ∷ attributes_in (heads ++ h ∷ []) (dropped i)) ∙ ap (λ m. attribute_by g (take g.len values) ∷ m) more.left;
    }

module _ (t : Taken) (heads : List Head) (values : List ℕ) (h : Head) (value : List ℕ) (size : values_size heads ≡ length values) where
  -- an attribute of another type
  pub append_other : (new_heads : List Head) (new_values : List ℕ) → h.kind ≢ 8 → h.kind ≢ 32 → h.len ≡ length value → new_heads ≡ heads ++ h ∷ [] → new_values ≡ values ++ value → IsAppended heads values new_heads new_values (left_of t (attribute_by h value))
  append_other new_heads new_values other another len is_heads is_values =
      let one = append_one heads values h value size len in
      record {
        size = ap values_size is_heads ∙ one.size ∙ ap length (sym is_values);
        left = (λ i. attributes_in (is_heads i) (is_values i)) ∙ one.left ∙ ap (λ m. attributes_in heads values ++ m) (sym (left_other t (attribute_by h value) other another));
      }

  with_some : (numbers : List ℕ) (n : ℕ) → n ≡ 4 * length numbers → 0 < n → with_numbers (attribute_by h value) numbers ≡ attribute_by (record h { len = n }) (flat_map (to_be_bytes w32) numbers) ∷ []
  with_some [] n e some = absurd (omega arith)
  with_some (number ∷ numbers) n e some = refl

  -- communities of which some stay
  pub append_some : (new_heads : List Head) (new_values : List ℕ) (n : ℕ) → IsStripped h.kind → n ≡ 4 * length (numbers_left t h.kind (quads value)) → 0 < n → new_heads ≡ heads ++ record h { len = n } ∷ [] → new_values ≡ values ++ flat_map (to_be_bytes w32) (numbers_left t h.kind (quads value)) → IsAppended heads values new_heads new_values (left_of t (attribute_by h value))
  append_some new_heads new_values n kind n_is some is_heads is_values =
      let left : List ℕ = numbers_left t h.kind (quads value) in
      let one = append_one heads values (record h { len = n }) (flat_map (to_be_bytes w32) left) size (n_is ∙ sym (length-octets left)) in
      record {
        size = ap values_size is_heads ∙ one.size ∙ ap length (sym is_values);
        left = (λ i. attributes_in (is_heads i) (is_values i)) ∙ one.left ∙ ap (λ m. attributes_in heads values ++ m) (sym (left_is t (attribute_by h value) kind ∙ with_some left n n_is some));
      }

-- behind the last head nothing is left
pub left_whole : (t : Taken) (i : ℕ) (heads : List Head) (rest : List ℕ) (made whole : List Attribute) → length heads ≤ i → made ++ stripped_of t (attributes_in (drop i heads) rest) ≡ whole → made ≡ whole
left_whole t i heads rest made whole end e =
    sym (append-nil made) ∙ ap (λ hs. made ++ stripped_of t (attributes_in hs rest)) (sym (drop_all i heads end)) ∙ e
