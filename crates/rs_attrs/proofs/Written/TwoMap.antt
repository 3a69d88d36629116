-- What stands in the map of the attributes that are written for a two-octet peer.
use Rattle.std.proofs.Common.{◌≡◌, ℕ, ◌<◌, ◌≤◌, ◌&&◌, Bool, true, false, cond, List, [], ◌∷◌, ◌++◌, map, Option, Some, None, refl, sym, ap, subst, ◌∙◌, arith, nat_lt, nat_eq}
use Rattle.std.specs.Prelude.{filter, option_map}
use Rattle.std.specs.List.{flat_map, AllByRecursion}
use Rattle.std.proofs.lemmas.Bool.{eqb-true, ne_eqb, ltb-true, ltb-false, lt-ltb, le-ltb}
use Rattle.rs_attrs.specs.Meaning.{Attribute, that_counts, get, IsRising, AllAbove}
use Rattle.rs_attrs.specs.Writing.{spelling_of, with_value, narrowed, aggregator_in, needs_four_octets, path_needs_four_octets, as4_attribute, as4_of, for_two}
use Rattle.rs_attrs.proofs.Written.Narrowing.{narrowed_is, other_value}

-- ---- what stands in a map

abbrev or_else : {A : Type 0} → Option A → Option A → Option A
or_else None y = y
or_else (Some x) y = Some x

get_append : (kind : ℕ) (m n : List Attribute) → get kind (m ++ n) ≡ or_else (get kind m) (get kind n)
get_append kind [] n = refl
get_append kind (a ∷ m) n = by_test (nat_eq a.kind kind) (get_append kind m n)
  where
    by_test : (b : Bool) → get kind (m ++ n) ≡ or_else (get kind m) (get kind n) → cond b (Some a) (get kind (m ++ n)) ≡ or_else (cond b (Some a) (get kind m)) (get kind n)
    by_test true e = refl
    by_test false e = e

get_filter : (p : ℕ → Bool) (kind : ℕ) (m : List Attribute) → get kind (filter (λ (a : Attribute). p a.kind) m) ≡ cond (p kind) (get kind m) None
get_filter p kind [] = by_test (p kind)
  where
    by_test : (b : Bool) → ◌≡◌ {A = Option Attribute} None (cond b None None)
    by_test true = refl
    by_test false = refl
get_filter p kind (a ∷ m) = by_tests (p a.kind) (nat_eq a.kind kind) refl refl (get_filter p kind m)
  where
    rest : Option Attribute
    rest = get kind (filter (λ (a : Attribute). p a.kind) m)

    by_tests : (b c : Bool) → p a.kind ≡ b → nat_eq a.kind kind ≡ c → rest ≡ cond (p kind) (get kind m) None
        → get kind (cond b (a ∷ filter (λ (a : Attribute). p a.kind) m) (filter (λ (a : Attribute). p a.kind) m)) ≡ cond (p kind) (cond c (Some a) (get kind m)) None
    by_tests true true e f later =
        ap (λ c. cond c (Some a) rest) f ∙ sym (ap (λ b. cond b (Some a) None) (ap p (sym (eqb-true a.kind kind f)) ∙ e))
    by_tests true false e f later = ap (λ c. cond c (Some a) rest) f ∙ later
    by_tests false true e f later =
        let no : p kind ≡ false = ap p (sym (eqb-true a.kind kind f)) ∙ e in
        later ∙ ap (λ b. cond b (get kind m) None) no ∙ sym (ap (λ b. cond b (Some a) None) no)
    by_tests false false e f later = later

pub same_kind : (a : Attribute) → (narrowed a).kind ≡ a.kind
same_kind a = ap (λ (a : Attribute). a.kind) (narrowed_is a)

get_narrowed : (kind : ℕ) (m : List Attribute) → get kind (map narrowed m) ≡ option_map narrowed (get kind m)
get_narrowed kind [] = refl
get_narrowed kind (a ∷ m) =
    ap (λ n. cond (nat_eq n kind) (Some (narrowed a)) (get kind (map narrowed m))) (same_kind a) ∙ by_test (nat_eq a.kind kind) (get_narrowed kind m)
  where
    by_test : (b : Bool) → get kind (map narrowed m) ≡ option_map narrowed (get kind m) → cond b (Some (narrowed a)) (get kind (map narrowed m)) ≡ option_map narrowed (cond b (Some a) (get kind m))
    by_test true e = refl
    by_test false e = e

pub counts_spelt : (kind : ℕ) (m : List Attribute) → that_counts kind (map spelling_of m) ≡ option_map spelling_of (get kind m)
counts_spelt kind [] = refl
counts_spelt kind (a ∷ m) = by_test (nat_eq a.kind kind) (counts_spelt kind m)
  where
    by_test : (b : Bool) → that_counts kind (map spelling_of m) ≡ option_map spelling_of (get kind m)
        → cond b (Some (spelling_of a)) (that_counts kind (map spelling_of m)) ≡ option_map spelling_of (cond b (Some a) (get kind m))
    by_test true e = refl
    by_test false e = e

-- what holds of each attribute holds of the one of a type, and that one is of its type
pub get_has : (P : Attribute → Type 0) (kind : ℕ) (m : List Attribute) (a : Attribute) → get kind m ≡ Some a → AllByRecursion P m → P a
get_has P kind [] a e all = absurd cc
get_has P kind (b ∷ m) a e all = by_test (nat_eq b.kind kind) e (λ e. get_has P kind m a e all.1)
  where
    by_test : (t : Bool) → cond t (Some b) (get kind m) ≡ Some a → (get kind m ≡ Some a → P a) → P a
    by_test true e later = let same : b ≡ a = cc in subst P same all.0
    by_test false e later = later e

pub get_kind : (kind : ℕ) (m : List Attribute) (a : Attribute) → get kind m ≡ Some a → a.kind ≡ kind
get_kind kind [] a e = absurd cc
get_kind kind (b ∷ m) a e = by_test (nat_eq b.kind kind) refl e (λ e. get_kind kind m a e)
  where
    by_test : (t : Bool) → nat_eq b.kind kind ≡ t → cond t (Some b) (get kind m) ≡ Some a → (get kind m ≡ Some a → a.kind ≡ kind) → a.kind ≡ kind
    by_test true p e later = let same : b ≡ a = cc in ap (λ (a : Attribute). a.kind) (sym same) ∙ eqb-true b.kind kind p
    by_test false p e later = later e

-- ---- AS4_PATH and AS4_AGGREGATOR

abbrev pub as4_path_of : Option Attribute → Option Attribute
as4_path_of None = None
as4_path_of (Some a) = cond (path_needs_four_octets a.value) (Some (as4_attribute 17 a.value)) None

abbrev pub as4_aggregator_of : Option Attribute → Option Attribute
as4_aggregator_of None = None
as4_aggregator_of (Some a) = cond (needs_four_octets (aggregator_in a.value)) (Some (as4_attribute 18 a.value)) None

-- how as4_of goes by its tests
abbrev as4_by : Attribute → Bool → Bool → Bool → Bool → List Attribute
as4_by a two needs seven wants = cond (two && needs) (as4_attribute 17 a.value ∷ []) (cond (seven && wants) (as4_attribute 18 a.value ∷ []) [])

as4_other : (kind : ℕ) → (kind ≡ 17 → ⊥) → (kind ≡ 18 → ⊥) → (m : List Attribute) → get kind (flat_map as4_of m) ≡ None
as4_other kind no17 no18 [] = refl
as4_other kind no17 no18 (a ∷ m) =
    by_tests (nat_eq a.kind 2 && path_needs_four_octets a.value) (nat_eq a.kind 7 && needs_four_octets (aggregator_in a.value)) (as4_other kind no17 no18 m)
  where
    rest : List Attribute
    rest = flat_map as4_of m

    by_tests : (b c : Bool) → get kind rest ≡ None → get kind (cond b (as4_attribute 17 a.value ∷ []) (cond c (as4_attribute 18 a.value ∷ []) []) ++ rest) ≡ None
    by_tests true c later = ap (λ t. cond t (Some (as4_attribute 17 a.value)) (get kind rest)) (ne_eqb 17 kind (λ e. no17 (sym e))) ∙ later
    by_tests false true later = ap (λ t. cond t (Some (as4_attribute 18 a.value)) (get kind rest)) (ne_eqb 18 kind (λ e. no18 (sym e))) ∙ later
    by_tests false false later = later

as4_path_above : (low : ℕ) (m : List Attribute) → 2 ≤ low → AllAbove low m → get 17 (flat_map as4_of m) ≡ None
as4_path_above low [] h above = refl
as4_path_above low (a ∷ m) h above =
    let higher : low < a.kind = above.0 in
    ap (λ t. get 17 (cond (t && path_needs_four_octets a.value) (as4_attribute 17 a.value ∷ []) (cond (nat_eq a.kind 7 && needs_four_octets (aggregator_in a.value)) (as4_attribute 18 a.value ∷ []) []) ++ flat_map as4_of m)) (ne_eqb a.kind 2 (λ e. omega arith))
    ∙ by_test (nat_eq a.kind 7 && needs_four_octets (aggregator_in a.value)) (as4_path_above low m h above.1)
  where
    by_test : (c : Bool) → get 17 (flat_map as4_of m) ≡ None → get 17 (cond c (as4_attribute 18 a.value ∷ []) [] ++ flat_map as4_of m) ≡ None
    by_test true later = later
    by_test false later = later

as4_path_at : (m : List Attribute) → IsRising m → get 17 (flat_map as4_of m) ≡ as4_path_of (get 2 m)
as4_path_at [] rising = refl
as4_path_at (a ∷ m) rising =
    by_tests (nat_eq a.kind 2) (path_needs_four_octets a.value) (nat_eq a.kind 7 && needs_four_octets (aggregator_in a.value)) refl refl refl (as4_path_at m rising.1)
  where
    none : nat_eq a.kind 2 ≡ true → get 17 (flat_map as4_of m) ≡ None
    none e = let kind : a.kind ≡ 2 = eqb-true a.kind 2 e in as4_path_above a.kind m (omega arith) rising.0

    by_tests : (b n c : Bool) → nat_eq a.kind 2 ≡ b → path_needs_four_octets a.value ≡ n → (nat_eq a.kind 7 && needs_four_octets (aggregator_in a.value)) ≡ c
        → get 17 (flat_map as4_of m) ≡ as4_path_of (get 2 m)
        → get 17 (cond (b && n) (as4_attribute 17 a.value ∷ []) (cond c (as4_attribute 18 a.value ∷ []) []) ++ flat_map as4_of m) ≡ as4_path_of (cond b (Some a) (get 2 m))
    by_tests true true c e f g later = sym (ap (λ n. cond n (Some (as4_attribute 17 a.value)) None) f)
    by_tests true false true e f g later = none e ∙ sym (ap (λ n. cond n (Some (as4_attribute 17 a.value)) None) f)
    by_tests true false false e f g later = none e ∙ sym (ap (λ n. cond n (Some (as4_attribute 17 a.value)) None) f)
    by_tests false n true e f g later = later
    by_tests false n false e f g later = later

as4_aggregator_above : (low : ℕ) (m : List Attribute) → 7 ≤ low → AllAbove low m → get 18 (flat_map as4_of m) ≡ None
as4_aggregator_above low [] h above = refl
as4_aggregator_above low (a ∷ m) h above =
    let higher : low < a.kind = above.0 in
    let not_path : nat_eq a.kind 2 ≡ false = ne_eqb a.kind 2 (λ e. omega arith) in
    let not_aggregator : nat_eq a.kind 7 ≡ false = ne_eqb a.kind 7 (λ e. omega arith) in
    (λ i. get 18 (cond (not_path i && path_needs_four_octets a.value) (as4_attribute 17 a.value ∷ []) (cond (not_aggregator i && needs_four_octets (aggregator_in a.value)) (as4_attribute 18 a.value ∷ []) []) ++ flat_map as4_of m))
    ∙ as4_aggregator_above low m h above.1

as4_aggregator_at : (m : List Attribute) → IsRising m → get 18 (flat_map as4_of m) ≡ as4_aggregator_of (get 7 m)
as4_aggregator_at [] rising = refl
as4_aggregator_at (a ∷ m) rising =
    by_tests (nat_eq a.kind 2) (path_needs_four_octets a.value) (nat_eq a.kind 7) (needs_four_octets (aggregator_in a.value)) refl refl refl refl (as4_aggregator_at m rising.1)
  where
    none : nat_eq a.kind 7 ≡ true → get 18 (flat_map as4_of m) ≡ None
    none e = let kind : a.kind ≡ 7 = eqb-true a.kind 7 e in as4_aggregator_above a.kind m (omega arith) rising.0

    both : nat_eq a.kind 2 ≡ true → nat_eq a.kind 7 ≡ true → ⊥
    both e f = let two : a.kind ≡ 2 = eqb-true a.kind 2 e in let seven : a.kind ≡ 7 = eqb-true a.kind 7 f in omega arith

    by_tests : (b n c w : Bool) → nat_eq a.kind 2 ≡ b → path_needs_four_octets a.value ≡ n → nat_eq a.kind 7 ≡ c → needs_four_octets (aggregator_in a.value) ≡ w
        → get 18 (flat_map as4_of m) ≡ as4_aggregator_of (get 7 m)
        → get 18 (cond (b && n) (as4_attribute 17 a.value ∷ []) (cond (c && w) (as4_attribute 18 a.value ∷ []) []) ++ flat_map as4_of m) ≡ as4_aggregator_of (cond c (Some a) (get 7 m))
    by_tests true n true w e f g h later = absurd (both e g)
    by_tests true true false w e f g h later = later
    by_tests true false false w e f g h later = later
    by_tests false n true true e f g h later = sym (ap (λ w. cond w (Some (as4_attribute 18 a.value)) None) h)
    by_tests false n true false e f g h later = none g ∙ sym (ap (λ w. cond w (Some (as4_attribute 18 a.value)) None) h)
    by_tests false n false w e f g h later = later

-- ---- what stands in the map for a two-octet peer

first_else : {A : Type 0} (x : Option A) → or_else x None ≡ x
first_else None = refl
first_else (Some x) = refl

or_none_else : {A : Type 0} (x : Option A) → or_else (or_else x None) None ≡ x
or_none_else None = refl
or_none_else (Some x) = refl

parts_at : (kind : ℕ) (m : List Attribute) → get kind (for_two m)
    ≡ or_else (or_else (option_map narrowed (cond (nat_lt kind 17) (get kind m) None)) (get kind (flat_map as4_of m))) (cond (nat_lt 18 kind) (get kind m) None)
parts_at kind m =
    let low : List Attribute = map narrowed (filter (λ (a : Attribute). nat_lt a.kind 17) m) in
    let high : List Attribute = filter (λ (a : Attribute). nat_lt 18 a.kind) m in
    get_append kind (low ++ flat_map as4_of m) high
    ∙ (λ i. or_else (get_append kind low (flat_map as4_of m) i) (get_filter (λ kind. nat_lt 18 kind) kind m i))
    ∙ (λ i. or_else (or_else ((get_narrowed kind (filter (λ (a : Attribute). nat_lt a.kind 17) m) ∙ ap (option_map narrowed) (get_filter (λ kind. nat_lt kind 17) kind m)) i) (get kind (flat_map as4_of m))) (cond (nat_lt 18 kind) (get kind m) None))

pub as4_path_found : (m : List Attribute) → IsRising m → get 17 (for_two m) ≡ as4_path_of (get 2 m)
as4_path_found m rising = parts_at 17 m ∙ first_else (get 17 (flat_map as4_of m)) ∙ as4_path_at m rising

pub as4_aggregator_found : (m : List Attribute) → IsRising m → get 18 (for_two m) ≡ as4_aggregator_of (get 7 m)
as4_aggregator_found m rising = parts_at 18 m ∙ first_else (get 18 (flat_map as4_of m)) ∙ as4_aggregator_at m rising

pub narrowed_same : (a : Attribute) → (a.kind ≡ 2 → ⊥) → (a.kind ≡ 7 → ⊥) → narrowed a ≡ a
narrowed_same a no2 no7 = narrowed_is a ∙ ap (with_value a) (other_value a no2 no7)

pub other_found : (kind : ℕ) (m : List Attribute) → (kind ≡ 17 → ⊥) → (kind ≡ 18 → ⊥) → get kind (for_two m) ≡ option_map narrowed (get kind m)
other_found kind m no17 no18 =
    parts_at kind m
    ∙ ap (λ (o : Option Attribute). or_else (or_else (option_map narrowed (cond (nat_lt kind 17) (get kind m) None)) o) (cond (nat_lt 18 kind) (get kind m) None)) (as4_other kind no17 no18 m)
    ∙ by_test (nat_lt kind 17) refl
  where
    high : 18 < kind → (o : Option Attribute) → get kind m ≡ o → o ≡ option_map narrowed o
    high h None e = refl
    high h (Some a) e =
        let kind_is : a.kind ≡ kind = get_kind kind m a e in
        ap Some (sym (narrowed_same a (λ e. omega arith) (λ e. omega arith)))

    by_test : (b : Bool) → nat_lt kind 17 ≡ b → or_else (or_else (option_map narrowed (cond b (get kind m) None)) None) (cond (nat_lt 18 kind) (get kind m) None) ≡ option_map narrowed (get kind m)
    by_test true e =
        let low : kind < 17 = ltb-true kind 17 e in
        ap (λ b. or_else (or_else (option_map narrowed (get kind m)) None) (cond b (get kind m) None)) (le-ltb 18 kind (omega arith)) ∙ or_none_else (option_map narrowed (get kind m))
    by_test false e =
        let most : 17 ≤ kind = ltb-false kind 17 e in
        let above : 18 < kind = least most no17 no18 in
        ap (λ b. cond b (get kind m) None) (lt-ltb 18 kind above) ∙ high above (get kind m) refl
      where
        least : 17 ≤ kind → (kind ≡ 17 → ⊥) → (kind ≡ 18 → ⊥) → 18 < kind
        least most no17 no18 = omega arith
