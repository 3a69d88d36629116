-- What stripping changes: the communities, and nothing else.
use Rattle.std.proofs.Common.{◌≡◌, ◌≢◌, ℕ, zero, suc, ◌%◌, ◌^◌, ◌<◌, ◌||◌, ◌⊎◌, inl, inr, length, filter, get_or, lit<, nat_lt, ◌==◌, Bool, true, false, cond, not, List, [], ◌∷◌, ◌++◌, Option, Some, None, option_map, unwrap_or, refl, sym, ap, ◌∙◌, subst, arith, eq-eqb, eqb-true}
use Rattle.std.specs.List.{flat_map, list_any, AllByRecursion}
use Rattle.std.specs.Int.{w32, to_be_bytes, from_be_bytes}
use Rattle.std.proofs.lemmas.Bool.{ne_eqb, ltb-true}
use Rattle.std.specs.Cmp.{first_so, second_so}
use Rattle.std.proofs.lemmas.Nat.{from_be_bytes-to_be_bytes_4, be_bytes_4}
use Rattle.rs_octets.proofs.Members.{Has}
use Rattle.rs_attrs.specs.declared.patterns.LargeCommunity.{LargeCommunity}
use Rattle.rs_attrs.specs.Spellings.{AreOctets}
use Rattle.rs_attrs.specs.Meaning.{Attribute, get, AllAbove, IsRising}
use Rattle.rs_attrs.specs.Paths.{quads}
use Rattle.rs_attrs.specs.Patterns.{parts_of, triples, large_communities_in}
use Rattle.rs_attrs.specs.Writing.{IsLegal, IsLegalAttribute, with_value}
use Rattle.rs_attrs.specs.Getters.{IsWellFormedAs, communities_of, large_communities_of}
use Rattle.rs_attrs.specs.Stripping.{Taken, is_stripped, is_stripped_large, unstripped, unstripped_large, numbers_left, with_numbers, left_of, stripped_of}
use Rattle.rs_attrs.specs.Table.{is_filled_list_of}
use Rattle.rs_attrs.proofs.Paths.SegmentWalk.{length-quads}
use Rattle.rs_attrs.proofs.Strips.Communities.{IsStripped, which, left_is, left_other}
use Rattle.rs_attrs.proofs.Strips.StrippedLegal.{stripped_above}
use Rattle.rs_attrs.proofs.WellFormed.{row_kept}

-- ---- numbers of four octets

quads_fit : (octets : List ℕ) → AreOctets octets → AllByRecursion (λ c. c < 2 ^ 32) (quads octets)
quads_fit [] h = tt
quads_fit (a ∷ []) h = tt
quads_fit (a ∷ b ∷ []) h = tt
quads_fit (a ∷ b ∷ c ∷ []) h = tt
quads_fit (a ∷ b ∷ c ∷ d ∷ octets) h =
    let first : a < 256 = h.0 in
    let second : b < 256 = h.1.0 in
    let third : c < 256 = h.1.1.0 in
    let fourth : d < 256 = h.1.1.1.0 in
    (omega arith, quads_fit octets h.1.1.1.1)

quads_back : (numbers : List ℕ) → AllByRecursion (λ c. c < 2 ^ 32) numbers → quads (flat_map (to_be_bytes w32) numbers) ≡ numbers
quads_back [] h = refl
quads_back (n ∷ numbers) h = λ i. from_be_bytes-to_be_bytes_4 n h.0 i ∷ quads_back numbers h.1 i

-- octets in fours are those of their numbers
octets_back : (octets : List ℕ) → AreOctets octets → length octets % 4 ≡ 0 → flat_map (to_be_bytes w32) (quads octets) ≡ octets
octets_back [] h e = refl
octets_back (a ∷ []) h e = absurd (omega arith)
octets_back (a ∷ b ∷ []) h e = absurd (omega arith)
octets_back (a ∷ b ∷ c ∷ []) h e = absurd (omega arith)
octets_back (a ∷ b ∷ c ∷ d ∷ octets) h e =
    let four = be_bytes_4 (a ∷ b ∷ c ∷ d ∷ []) (from_be_bytes w32 (a ∷ b ∷ c ∷ d ∷ [])) refl fit refl in
    (λ i. four i ++ octets_back octets h.1.1.1.1 (omega arith) i)
  where
    fit : (i : ℕ) → get_or (a ∷ b ∷ c ∷ d ∷ []) i 0 < 256
    fit zero = h.0
    fit (suc zero) = h.1.0
    fit (suc (suc zero)) = h.1.1.0
    fit (suc (suc (suc zero))) = h.1.1.1.0
    fit (suc (suc (suc (suc i)))) = lit< tt

-- ---- large communities

abbrev AreShort : LargeCommunity → Type 0
AreShort c = (c.global < 2 ^ 32) × ((c.first < 2 ^ 32) × (c.second < 2 ^ 32))

triples_fit : (numbers : List ℕ) → AllByRecursion (λ n. n < 2 ^ 32) numbers → AllByRecursion AreShort (triples numbers)
triples_fit [] h = tt
triples_fit (a ∷ []) h = tt
triples_fit (a ∷ b ∷ []) h = tt
triples_fit (a ∷ b ∷ c ∷ numbers) h = ((h.0, (h.1.0, h.1.1.0)), triples_fit numbers h.1.1.1)

parts_fit : (communities : List LargeCommunity) → AllByRecursion AreShort communities → AllByRecursion (λ n. n < 2 ^ 32) (flat_map parts_of communities)
parts_fit [] h = tt
parts_fit (c ∷ communities) h = (h.0.0, (h.0.1.0, (h.0.1.1, parts_fit communities h.1)))

triples_back : (communities : List LargeCommunity) → triples (flat_map parts_of communities) ≡ communities
triples_back [] = refl
triples_back (c ∷ communities) = ap (λ cs. c ∷ cs) (triples_back communities)

-- numbers in threes are those of their large communities
parts_back : (numbers : List ℕ) → length numbers % 3 ≡ 0 → flat_map parts_of (triples numbers) ≡ numbers
parts_back [] e = refl
parts_back (a ∷ []) e = absurd (omega arith)
parts_back (a ∷ b ∷ []) e = absurd (omega arith)
parts_back (a ∷ b ∷ c ∷ numbers) e = ap (λ ns. a ∷ b ∷ c ∷ ns) (parts_back numbers (omega arith))

-- ---- what a filter keeps

filter_all : {A : Type 0} (P : A → Type 0) (keeps : A → Bool) (xs : List A) → AllByRecursion P xs → AllByRecursion P (filter keeps xs)
filter_all P keeps [] h = tt
filter_all P keeps (x ∷ xs) h = by (keeps x) (filter_all P keeps xs h.1)
  where
    by : (b : Bool) → AllByRecursion P (filter keeps xs) → AllByRecursion P (cond b (x ∷ filter keeps xs) (filter keeps xs))
    by true more = (h.0, more)
    by false more = more

all_stay : {A : Type 0} (test : A → Bool) (xs : List A) → list_any test xs ≡ false → filter (λ x. not (test x)) xs ≡ xs
all_stay test [] h = refl
all_stay {A} test (x ∷ xs) h = by (test x) h (all_stay test xs)
  where
    left : List A
    left = filter (λ x. not (test x)) xs

    by : (b : Bool) → b || list_any test xs ≡ false → (list_any test xs ≡ false → left ≡ xs) → cond (not b) (x ∷ left) left ≡ x ∷ xs
    by true none more = cc
    by false none more = ap (λ ys. x ∷ ys) (more none)

-- ---- the attribute of a type

pub get_above : (k : ℕ) (m : List Attribute) → AllAbove k m → get k m ≡ None
get_above k [] h = refl
get_above k (a ∷ m) h =
    let above : k < a.kind = h.0 in
    let apart : a.kind ≢ k = λ e. omega arith in
    ap (λ b. cond b (Some a) (get k m)) (ne_eqb a.kind k apart) ∙ get_above k m h.1

above_has : (k : ℕ) (m : List Attribute) (a : Attribute) → AllAbove k m → Has m a → k < a.kind
above_has k [] a above h = absurd h
above_has k (b ∷ m) a above (inl is) = subst (λ c. k < c.kind) is above.0
above_has k (b ∷ m) a above (inr h) = above_has k m a above.1 h

get_own : (m : List Attribute) (a : Attribute) → IsRising m → Has m a → get a.kind m ≡ Some a
get_own [] a rising h = absurd h
get_own (b ∷ m) a rising (inl is) =
    ap (λ t. cond t (Some b) (get a.kind m)) (eq-eqb b.kind a.kind (ap (λ c. c.kind) is)) ∙ ap Some is
get_own (b ∷ m) a rising (inr h) =
    let above : b.kind < a.kind = above_has b.kind m a rising.0 h in
    let apart : b.kind ≢ a.kind = λ e. omega arith in
    ap (λ t. cond t (Some b) (get a.kind m)) (ne_eqb b.kind a.kind apart) ∙ get_own m a rising.1 h

each_has : (P : Attribute → Type 0) (m : List Attribute) (a : Attribute) → AllByRecursion P m → Has m a → P a
each_has P [] a all h = absurd h
each_has P (b ∷ m) a all (inl is) = subst P is all.0
each_has P (b ∷ m) a all (inr h) = each_has P m a all.1 h

all_same : (left : Attribute → List Attribute) (m : List Attribute) → ((a : Attribute) → Has m a → left a ≡ a ∷ []) → flat_map left m ≡ m
all_same left [] each = refl
all_same left (a ∷ m) each = λ i. each a (inl refl) i ++ all_same left m (λ b h. each b (inr h)) i

-- the numbers of a type's attribute
abbrev numbers_at : Option Attribute → List ℕ
numbers_at found = unwrap_or (option_map quads (option_map (λ a. a.value) found)) []

large_at : (found : Option Attribute) → unwrap_or (option_map large_communities_in (option_map (λ a. a.value) found)) [] ≡ triples (numbers_at found)
large_at None = refl
large_at (Some a) = refl

-- a value of communities that is legal: in fours, and of large ones in twelves
record IsFilled (kind : ℕ) (value : List ℕ) : Type 0 where
  some : 0 < length value
  fours : length value % 4 ≡ 0
  threes : kind ≡ 32 → length (quads value) % 3 ≡ 0

filled : (size : ℕ) (value : List ℕ) → is_filled_list_of size value ≡ true → (0 < length value) × (length value % size ≡ 0)
filled size value h = (
  ltb-true 0 (length value) (first_so (nat_lt 0 (length value)) (length value % size == 0) h),
  eqb-true (length value % size) 0 (second_so (nat_lt 0 (length value)) (length value % size == 0) h),
)

is_filled : (a : Attribute) → IsStripped a.kind → IsLegalAttribute a → IsFilled a.kind a.value
is_filled a (inl kind) legal =
    let form = subst (λ k. IsWellFormedAs k a.value) kind (row_kept a legal) in
    let is = filled 4 a.value (form.form _ refl refl) in
    record { some = is.0; fours = is.1; threes = λ large. absurd (omega arith) }
is_filled a (inr kind) legal =
    let form = subst (λ k. IsWellFormedAs k a.value) kind (row_kept a legal) in
    let is = filled 12 a.value (form.form _ refl refl) in
    let twelves : length a.value % 12 ≡ 0 = is.1 in
    record { some = is.0; fours = omega arith; threes = λ large. omega (arith, length-quads a.value) }

module _ (t : Taken) where
  -- ---- attributes of other types

  pub get_skips : (k : ℕ) (a : Attribute) (m : List Attribute) → a.kind ≢ k → get k (left_of t a ++ m) ≡ get k m
  get_skips k a m apart = by (which a.kind)
    where
      with_skips : (numbers : List ℕ) → get k (with_numbers a numbers ++ m) ≡ get k m
      with_skips [] = refl
      with_skips (n ∷ numbers) = ap (λ b. cond b (Some (with_value a (flat_map (to_be_bytes w32) (n ∷ numbers)))) (get k m)) (ne_eqb a.kind k apart)

      by : IsStripped a.kind ⊎ ((a.kind ≢ 8) × (a.kind ≢ 32)) → get k (left_of t a ++ m) ≡ get k m
      by (inl kind) = ap (λ left. get k (left ++ m)) (left_is t a kind) ∙ with_skips (numbers_left t a.kind (quads a.value))
      by (inr other) = ap (λ left. get k (left ++ m)) (left_other t a other.0 other.1) ∙ ap (λ b. cond b (Some a) (get k m)) (ne_eqb a.kind k apart)

  pub others_stay : (kind : ℕ) (m : List Attribute) → kind ≢ 8 → kind ≢ 32 → get kind (stripped_of t m) ≡ get kind m
  others_stay kind [] other another = refl
  others_stay kind (a ∷ m) other another = by (which a.kind) (others_stay kind m other another)
    where
      apart : IsStripped a.kind → a.kind ≢ kind
      apart (inl is) same = other (sym same ∙ is)
      apart (inr is) same = another (sym same ∙ is)

      by : IsStripped a.kind ⊎ ((a.kind ≢ 8) × (a.kind ≢ 32)) → get kind (stripped_of t m) ≡ get kind m → get kind (left_of t a ++ stripped_of t m) ≡ cond (a.kind == kind) (Some a) (get kind m)
      by (inl is) more = get_skips kind a (stripped_of t m) (apart is) ∙ more ∙ ap (λ b. cond b (Some a) (get kind m)) (sym (ne_eqb a.kind kind (apart is)))
      by (inr stays) more = ap (λ left. get kind (left ++ stripped_of t m)) (left_other t a stays.0 stays.1) ∙ ap (cond (a.kind == kind) (Some a)) more

  -- ---- communities

  left_fit : (kind : ℕ) (numbers : List ℕ) → AllByRecursion (λ n. n < 2 ^ 32) numbers → AllByRecursion (λ n. n < 2 ^ 32) (numbers_left t kind numbers)
  left_fit kind numbers fit = by (kind == 8)
    where
      by : (b : Bool) → AllByRecursion (λ n. n < 2 ^ 32) (cond b (unstripped t numbers) (flat_map parts_of (unstripped_large t (triples numbers))))
      by true = filter_all (λ n. n < 2 ^ 32) (λ c. not (is_stripped t c)) numbers fit
      by false = parts_fit (unstripped_large t (triples numbers)) (filter_all AreShort (λ c. not (is_stripped_large t c)) (triples numbers) (triples_fit numbers fit))

  none_left : (kind : ℕ) → [] ≡ numbers_left t kind []
  none_left kind = by (kind == 8)
    where
      by : (b : Bool) → [] ≡ cond b (unstripped t []) (flat_map parts_of (unstripped_large t (triples [])))
      by true = refl
      by false = refl

  with_back : (a : Attribute) (numbers : List ℕ) (k : ℕ) (m : List Attribute) → a.kind ≡ k → get k m ≡ None → AllByRecursion (λ n. n < 2 ^ 32) numbers → numbers_at (get k (with_numbers a numbers ++ m)) ≡ numbers
  with_back a [] k m kind none fit = ap numbers_at none
  with_back a (n ∷ numbers) k m kind none fit =
      ap (λ b. numbers_at (cond b (Some (with_value a (flat_map (to_be_bytes w32) (n ∷ numbers)))) (get k m))) (eq-eqb a.kind k kind) ∙ quads_back (n ∷ numbers) fit

  left_numbers : (k : ℕ) (m : List Attribute) → IsStripped k → IsRising m → AllByRecursion IsLegalAttribute m → numbers_at (get k (stripped_of t m)) ≡ numbers_left t k (numbers_at (get k m))
  left_numbers k [] stripped rising each = none_left k
  left_numbers k (a ∷ m) stripped rising each = by (a.kind == k) refl (left_numbers k m stripped rising.1 each.1)
    where
      apart : false ≡ (a.kind == k) → a.kind ≢ k
      apart e same = let one = eq-eqb a.kind k same in absurd (let two : true ≡ false = sym one ∙ sym e in (cc))

      by : (b : Bool) → b ≡ (a.kind == k) → numbers_at (get k (stripped_of t m)) ≡ numbers_left t k (numbers_at (get k m))
          → numbers_at (get k (left_of t a ++ stripped_of t m)) ≡ numbers_left t k (numbers_at (cond (a.kind == k) (Some a) (get k m)))
      by true e more =
          let kind : a.kind ≡ k = eqb-true a.kind k (sym e) in
          let above : AllAbove k (stripped_of t m) = stripped_above t k m (subst (λ j. AllAbove j m) kind rising.0) in
          let fit = left_fit a.kind (quads a.value) (quads_fit a.value each.0.octets) in
          ap (λ left. numbers_at (get k (left ++ stripped_of t m))) (left_is t a (subst IsStripped (sym kind) stripped))
          ∙ with_back a (numbers_left t a.kind (quads a.value)) k (stripped_of t m) kind (get_above k (stripped_of t m) above) fit
          ∙ ap (λ j. numbers_left t j (quads a.value)) kind
          ∙ ap (λ b. numbers_left t k (numbers_at (cond b (Some a) (get k m)))) e
      by false e more =
          ap numbers_at (get_skips k a (stripped_of t m) (apart e)) ∙ more ∙ ap (λ b. numbers_left t k (numbers_at (cond b (Some a) (get k m)))) e

  pub stripped_communities : (m : List Attribute) → IsLegal m → communities_of (stripped_of t m) ≡ unstripped t (communities_of m)
  stripped_communities m legal = left_numbers 8 m (inl refl) legal.rising legal.each

  pub stripped_large : (m : List Attribute) → IsLegal m → large_communities_of (stripped_of t m) ≡ unstripped_large t (large_communities_of m)
  stripped_large m legal =
      large_at (get 32 (stripped_of t m))
      ∙ ap triples (left_numbers 32 m (inr refl) legal.rising legal.each)
      ∙ triples_back (unstripped_large t (triples (numbers_at (get 32 m))))
      ∙ ap (unstripped_large t) (sym (large_at (get 32 m)))

  -- ---- nothing to strip

  stay : (kind : ℕ) (numbers : List ℕ) → IsStripped kind → (kind ≡ 8 → list_any (is_stripped t) numbers ≡ false) → (kind ≡ 32 → list_any (is_stripped_large t) (triples numbers) ≡ false) → (kind ≡ 32 → length numbers % 3 ≡ 0) → numbers_left t kind numbers ≡ numbers
  stay kind numbers (inl is) none none_large threes =
      ap (λ b. cond b (unstripped t numbers) (flat_map parts_of (unstripped_large t (triples numbers)))) (eq-eqb kind 8 is) ∙ all_stay (is_stripped t) numbers (none is)
  stay kind numbers (inr is) none none_large threes =
      let apart : kind ≢ 8 = λ e. omega arith in
      ap (λ b. cond b (unstripped t numbers) (flat_map parts_of (unstripped_large t (triples numbers)))) (ne_eqb kind 8 apart)
      ∙ ap (flat_map parts_of) (all_stay (is_stripped_large t) (triples numbers) (none_large is))
      ∙ parts_back numbers (threes is)

  with_own : (a : Attribute) → 0 < length a.value → (numbers : List ℕ) → flat_map (to_be_bytes w32) numbers ≡ a.value → with_numbers a numbers ≡ a ∷ []
  with_own a some [] e = let none = ap length e in absurd (omega (arith, none))
  with_own a some (n ∷ numbers) e = λ i. with_value a (e i) ∷ []

  left_same : (a : Attribute) → IsLegalAttribute a → (a.kind ≡ 8 → list_any (is_stripped t) (quads a.value) ≡ false) → (a.kind ≡ 32 → list_any (is_stripped_large t) (triples (quads a.value)) ≡ false) → left_of t a ≡ a ∷ []
  left_same a legal none none_large = by (which a.kind)
    where
      by : IsStripped a.kind ⊎ ((a.kind ≢ 8) × (a.kind ≢ 32)) → left_of t a ≡ a ∷ []
      by (inl kind) =
          let form = is_filled a kind legal in
          left_is t a kind
          ∙ ap (with_numbers a) (stay a.kind (quads a.value) kind none none_large form.threes)
          ∙ with_own a form.some (quads a.value) (octets_back a.value legal.octets form.fours)
      by (inr other) = left_other t a other.0 other.1

  pub stripped_same : (m : List Attribute) → IsLegal m → list_any (is_stripped t) (communities_of m) ≡ false → list_any (is_stripped_large t) (large_communities_of m) ≡ false → stripped_of t m ≡ m
  stripped_same m legal none none_large = all_same (left_of t) m each
    where
      found : (a : Attribute) → Has m a → (k : ℕ) → a.kind ≡ k → numbers_at (get k m) ≡ quads a.value
      found a h k kind = ap (λ j. numbers_at (get j m)) (sym kind) ∙ ap numbers_at (get_own m a legal.rising h)

      each : (a : Attribute) → Has m a → left_of t a ≡ a ∷ []
      each a h = left_same a (each_has IsLegalAttribute m a legal.each h)
          (λ kind. ap (list_any (is_stripped t)) (sym (found a h 8 kind)) ∙ none)
          (λ kind. ap (λ ns. list_any (is_stripped_large t) (triples ns)) (sym (found a h 32 kind)) ∙ ap (list_any (is_stripped_large t)) (sym (large_at (get 32 m))) ∙ none_large)
