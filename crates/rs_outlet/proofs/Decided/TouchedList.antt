-- The list of touched prefixes: what it says, what a touch more makes of it, and what is left once it is in order.
use Rattle.std.proofs.Common.{inl, inr, ◌≡◌, ◌∙◌, ◌↔◌, ◌<◌, ◌≤◌, ◌-◌, ℕ, zero, suc, Bool, true, false, cond, not, ◌||◌, nat_eq, nat_lt, Option, None, Some, List, [], ◌∷◌, ◌++◌, length, get_or, ◌+◌, refl, sym, ap, subst, arith}
use mathlib.Core.Bool.{true≢false}
use Rattle.std.specs.List.{AllByRecursion, IsDistinct, dedup, dedup_from, list_any}
use Rattle.std.specs.List.Sorted.{IsPermutation, IsSorted, IsStrictlySortedBy}
use Rattle.std.specs.Map.{keys_of}
use Rattle.std.specs.Cmp.{IsTotalOrder, nat_cmp_total}
use Rattle.std.specs.FinSet as set
use Rattle.std.specs.Ordering.{eq_by_cmp, is_eq, nat_cmp}
use Rattle.std.specs.declared.cmp.Ordering.{Ordering}
use Rattle.std.specs.declared.cmp.Ordering.TheVariants.{Less}
use Rattle.std.proofs.lemmas.Bool.Decides.{nat_tests}
use Rattle.std.proofs.lemmas.Cmp.{on_total, tied_itself}
use Rattle.std.proofs.lemmas.List.Kept.{IsStrictlySortedBy-dedup}
use Rattle.std.proofs.lemmas.List.Sorted.{IsPermutation-map, list_any-IsPermutation}
use Rattle.std.proofs.lemmas.Bool.{cases_eq, eqb-true, or_right}
use Rattle.std.proofs.lemmas.Option.{same_Some}
use Rattle.rs_octets.specs.Prefixes.{Prefix, prefix_order}
use Rattle.rs_adjin.specs.declared.adj_ins.AdjIns.{AdjIns}
use Rattle.rs_adjin.specs.AdjIns.{number_of}
use Rattle.rs_outlet.specs.Views.{HaveNumbers, Prefixes, is_touched, is_whole, with_touch}
use Rattle.rs_outlet.specs.Decided.Touching.{AreOnce, MayAdd, is_numbered_in, prefixes_in, stale_of, touched_by, touched_of}
use Rattle.std.specs.Prelude.{◌⊎◌, option_map, slice_get}
use Rattle.rs_outlet.proofs.Pending.Deduped.{any_deduped}
use Rattle.rs_adjin.proofs.Listed.{exact_prefixes, prefixes_total}
use Rattle.rs_outlet.proofs.Decided.Touches.{contains-from_list, prefix_eq, prefix_eq-cmp, prefix_eq-is, unsigned}
use Rattle.rs_outlet.proofs.Decided.TouchedNumbers.{any_none, any_number, moved_numbers, touched_count}

abbrev Entry : Type 0
Entry = ℕ × Prefix

-- ---- what it says: its prefixes, or all where they are more than 4,096

abbrev few : Prefixes → Option Prefixes
few s = cond (nat_lt 4096 (set.len s)) None (Some s)

same_insert : (s : Prefixes) (p : Prefix) → set.contains s p ≡ true → set.insert s p ≡ s
same_insert s p here = set.same_set prefixes_total exact_prefixes _ _ (λ q. set.contains-insert prefixes_total s p q ∙ by_same q (eq_by_cmp prefix_order q p) refl)
  where
    by_same : (q : Prefix) (b : Bool) → eq_by_cmp prefix_order q p ≡ b → (b || set.contains s q) ≡ set.contains s q
    by_same q true e = sym (ap (set.contains s) (prefix_eq-is q p (sym (prefix_eq-cmp q p) ∙ e)) ∙ here)
    by_same q false e = refl

still_many : (n m : ℕ) (b : Bool) → m ≡ cond b n (n + 1) → nat_lt 4096 n ≡ true → true ≡ nat_lt 4096 m
still_many n m true is h = grind (arith, nat_tests, is, h)
still_many n m false is h = grind (arith, nat_tests, is, h)

one_more : (n m : ℕ) → m ≡ n + 1 → not (nat_lt n 4096) ≡ nat_lt 4096 m
one_more n m is = grind (arith, nat_tests, is)

turned_round : {A : Type 0} (b : Bool) (x y : A) → cond b x y ≡ cond (not b) y x
turned_round true x y = refl
turned_round false x y = refl

-- a touch more
touch_few : (s : Prefixes) (p : Prefix) → with_touch (few s) p ≡ few (set.insert s p)
touch_few s p = by_size (nat_lt 4096 (set.len s)) refl (set.contains s p) refl
  where
    more : set.len (set.insert s p) ≡ cond (set.contains s p) (set.len s) (set.len s + 1)
    more = set.len-insert prefixes_total s p

    by_size : (many : Bool) → nat_lt 4096 (set.len s) ≡ many → (b : Bool) → set.contains s p ≡ b → with_touch (cond many None (Some s)) p ≡ few (set.insert s p)
    by_size true m b h = ap (λ b. cond b None (Some (set.insert s p))) (still_many (set.len s) (set.len (set.insert s p)) (set.contains s p) more m)
    by_size false m true h =
        ap (λ b. cond b (Some s) (cond (nat_lt (set.len s) 4096) (Some (set.insert s p)) None)) h
        ∙ ap (λ b. cond b None (Some s)) (sym m)
        ∙ ap few (sym (same_insert s p h))
    by_size false m false h =
        ap (λ b. cond b (Some s) (cond (nat_lt (set.len s) 4096) (Some (set.insert s p)) None)) h
        ∙ turned_round (nat_lt (set.len s) 4096) (Some (set.insert s p)) None
        ∙ ap (λ b. cond b None (Some (set.insert s p))) (one_more (set.len s) (set.len (set.insert s p)) (more ∙ ap (λ b. cond b (set.len s) (set.len s + 1)) h))

pub listed : (es : List Entry) → touched_by es ≡ few (set.from_list (prefixes_in es))
listed [] = ap (λ n. cond (nat_lt 4096 n) None (Some (set.empty {R = prefix_order}))) (sym (set.len-empty prefix_order))
listed (e ∷ es) = ap (λ o. with_touch o e.1) (listed es) ∙ touch_few (set.from_list (prefixes_in es)) e.1

prefixes_push : (es : List Entry) (e : Entry) → prefixes_in (es ++ e ∷ []) ≡ prefixes_in es ++ e.1 ∷ []
prefixes_push [] e = refl
prefixes_push (d ∷ es) e = ap (λ ps. d.1 ∷ ps) (prefixes_push es e)

listed_push : (es : List Entry) (e : Entry) → set.from_list {R = prefix_order} (prefixes_in (es ++ e ∷ [])) ≡ set.insert (set.from_list (prefixes_in es)) e.1
listed_push es e = ap set.from_list (prefixes_push es e) ∙ set.from_list_push prefixes_total exact_prefixes (prefixes_in es) e.1

-- what is stale after a touch more
pub stale_push : (b : Bool) (es : List Entry) (e : Entry) (old : Option Prefixes) → b ≡ false → (stale_of b es ≡ old) ⊎ (stale_of b es ≡ None) → MayAdd e.1 old (stale_of b (es ++ e ∷ []))
stale_push true es e old part h = absurd (true≢false part)
stale_push false es e old part (inl h) = inl (ap (λ s. Some s) (listed_push es e) ∙ ap (option_map (λ s. set.insert s e.1)) h)
stale_push false es e old part (inr h) = absurd (let f : ◌≡◌ {A = Option Prefixes} (Some (set.from_list (prefixes_in es))) None = h in cc)

pub touched_push : (es : List Entry) (e : Entry) → touched_by (es ++ e ∷ []) ≡ with_touch (touched_by es) e.1
touched_push es e =
    listed (es ++ e ∷ [])
    ∙ ap few (ap set.from_list (prefixes_push es e) ∙ set.from_list_push prefixes_total exact_prefixes (prefixes_in es) e.1)
    ∙ sym (touch_few (set.from_list (prefixes_in es)) e.1)
    ∙ ap (λ o. with_touch o e.1) (sym (listed es))

added_here : (s : Prefixes) (p : Prefix) → set.contains (set.insert s p) p ≡ true
added_here s p = set.contains-insert prefixes_total s p p ∙ ap (λ b. b || set.contains s p) (ap is_eq (tied_itself prefixes_total p))

pub added_stale : (p : Prefix) (old new : Option Prefixes) → MayAdd p old new → is_touched new p ≡ true
added_stale p None new (inl is) = ap (λ o. is_touched o p) is
added_stale p (Some s) new (inl is) = ap (λ o. is_touched o p) is ∙ added_here s p
added_stale p old new (inr all) = ap (λ o. is_touched o p) all

pub kept_stale : (p q : Prefix) (old new : Option Prefixes) → MayAdd p old new → is_touched old q ≡ true → is_touched new q ≡ true
kept_stale p q None new (inl is) there = ap (λ o. is_touched o q) is
kept_stale p q (Some s) new (inl is) there = ap (λ o. is_touched o q) is ∙ set.contains-insert prefixes_total s p q ∙ or_right (eq_by_cmp prefix_order q p) (set.contains s q) there
kept_stale p q old new (inr all) there = ap (λ o. is_touched o q) all

few_within : (s : Prefixes) (q : Prefix) (many : Bool) → is_touched (cond many None (Some s)) q ≡ false → set.contains s q ≡ false
few_within s q true h = absurd (true≢false h)
few_within s q false h = h

-- what is stale is touched
pub stale_within : (all : Bool) (es : List Entry) (q : Prefix) → is_touched (touched_of all es) q ≡ false → is_touched (stale_of all es) q ≡ false
stale_within true es q h = h
stale_within false es q h = few_within (set.from_list (prefixes_in es)) q (nat_lt 4096 (set.len (set.from_list (prefixes_in es)))) (sym (ap (λ o. is_touched o q) (listed es)) ∙ h)

in_empty : (s : Prefixes) (p : Prefix) → set.contains s p ≡ true → s ≡ set.empty → ⊥
in_empty s p here e = true≢false (sym here ∙ ap (λ t. set.contains t p) e ∙ set.contains-empty prefix_order p)

put_in : (s : Prefixes) (p : Prefix) → set.contains (set.insert s p) p ≡ true
put_in s p = set.contains-insert prefixes_total s p p ∙ ap (λ b. b || set.contains s p) (ap is_eq (tied_itself prefixes_total p))

-- something is touched after a touch
not_empty : (o : Option Prefixes) (p : Prefix) → with_touch o p ≡ Some set.empty → ⊥
not_empty None p h = absurd (let f : ◌≡◌ {A = Option Prefixes} None (Some set.empty) = h in (cc))
not_empty (Some s) p h =
    elim (set.contains s p) as (λ b. set.contains s p ≡ b → cond b (Some s) (cond (nat_lt (set.len s) 4096) (Some (set.insert s p)) None) ≡ Some set.empty → ⊥) [
      | true ↦ λ here e. in_empty s p here (same_Some s set.empty e)
      | false ↦ λ _. elim (nat_lt (set.len s) 4096) as (λ c. cond c (Some (set.insert s p)) None ≡ Some set.empty → ⊥) [
        | true ↦ λ e. in_empty (set.insert s p) p (put_in s p) (same_Some (set.insert s p) set.empty e)
        | false ↦ λ e. absurd (cc)
      ]
    ] refl h

none_touched : (es : List Entry) → touched_by es ≡ Some set.empty → length es ≡ 0
none_touched [] h = refl
none_touched (e ∷ es) h = absurd (not_empty (touched_by es) e.1 h)

empty_touched : (es : List Entry) → length es ≡ 0 → touched_by es ≡ Some set.empty
empty_touched [] h = refl
empty_touched (e ∷ es) h = absurd (omega (arith, h))

zero_is : (n : ℕ) → nat_eq n 0 ≡ true → n ≡ 0
zero_is n h = grind (arith, nat_tests, h)

is_zero : (n : ℕ) → n ≡ 0 → nat_eq n 0 ≡ true
is_zero n h = grind (arith, nat_tests, h)

nil_by_length : (es : List Entry) → length es ≡ 0 → es ≡ []
nil_by_length [] h = refl
nil_by_length (e ∷ es) h = absurd (omega (arith, h))

pub no_entries : (es : List Entry) (n : ℕ) (b : Bool) → n ≡ length es → b ≡ nat_eq n 0 → (b ≡ true) ↔ (es ≡ [])
no_entries es n b len is = (λ t. nil_by_length es (sym len ∙ zero_is n (sym is ∙ t)), λ e. is ∙ is_zero n (len ∙ ap length e))

-- where nothing is touched, no touch is listed
pub none_listed : (all : Bool) (es : List Entry) → touched_of all es ≡ Some set.empty → es ≡ []
none_listed true es h = absurd (let f : ◌≡◌ {A = Option Prefixes} None (Some set.empty) = h in cc)
none_listed false es h = nil_by_length es (none_touched es h)

pub emptied : (es : List Entry) (n : ℕ) (b : Bool) → n ≡ length es → b ≡ nat_eq n 0 → (b ≡ true) ↔ (touched_by es ≡ Some set.empty)
emptied es n b len is = (λ t. empty_touched es (sym len ∙ zero_is n (sym is ∙ t)), λ e. is ∙ is_zero n (len ∙ none_touched es e))

-- ---- in order

abbrev pub by_number : Entry → Entry → Ordering
by_number e f = nat_cmp e.0 f.0

abbrev pub same_number : Entry → Entry → Bool
same_number e f = nat_eq e.0 f.0

numbers_total : IsTotalOrder by_number
numbers_total = on_total (λ (e : Entry). e.0) nat_cmp_total

all_apart : (n : ℕ) (es : List Entry) → AllByRecursion (λ f. nat_cmp n f.0 ≡ Less) es → AllByRecursion (λ m. nat_eq n m ≡ false) (keys_of es)
all_apart n [] h = tt
all_apart n (e ∷ es) h = (sym (unsigned n e.0) ∙ ap is_eq h.0, all_apart n es h.1)

rising_once : (es : List Entry) → IsStrictlySortedBy by_number es → IsDistinct nat_eq (keys_of es)
unfolding IsStrictlySortedBy IsDistinct
rising_once [] h = tt
rising_once (e ∷ es) h = (all_apart e.0 es h.0, rising_once es h.1)

-- below an index each number is greater than the one before it
abbrev pub RisesBelow : ℕ → List Entry → Type 0
RisesBelow n es = (k : ℕ) (e f : Entry) → suc k < n → slice_get es k ≡ Some e → slice_get es (suc k) ≡ Some f → e.0 < f.0

abbrev pub Rises : List Entry → Type 0
Rises es = (k : ℕ) (e f : Entry) → slice_get es k ≡ Some e → slice_get es (suc k) ≡ Some f → e.0 < f.0

above_apart : (n : ℕ) (es : List Entry) → ((f : Entry) → slice_get es 0 ≡ Some f → n < f.0) → Rises es → AllByRecursion (λ m. nat_eq n m ≡ false) (keys_of es)
above_apart n [] first up = tt
above_apart n (e ∷ es) first up = (
  let below : n < e.0 = first e refl in grind (arith, nat_tests, below),
  above_apart n es (λ f is. omega (arith, first e refl, up 0 e f refl is)) (λ k. up (suc k)),
)

pub rises_once : (es : List Entry) → Rises es → IsDistinct nat_eq (keys_of es)
unfolding IsDistinct
rises_once [] up = tt
rises_once (e ∷ es) up = (above_apart e.0 es (λ f is. up 0 e f refl is) (λ k. up (suc k)), rises_once es (λ k. up (suc k)))

read_at : (es : List Entry) (n : ℕ) (e d : Entry) → slice_get es n ≡ Some e → get_or es n d ≡ e
read_at [] n e d is = absurd (cc is)
read_at (x ∷ es) zero e d is = same_Some x e is
read_at (x ∷ es) (suc n) e d is = read_at es n e d is

read_within : (es : List Entry) (n : ℕ) (e : Entry) → slice_get es n ≡ Some e → n < length es
read_within [] n e is = absurd (cc is)
read_within (x ∷ es) zero e is = omega arith
read_within (x ∷ es) (suc n) e is = omega (arith, read_within es n e is)

-- one index further
pub rises_more : (es : List Entry) (n : ℕ) (c d : Entry) → RisesBelow n es → (get_or es (n - 1) c).0 < (get_or es n d).0 → RisesBelow (n + 1) es
rises_more es n c d up step k e f below at next = elim (cases_eq (suc k) n) [
  | inl last ↦
      let before : n - 1 ≡ k = omega (arith, last) in
      let one : get_or es (n - 1) c ≡ e = ap (λ m. get_or es m c) before ∙ read_at es k e c at in
      let two : get_or es n d ≡ f = ap (λ m. get_or es m d) (sym last) ∙ read_at es (suc k) f d next in
      omega (arith, step, ap (λ (x : Entry). x.0) one, ap (λ (x : Entry). x.0) two)
  | inr other ↦ up k e f (omega (arith, below, other)) at next
]

-- to the end
pub rises_all : (es : List Entry) (n : ℕ) → length es ≤ n → RisesBelow n es → Rises es
rises_all es n all up k e f at next = up k e f (omega (arith, all, read_within es (suc k) f next)) at next

numbered_once : (n : ℕ) (es : List Entry) → is_numbered_in (dedup same_number es) n ≡ is_numbered_in es n
numbered_once n es = any_deduped (λ (e : Entry). e.0) same_number (λ e f t. eqb-true e.0 f.0 t) (nat_eq n) es

all_from : (P : Entry → Type 0) (k : Entry) (es : List Entry) → P k → AllByRecursion P es → AllByRecursion P (dedup_from same_number k es)
all_from P k [] is h = (is, tt)
all_from P k (e ∷ es) is h =
    elim (nat_eq e.0 k.0) as (λ b. AllByRecursion P (cond b (dedup_from same_number k es) (k ∷ dedup_from same_number e es))) [
      | true ↦ all_from P k es is h.1
      | false ↦ (is, all_from P e es h.0 h.1)
    ]

all_once : (P : Entry → Type 0) (es : List Entry) → AllByRecursion P es → AllByRecursion P (dedup same_number es)
all_once P [] h = tt
all_once P (e ∷ es) h = all_from P e es h.0 h.1

-- sorted by number, and each number left once
pub ordered : (es ms fs : List Entry) → IsPermutation es ms → IsSorted by_number ms → fs ≡ dedup same_number ms → AreOnce es fs
ordered es ms fs moved up is = subst (AreOnce es) (sym is) (record {
  once = rising_once (dedup same_number ms) (IsStrictlySortedBy-dedup numbers_total (λ e f. sym (unsigned e.0 f.0)) ms up);
  same = λ n. numbered_once n ms ∙ sym (list_any-IsPermutation (nat_eq n) _ _ (IsPermutation-map (λ (e : Entry). e.0) es ms moved));
  numbered = λ ins h. all_once (λ e. number_of ins e.1 ≡ Some e.0) ms (moved_numbers ins es ms moved h);
})

more_than : (n m : ℕ) → n ≡ m → 4096 < n → nat_lt 4096 m ≡ true
more_than n m is h = grind (arith, nat_tests, is, h)

module _ (ins : AdjIns) (es fs : List Entry) (o : AreOnce es fs) (h : HaveNumbers es ins) where
  same_prefixes : set.from_list {R = prefix_order} (prefixes_in fs) ≡ set.from_list (prefixes_in es)
  same_prefixes = set.same_set prefixes_total exact_prefixes _ _ (λ q. contains-from_list q (prefixes_in fs) ∙ at q (number_of ins q) refl ∙ sym (contains-from_list q (prefixes_in es)))
    where
      at : (q : Prefix) (n : Option ℕ) → number_of ins q ≡ n → list_any (prefix_eq q) (prefixes_in fs) ≡ list_any (prefix_eq q) (prefixes_in es)
      at q None is = any_none ins fs q (o.numbered ins h) is ∙ sym (any_none ins es q h is)
      at q (Some n) is = any_number ins fs q n (o.numbered ins h) is ∙ o.same n ∙ sym (any_number ins es q n h is)

  count : length fs ≡ set.len (set.from_list {R = prefix_order} (prefixes_in es))
  count = touched_count ins fs (o.numbered ins h) o.once ∙ ap set.len same_prefixes

  pub too_many : 4096 < length fs → touched_by es ≡ None
  too_many many = listed es ∙ ap (λ b. cond b None (Some (set.from_list (prefixes_in es)))) (more_than (length fs) (set.len (set.from_list (prefixes_in es))) count many)

  -- as many as are touched
  pub many_are : (prefixes : Prefixes) → touched_by es ≡ Some prefixes → length fs ≡ set.len prefixes
  many_are prefixes is = count ∙ by_size (nat_lt 4096 (set.len (set.from_list (prefixes_in es)))) (set.from_list (prefixes_in es)) (sym (listed es) ∙ is)
    where
      by_size : (b : Bool) (s : Prefixes) → cond b None (Some s) ≡ Some prefixes → set.len s ≡ set.len prefixes
      by_size true s e = absurd (let f : ◌≡◌ {A = Option Prefixes} None (Some prefixes) = e in cc)
      by_size false s e = ap set.len (same_Some s prefixes e)

  pub same_touched : (all : Bool) → touched_of all fs ≡ touched_of all es
  same_touched true = refl
  same_touched false = listed fs ∙ ap few same_prefixes ∙ sym (listed es)

  -- a turn is whole where more than 4,096 are listed
  pub is_many : (b : Bool) → b ≡ false → is_whole (touched_of b es) ≡ nat_lt 4096 (length fs)
  is_many true part = absurd (true≢false part)
  is_many false part = ap is_whole (listed es) ∙ whole_by (nat_lt 4096 (set.len (set.from_list (prefixes_in es)))) (set.from_list (prefixes_in es)) ∙ ap (nat_lt 4096) (sym count)
    where
      whole_by : (b : Bool) (s : Prefixes) → is_whole (cond b None (Some s)) ≡ b
      whole_by true s = refl
      whole_by false s = refl

  pub stale_same : (all : Bool) → stale_of all fs ≡ stale_of all es
  stale_same true = refl
  stale_same false = ap (λ s. Some s) same_prefixes

  pub all_touched : (all : Bool) → 4096 < length fs → None ≡ touched_of all es
  all_touched true many = refl
  all_touched false many = sym (too_many many)

  -- it has room for more, or was given up
  pub longer_touched : (all b : Bool) (new : List Entry) → 4096 < length fs → ((b ≡ all) × (new ≡ fs)) ⊎ ((b ≡ true) × (new ≡ [])) → touched_of b new ≡ touched_of all es
  longer_touched all b new many (inl same) = (λ i. touched_of (same.0 i) (same.1 i)) ∙ same_touched all
  longer_touched all b new many (inr gone) = (λ i. touched_of (gone.0 i) (gone.1 i)) ∙ all_touched all many

  pub longer_stale : (all b : Bool) (new : List Entry) → ((b ≡ all) × (new ≡ fs)) ⊎ ((b ≡ true) × (new ≡ [])) → (stale_of b new ≡ stale_of all es) ⊎ (stale_of b new ≡ None)
  longer_stale all b new (inl same) = inl ((λ i. stale_of (same.0 i) (same.1 i)) ∙ stale_same all)
  longer_stale all b new (inr gone) = inr (λ i. stale_of (gone.0 i) (gone.1 i))

  pub longer_numbered : (all b : Bool) (new : List Entry) → ((b ≡ all) × (new ≡ fs)) ⊎ ((b ≡ true) × (new ≡ [])) → HaveNumbers new ins
  longer_numbered all b new (inl same) = subst (λ xs. HaveNumbers xs ins) (sym same.1) (o.numbered ins h)
  longer_numbered all b new (inr gone) = subst (λ xs. HaveNumbers xs ins) (sym gone.1) tt
