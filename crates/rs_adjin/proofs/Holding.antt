-- The set of the numbers of a client's prefixes, beside the routes.
use Rattle.std.proofs.Common.{Bool, true, false, cond, ◌≡◌, ◌≢◌, ◌<◌, ◌≤◌, ◌+◌, ◌&&◌, ◌==◌, ℕ, suc, List, [], ◌∷◌, length, refl, sym, ◌∙◌, ap, subst, arith, inl, inr, ◌⊎◌}
use Rattle.std.specs.Prelude.{Option, Some, None, is_some, IsSome, All, if◌then◌else◌}
use Rattle.std.specs.List.{filter, count_by, AllByRecursion}
use Rattle.std.specs.List.Sorted.{IsStrictlySortedBy}
use Rattle.std.specs.Map.{keys_of}
use Rattle.std.proofs.lemmas.List.Kept.{IsStrictlySortedBy-filter}
use Rattle.std.proofs.lemmas.List.Elements.{All-from_recursion}
use Rattle.std.proofs.lemmas.List.Sums.{length-filter}
use Rattle.std.proofs.lemmas.Bool.{cases_eq}
use Rattle.std.proofs.lemmas.Bool.Decides.{nat_tests}
use Rattle.std.proofs.lemmas.Option.{same_Some}
use Rattle.rs_octets.specs.Prefixes.{Prefix, prefix_order}
use Rattle.rs_attrs.specs.Meaning.{Attribute}
use Rattle.rs_attrs.specs.Effects.{same_prefix, has_prefix}
use Rattle.rs_attrs.proofs.EachOnce.{same_is, same_itself}
use Rattle.rs_adjin.specs.declared.routes.Route.{Route}
use Rattle.rs_adjin.specs.declared.held.Held.{Held}
use Rattle.rs_adjin.specs.declared.numbers.Numbered.{Numbered}
use Rattle.rs_adjin.specs.Routes.{value_in, IsRising}
use Rattle.rs_adjin.specs.Numbering.{routes_by}
use Rattle.rs_adjin.specs.Numbers.{number_in, prefix_of_in, routes_at, routes_of, KeepsNumbers, SameNumbers}
use Rattle.rs_adjin.specs.Held.{has_number, one_if, Marks, SameSet}
use Rattle.rs_adjin.specs.Listing.{Lists, Counts, numbered_from}
use Rattle.rs_adjin.specs.Table.{IsTable, Writes, KeepsOthers, Clears, IsHeldBy, has_prefix_of, held_prefix}
use Rattle.rs_octets.proofs.Members.{Has, Apart, kept, keeps}
use Rattle.rs_adjin.proofs.RouteLists.{is_rising}
use Rattle.rs_adjin.proofs.TableRows.{row_within}
use Rattle.rs_adjin.proofs.NumberLists.{member_has, has_member, all_are, numbered_apart, numbered_len}
use Rattle.rs_adjin.proofs.Counting.{is_in, is_in_from, has_from, has_is_in, iff, distinct_apart, apart_distinct}
use Rattle.rs_adjin.proofs.PrefixCounts.{counts_from, counts_marked, counts_same, listed_in}

-- ---- routes by number

pub number_cases : (table : Numbered) (n : ℕ) → (routes_of table n ≡ []) ⊎ ((p : Prefix) × (number_in table p ≡ Some n))
number_cases table n = go (prefix_of_in table n) refl
  where
    go : (o : Option Prefix) → prefix_of_in table n ≡ o → (routes_of table n ≡ []) ⊎ ((p : Prefix) × (number_in table p ≡ Some n))
    go None is = inl (table.vacant n is)
    go (Some p) is = inr (p, table.inverse.back p n is)

pub at_number : (table : Numbered) (p : Prefix) (n : ℕ) → number_in table p ≡ Some n → routes_at table p ≡ routes_of table n
at_number table p n is = ap (routes_by table.rows.items) is

-- the routes in each row are by rising client
pub row_rises : (table : Numbered) → IsTable table → (n : ℕ) → IsRising (routes_of table n)
row_rises table whole n = elim (number_cases table n) [
  | inl none ↦ subst IsRising (sym none) (is_rising [] tt)
  | inr there ↦ subst IsRising (at_number table there.0 n there.1) (whole.rising there.0)
]

pub same_number : (table : Numbered) (p q : Prefix) (n : ℕ) → number_in table p ≡ Some n → number_in table q ≡ Some n → q ≡ p
same_number table p q n at there = same_Some q p (sym (table.inverse.there q n there) ∙ table.inverse.there p n at)

module _ {A : Type 0} (f : List Route → A) (old new : Numbered) (keeps : KeepsNumbers old new) (n : ℕ) (same : (q : Prefix) → number_in new q ≡ Some n → f (routes_at new q) ≡ f (routes_at old q)) where
  old_none : (p : Prefix) → number_in new p ≡ Some n → routes_of old n ≡ [] → (o : Option ℕ) → number_in old p ≡ o → routes_at old p ≡ routes_of old n
  old_none p at none None is = ap (routes_by old.rows.items) is ∙ sym none
  old_none p at none (Some m) is = at_number old p m is ∙ ap (routes_of old) (same_Some m n (sym (keeps p m is) ∙ at))

  pub by_number : f (routes_of new n) ≡ f (routes_of old n)
  by_number = elim (number_cases old n) [
    | inl none ↦ elim (number_cases new n) [
      | inl none_now ↦ ap f (none_now ∙ sym none)
      | inr there ↦ ap f (sym (at_number new there.0 n there.1)) ∙ (same there.0 there.1 ∙ ap f (old_none there.0 there.1 none (number_in old there.0) refl))
    ]
    | inr there ↦ ap f (sym (at_number new there.0 n (keeps there.0 n there.1))) ∙ (same there.0 (keeps there.0 n there.1) ∙ ap f (at_number old there.0 n there.1))
  ]

-- ---- the prefixes that a client holds, by the set of their numbers

pub has_as : (c : ℕ) (held : Held) (table : Numbered) → IsHeldBy c held table → (p : Prefix) (n : ℕ) → number_in table p ≡ Some n → has_number held n ≡ is_some (value_in c (routes_at table p))
has_as c held table tied p n at = tied.numbers n ∙ ap (λ rs. is_some (value_in c rs)) (sym (at_number table p n at))

pub prefix_held : (table : Numbered) (held : Held) (n : ℕ) → has_number held n ≡ true → held_prefix table held n ≡ prefix_of_in table n
prefix_held table held n there = ap (λ b. if b then prefix_of_in table n else None) there

pub prefix_left : (table : Numbered) (held : Held) (n : ℕ) → has_number held n ≡ false → held_prefix table held n ≡ None
prefix_left table held n none = ap (λ b. if b then prefix_of_in table n else None) none

held_both : (table : Numbered) (held : Held) (n : ℕ) (p : Prefix) → held_prefix table held n ≡ Some p → (has_number held n ≡ true) × (prefix_of_in table n ≡ Some p)
held_both table held n p is = go (has_number held n) refl
  where
    go : (b : Bool) → has_number held n ≡ b → (has_number held n ≡ true) × (prefix_of_in table n ≡ Some p)
    go true there = (there, sym (prefix_held table held n there) ∙ is)
    go false none = absurd (let bad : None ≡ Some p = sym (prefix_left table held n none) ∙ is in (cc))

module _ (c : ℕ) (held : Held) (table : Numbered) (tied : IsHeldBy c held table) where
  abbrev entries : List (Prefix × ℕ)
  entries = numbered_from (held_prefix table held) 0 (length table.rows.items)

  pub held_once : (a b : ℕ) (p : Prefix) → held_prefix table held a ≡ Some p → held_prefix table held b ≡ Some p → a ≡ b
  held_once a b p here there = same_Some a b (sym (table.inverse.back p a (held_both table held a p here).1) ∙ table.inverse.back p b (held_both table held b p there).1)

  pub entry_held : (p : Prefix) → Has (keys_of entries) p → is_some (value_in c (routes_at table p)) ≡ true
  entry_held p h =
      let m = member_has (held_prefix table held) 0 (length table.rows.items) p h in
      let both = held_both table held m.0 p m.2 in
      sym (has_as c held table tied p m.0 (table.inverse.back p m.0 both.1)) ∙ both.0

  entry_at : (p : Prefix) → is_some (value_in c (routes_at table p)) ≡ true → (o : Option ℕ) → number_in table p ≡ o → Has (keys_of entries) p
  entry_at p h None is = absurd (let bad : true ≡ false = sym h ∙ ap (λ x. is_some (value_in c (routes_by table.rows.items x))) is in (cc))
  entry_at p h (Some n) is =
      let at : prefix_of_in table n ≡ Some p = table.inverse.there p n is in
      let there : has_number held n ≡ true = has_as c held table tied p n is ∙ h in
      let below : n < length table.rows.items = row_within table.rows.items n p at in
      has_member (held_prefix table held) 0 (length table.rows.items) n p (omega arith) (omega (arith, below)) (prefix_held table held n there ∙ at)

  pub held_entry : (p : Prefix) → is_some (value_in c (routes_at table p)) ≡ true → Has (keys_of entries) p
  held_entry p h = entry_at p h (number_in table p) refl

  numbers_of : (es : List (Prefix × ℕ)) → AllByRecursion (λ (e : Prefix × ℕ). held_prefix table held e.1 ≡ Some e.0) es → AllByRecursion (λ (e : Prefix × ℕ). number_in table e.0 ≡ Some e.1) es
  numbers_of [] h = tt
  numbers_of (e ∷ es) h = (table.inverse.back e.0 e.1 (held_both table held e.1 e.0 h.0).1, numbers_of es h.1)

  pub entry_numbers : All (λ (e : Prefix × ℕ). number_in table e.0 ≡ Some e.1) entries
  entry_numbers = All-from_recursion (λ (e : Prefix × ℕ). number_in table e.0 ≡ Some e.1) entries (numbers_of entries (all_are (held_prefix table held) 0 (length table.rows.items)))

  entries_listed : Lists (λ p. is_some (value_in c (routes_at table p))) (keys_of entries)
  entries_listed = record {
    once = apart_distinct (keys_of entries) (numbered_apart (held_prefix table held) 0 (length table.rows.items) held_once);
    all = λ p.
        has_is_in p (keys_of entries)
        ∙ iff (is_in (keys_of entries) p) (is_some (value_in c (routes_at table p))) (λ h. entry_held p (has_from (keys_of entries) p h)) (λ h. is_in_from (keys_of entries) p (held_entry p h));
  }

  pub held_counts : Counts (λ p. is_some (value_in c (routes_at table p))) held.count
  held_counts = record { prefixes = keys_of entries; listed = entries_listed; each = tied.count }

-- ---- a table in which a client has what it had

module _ (c : ℕ) (held : Held) (old new : Numbered) (same : (q : Prefix) → value_in c (routes_at new q) ≡ value_in c (routes_at old q)) (tied : IsHeldBy c held old) where
  count_kept : Counts (λ p. is_some (value_in c (routes_at new p))) held.count
  count_kept = counts_same (λ p. is_some (value_in c (routes_at old p))) (λ p. is_some (value_in c (routes_at new p))) held.count held.count (λ p. ap is_some (same p)) refl (held_counts c held old tied)

  -- prefixes have come
  pub held_kept : KeepsNumbers old new → IsHeldBy c held new
  held_kept keeps = record { numbers = λ n. tied.numbers n ∙ ap is_some (sym (by_number (value_in c) old new keeps n (λ q at. same q))); count = count_kept.each }

  -- prefixes have gone
  pub held_left : KeepsNumbers new old → IsHeldBy c held new
  held_left keeps = record { numbers = λ n. tied.numbers n ∙ ap is_some (by_number (value_in c) new old keeps n (λ q at. sym (same q))); count = count_kept.each }

pub keeps_from_same : (old new : Numbered) → SameNumbers old new → KeepsNumbers old new
keeps_from_same old new same p n is = same p ∙ is

pub held_as : (c : ℕ) (old new : Held) (table : Numbered) → IsHeldBy c old table → SameSet old new → IsHeldBy c new table
held_as c old new table tied same = record {
  numbers = λ n. same.numbers n ∙ tied.numbers n;
  count = λ ps listed. tied.count ps listed ∙ sym same.count;
}

-- ---- one number

-- a number that is there stays, and so does one that isn't
pub mark_same : (held : Held) (n : ℕ) (b : Bool) → has_number held n ≡ b → Marks held held n b
mark_same held n b there = record { numbers = λ m. go m (cases_eq m n); count = ap (λ t. held.count + one_if t) there }
  where
    go : (m : ℕ) → (m ≡ n) ⊎ (m ≢ n) → has_number held m ≡ (if m == n then b else has_number held m)
    go m (inl e) = let is : (m == n) ≡ true = grind (arith, nat_tests, e) in ap (has_number held) e ∙ (there ∙ ap (λ t. if t then b else has_number held m) (sym is))
    go m (inr ne) = let is : (m == n) ≡ false = grind (arith, nat_tests, ne) in ap (λ t. if t then b else has_number held m) (sym is)

-- a number came, and went again
pub marked_back : (old mid new : Held) (n : ℕ) → has_number old n ≡ false → Marks old mid n true → Marks mid new n false → SameSet old new
marked_back old mid new n absent came went = record {
  numbers = λ m. went.numbers m ∙ go m (cases_eq m n);
  count = omega (arith, came.count, went.count, ap one_if absent, ap one_if (came.numbers n ∙ ap (λ t. if t then true else has_number old n) (itself n)));
}
  where
    itself : (m : ℕ) → (m == m) ≡ true
    itself m = grind (arith, nat_tests)

    go : (m : ℕ) → (m ≡ n) ⊎ (m ≢ n) → (if m == n then false else has_number mid m) ≡ has_number old m
    go m (inl e) = let is : (m == n) ≡ true = grind (arith, nat_tests, e) in ap (λ t. if t then false else has_number mid m) is ∙ sym (ap (has_number old) e ∙ absent)
    go m (inr ne) =
        let is : (m == n) ≡ false = grind (arith, nat_tests, ne) in
        ap (λ t. if t then false else has_number mid m) is ∙ (came.numbers m ∙ ap (λ t. if t then true else has_number old m) is)

-- ---- one route written

write_at : (c : ℕ) (w o : Option (List Attribute)) (b : Bool) → (if (c == c) && b then w else o) ≡ (if b then w else o)
write_at c w o true = grind (arith, nat_tests)
write_at c w o false = grind (arith, nat_tests)

module _ (c : ℕ) (old new : Numbered) (p : Prefix) (n : ℕ) (w : Option (List Attribute)) (at : number_in old p ≡ Some n) (numbers : SameNumbers old new) (writes : Writes old new c p w) where
  pub row_here : value_in c (routes_of new n) ≡ w
  row_here =
      ap (value_in c) (sym (at_number new p n (numbers p ∙ at)))
      ∙ (writes c p ∙ (write_at c w (value_in c (routes_at old p)) (same_prefix p p) ∙ ap (λ b. if b then w else value_in c (routes_at old p)) (same_itself p)))

  unlike : (m : ℕ) → m ≢ n → (q : Prefix) → number_in new q ≡ Some m → (b : Bool) → same_prefix q p ≡ b → same_prefix q p ≡ false
  unlike m ne q there true is = absurd (ne (same_Some m n (sym there ∙ (ap (number_in new) (same_is q p is) ∙ (numbers p ∙ at)))))
  unlike m ne q there false is = is

  pub row_apart : (m : ℕ) → m ≢ n → value_in c (routes_of new m) ≡ value_in c (routes_of old m)
  row_apart m ne =
      by_number (value_in c) old new (keeps_from_same old new numbers) m
      (λ q there. writes c q ∙ (write_at c w (value_in c (routes_at old q)) (same_prefix q p) ∙ ap (λ b. if b then w else value_in c (routes_at old q)) (unlike m ne q there (same_prefix q p) refl)))

  some_at : (b : Bool) (o : Option (List Attribute)) → is_some (if b then w else o) ≡ (if b then is_some w else is_some o)
  some_at true o = refl
  some_at false o = refl

  pub held_marked : (before after : Held) → IsHeldBy c before old → Marks before after n (is_some w) → IsHeldBy c after new
  held_marked before after tied marks = record {
    numbers = λ m. marks.numbers m ∙ number m (cases_eq m n);
    count = (counts_marked (λ q. is_some (value_in c (routes_at old q))) (λ q. is_some (value_in c (routes_at new q))) p before.count after.count (held_counts c before old tied) (is_some w)
        (λ q. ap is_some (writes c q ∙ write_at c w (value_in c (routes_at old q)) (same_prefix q p)) ∙ some_at (same_prefix q p) (value_in c (routes_at old q)))
        (ap (λ b. after.count + one_if b) (sym (tied.numbers n ∙ ap (λ rs. is_some (value_in c rs)) (sym (at_number old p n at)))) ∙ marks.count)).each;
  }
    where
      number : (m : ℕ) → (m ≡ n) ⊎ (m ≢ n) → (if m == n then is_some w else has_number before m) ≡ is_some (value_in c (routes_of new m))
      number m (inl e) =
          let is : (m == n) ≡ true = grind (arith, nat_tests, e) in
          ap (λ t. if t then is_some w else has_number before m) is ∙ ap is_some (sym (ap (λ k. value_in c (routes_of new k)) e ∙ row_here))
      number m (inr ne) =
          let is : (m == n) ≡ false = grind (arith, nat_tests, ne) in
          ap (λ t. if t then is_some w else has_number before m) is ∙ (tied.numbers m ∙ ap is_some (sym (row_apart m ne)))

-- a number of the set is that of a prefix
pub numbered : (c : ℕ) (held : Held) (table : Numbered) → IsHeldBy c held table → (n : ℕ) → has_number held n ≡ true → IsSome (prefix_of_in table n)
numbered c held table tied n there = go (prefix_of_in table n) refl
  where
    go : (o : Option Prefix) → prefix_of_in table n ≡ o → IsSome (prefix_of_in table n)
    go None is = absurd (let e : true ≡ false = sym there ∙ (tied.numbers n ∙ ap (λ rs. is_some (value_in c rs)) (table.vacant n is)) in (cc))
    go (Some p) is = ap is_some is

pub some_counted : (has : Prefix → Bool) (n : ℕ) → Counts has n → (p : Prefix) → has p ≡ true → 0 < n
some_counted has n counted p there = subst (λ k. 0 < k) (counted.each counted.prefixes counted.listed) (go counted.prefixes (counted.listed.all p ∙ there))
  where
    go : (ps : List Prefix) → has_prefix p ps ≡ true → 0 < length ps
    go [] h = absurd (cc)
    go (q ∷ ps) h = omega arith

-- ---- a client that holds nothing

not_some : {A : Type 0} (o : Option A) → is_some o ≡ false → o ≡ None
not_some None is = refl
not_some (Some x) is = (cc)

module _ (c : ℕ) (table : Numbered) (none : (n : ℕ) → is_some (value_in c (routes_of table n)) ≡ false) where
  none_by : (q : Prefix) (o : Option ℕ) → number_in table q ≡ o → value_in c (routes_at table q) ≡ None
  none_by q None is = ap (λ x. value_in c (routes_by table.rows.items x)) is
  none_by q (Some n) is = ap (value_in c) (at_number table q n is) ∙ not_some _ (none n)

  pub holds_none : (q : Prefix) → value_in c (routes_at table q) ≡ None
  holds_none q = none_by q (number_in table q) refl

  pub held_none : (held : Held) → ((n : ℕ) → has_number held n ≡ false) → held.count ≡ 0 → IsHeldBy c held table
  held_none held empty count = record {
    numbers = λ n. empty n ∙ sym (none n);
    count = (counts_from (λ p. is_some (value_in c (routes_at table p))) [] held.count record { once = apart_distinct [] tt; all = λ p. sym (ap is_some (holds_none p)) } (sym count)).each;
  }

pub cleared_by : (c : ℕ) (old new : Numbered) → ((n : ℕ) → is_some (value_in c (routes_of new n)) ≡ false) → KeepsOthers old new c → Clears old new c
cleared_by c old new none others d q = go (cases_eq d c)
  where
    go : (d ≡ c) ⊎ (d ≢ c) → value_in d (routes_at new q) ≡ (if d == c then None else value_in d (routes_at old q))
    go (inl e) =
        let is : (d == c) ≡ true = grind (arith, nat_tests, e) in
        ap (λ k. value_in k (routes_at new q)) e ∙ (holds_none c new none q ∙ sym (ap (λ t. if t then None else value_in d (routes_at old q)) is))
    go (inr ne) = let is : (d == c) ≡ false = grind (arith, nat_tests, ne) in others d q ne ∙ sym (ap (λ t. if t then None else value_in d (routes_at old q)) is)

-- ---- a prefix looked up in the set

pub holds_by : (c : ℕ) (held : Held) (table : Numbered) → IsHeldBy c held table → (p : Prefix) → has_prefix_of held (number_in table p) ≡ is_some (value_in c (routes_at table p))
holds_by c held table tied p = go (number_in table p) refl
  where
    go : (o : Option ℕ) → number_in table p ≡ o → has_prefix_of held o ≡ is_some (value_in c (routes_by table.rows.items o))
    go None is = refl
    go (Some n) is = tied.numbers n

count_by_same : (f g : Prefix → Bool) → ((p : Prefix) → f p ≡ g p) → (ps : List Prefix) → count_by f ps ≡ count_by g ps
count_by_same f g same ps = sym (length-filter f ps) ∙ (go ps ∙ length-filter g ps)
  where
    one : (p : Prefix) (xs ys : List Prefix) → length xs ≡ length ys → (b : Bool) → length (cond b (p ∷ xs) xs) ≡ length (cond b (p ∷ ys) ys)
    one p xs ys e true = ap (λ n. suc n) e
    one p xs ys e false = e

    go : (ps : List Prefix) → length (filter f ps) ≡ length (filter g ps)
    go [] = refl
    go (p ∷ ps) = ap (λ b. length (cond b (p ∷ filter f ps) (filter f ps))) (same p) ∙ one p (filter f ps) (filter g ps) (go ps) (g p)

module _ (c : ℕ) (held : Held) (table : Numbered) (tied : IsHeldBy c held table) where
  abbrev pub prefixes : List Prefix
  prefixes = (held_counts c held table tied).prefixes

  pub held_in : (p : Prefix) → is_in prefixes p ≡ is_some (value_in c (routes_at table p))
  held_in p = listed_in (λ q. is_some (value_in c (routes_at table q))) prefixes (held_counts c held table tied).listed p

  pub held_apart : Apart prefixes
  held_apart = distinct_apart prefixes (held_counts c held table tied).listed.once

  pub held_long : held.count ≡ length prefixes
  held_long = sym (tied.count prefixes (held_counts c held table tied).listed)

  pub held_among : (ps : List Prefix) → count_by (λ p. has_prefix_of held (number_in table p)) ps ≡ count_by (is_in prefixes) ps
  held_among ps = count_by_same (λ p. has_prefix_of held (number_in table p)) (is_in prefixes) (λ p. holds_by c held table tied p ∙ sym (held_in p)) ps

  pub held_few : held.count ≤ length table.rows.items
  unfolding held_counts
  held_few = let few : length prefixes ≤ length table.rows.items = numbered_len (held_prefix table held) 0 (length table.rows.items) in omega (arith, few, held_long)

-- ---- of all prefixes with a number those that the client holds

module _ (c : ℕ) (held : Held) (table : Numbered) (tied : IsHeldBy c held table) where
  abbrev has_entry : Prefix × ℕ → Bool
  has_entry e = has_number held e.1

  abbrev has_by_prefix : Prefix → Bool
  has_by_prefix p = has_prefix_of held (number_in table p)

  keys_at : (p : Prefix) (n : ℕ) (es : List (Prefix × ℕ)) → keys_of (filter has_entry es) ≡ filter has_by_prefix (keys_of es) → number_in table p ≡ Some n → (b : Bool) → has_number held n ≡ b
      → keys_of (cond b ((p, n) ∷ filter has_entry es) (filter has_entry es)) ≡ cond (has_by_prefix p) (p ∷ filter has_by_prefix (keys_of es)) (filter has_by_prefix (keys_of es))
  keys_at p n es same at true is = ap (λ ps. p ∷ ps) same ∙ ap (λ b. cond b (p ∷ filter has_by_prefix (keys_of es)) (filter has_by_prefix (keys_of es))) (sym (ap (has_prefix_of held) at ∙ is))
  keys_at p n es same at false is = same ∙ ap (λ b. cond b (p ∷ filter has_by_prefix (keys_of es)) (filter has_by_prefix (keys_of es))) (sym (ap (has_prefix_of held) at ∙ is))

  pub held_keys : (es : List (Prefix × ℕ)) → AllByRecursion (λ e. number_in table e.0 ≡ Some e.1) es → keys_of (filter has_entry es) ≡ filter has_by_prefix (keys_of es)
  held_keys [] at = refl
  held_keys (e ∷ es) at = keys_at e.0 e.1 es (held_keys es at.1) at.0 (has_number held e.1) refl

  pub rising_held : (es : List (Prefix × ℕ)) → AllByRecursion (λ e. number_in table e.0 ≡ Some e.1) es → IsStrictlySortedBy prefix_order (keys_of es) → IsStrictlySortedBy prefix_order (keys_of (filter has_entry es))
  rising_held es at up = subst (IsStrictlySortedBy prefix_order) (sym (held_keys es at)) (IsStrictlySortedBy-filter prefix_order has_by_prefix (keys_of es) up)

  -- one that is listed is held, and one that is held is listed
  pub listed_held : (es : List (Prefix × ℕ)) → AllByRecursion (λ e. number_in table e.0 ≡ Some e.1) es → (p : Prefix) → Has (keys_of (filter has_entry es)) p → IsSome (value_in c (routes_at table p))
  listed_held es at p h = sym (holds_by c held table tied p) ∙ (kept has_by_prefix (keys_of es) p (subst (λ ps. Has ps p) (held_keys es at) h)).1

  pub held_listed : (es : List (Prefix × ℕ)) → AllByRecursion (λ e. number_in table e.0 ≡ Some e.1) es → (p : Prefix) → Has (keys_of es) p → IsSome (value_in c (routes_at table p)) → Has (keys_of (filter has_entry es)) p
  held_listed es at p there h = subst (λ ps. Has ps p) (sym (held_keys es at)) (keeps has_by_prefix (keys_of es) p there (holds_by c held table tied p ∙ h))
