-- Walks through trees of prefixes, one behind the other: they rise, and list what has a number.
use Rattle.std.proofs.Common.{Bool, true, false, cond, ◌≡◌, ◌≢◌, ◌<◌, ◌≤◌, ◌+◌, ◌-◌, ◌/◌, ◌++◌, ℕ, zero, suc, List, [], ◌∷◌, length, take, drop, refl, sym, ◌∙◌, ap, arith, inl, inr}
use Rattle.std.specs.Prelude.{Some, None, IsSome, All, Contains, is_some, slice_get}
use Rattle.std.specs.List.{AllByRecursion}
use Rattle.std.specs.List.Sorted.{IsStrictlySortedBy}
use Rattle.std.specs.Map.{keys_of, lookup}
use Rattle.std.specs.BTreeMap.{is_at}
use Rattle.std.specs.Ordering.{nat_cmp, ordering_then, is_le}
use Rattle.std.specs.Cmp.{nat_cmp_is}
use Rattle.std.specs.declared.cmp.Ordering.TheVariants.{Less, Greater}
use Rattle.std.proofs.lemmas.Cmp.{eq_by_cmp_equiv}
use Rattle.std.proofs.lemmas.Option.{same_Some}
use Rattle.std.proofs.lemmas.List.{take_rest}
use Rattle.std.proofs.lemmas.List.Elements.{All-from_recursion, recursion_from_All, filter-append}
use Rattle.std.proofs.lemmas.Map.Keys.{IsDistinct-from_sorted}
use Rattle.std.proofs.lemmas.Map.Views.{Contains-keys_from_lookup, lookup-from_Contains, IsSome-lookup_from_Contains, tells_apart}
use Rattle.rs_octets.specs.Prefixes.{Prefix, prefix_order}
use Rattle.rs_octets.proofs.Members.{Has, contains}
use Rattle.rs_adjin.specs.Onward.{is_from}
use Rattle.rs_adjin.specs.PrefixTrees.{Tree, place_for, number_within, number_among, IsTreeAt, entries_of}
use Rattle.rs_adjin.proofs.TableRows.{prefix_is}
use Rattle.rs_adjin.proofs.Listed.{prefixes_total, exact_prefixes}
use Rattle.rs_adjin.proofs.Onward.{from_on}
use Rattle.rs_adjin.proofs.PrefixTrees.{AreTreesFrom}

abbrev Entries : Type 0
Entries = List (Prefix × ℕ)

-- ---- prefixes of different trees compared

fewer_bits : (a b : ℕ) → a / 1048576 < b / 1048576 → a < b
fewer_bits a b h = omega (arith, h)

before : (p q : Prefix) → place_for p < place_for q → prefix_order p q ≡ Less
before p q h = ap (λ o. ordering_then o (nat_cmp p.len q.len)) (sym (nat_cmp_is p.bits q.bits Less (fewer_bits p.bits q.bits h)))

behind : (p q : Prefix) → place_for q < place_for p → prefix_order p q ≡ Greater
behind p q h = ap (λ o. ordering_then o (nat_cmp p.len q.len)) (sym (nat_cmp_is p.bits q.bits Greater (fewer_bits q.bits p.bits h)))

-- ---- keys of entries joined

weaker : (P Q : Prefix → Type 0) → ((p : Prefix) → P p → Q p) → (ps : List Prefix) → AllByRecursion P ps → AllByRecursion Q ps
weaker P Q f [] h = tt
weaker P Q f (p ∷ ps) h = (f p h.0, weaker P Q f ps h.1)

keys_join : (P : Prefix → Type 0) (es rest : Entries) → AllByRecursion P (keys_of es) → AllByRecursion P (keys_of rest) → AllByRecursion P (keys_of (es ++ rest))
keys_join P [] rest h more = more
keys_join P (e ∷ es) rest h more = (h.0, keys_join P es rest h.1 more)

pub placed : (n : ℕ) (t : Tree) → IsTreeAt n t → AllByRecursion (λ p. place_for p ≡ n) (keys_of t.entries)
placed n t at = recursion_from_All (λ p. place_for p ≡ n) (keys_of t.entries) at.placed

onward_places : (n : ℕ) (trees : List Tree) → AreTreesFrom n trees → AllByRecursion (λ p. n ≤ place_for p) (keys_of (entries_of trees))
onward_places n [] h = tt
onward_places n (t ∷ trees) h =
    keys_join (λ p. n ≤ place_for p) t.entries (entries_of trees) (weaker (λ p. place_for p ≡ n) (λ p. n ≤ place_for p) (λ p e. omega (arith, e)) _ (placed n t h.0))
    (weaker (λ p. suc n ≤ place_for p) (λ p. n ≤ place_for p) (λ p le. omega (arith, le)) _ (onward_places (suc n) trees h.1))

-- ---- they rise

rise_on : (n : ℕ) (es rest : Entries) → IsStrictlySortedBy prefix_order (keys_of es) → AllByRecursion (λ p. place_for p ≡ n) (keys_of es) → IsStrictlySortedBy prefix_order (keys_of rest) → AllByRecursion (λ p. suc n ≤ place_for p) (keys_of rest)
    → IsStrictlySortedBy prefix_order (keys_of (es ++ rest))
unfolding IsStrictlySortedBy
rise_on n [] rest up here more there = more
rise_on n (e ∷ es) rest up here more there = (
  keys_join (λ q. prefix_order e.0 q ≡ Less) es rest up.0 (weaker (λ p. suc n ≤ place_for p) (λ q. prefix_order e.0 q ≡ Less) (λ q le. before e.0 q (omega (arith, le, here.0))) _ there),
  rise_on n es rest up.1 here.1 more there,
)

pub rise : (n : ℕ) (trees : List Tree) → AreTreesFrom n trees → IsStrictlySortedBy prefix_order (keys_of (entries_of trees))
unfolding IsStrictlySortedBy
rise n [] h = tt
rise n (t ∷ trees) h = rise_on n t.entries (entries_of trees) h.0.rising (placed n t h.0) (rise (suc n) trees h.1) (onward_places (suc n) trees h.1)

-- ---- what is found among all entries

module _ (test : Prefix → Bool) where
  front : (es rest : Entries) → lookup test rest ≡ None → lookup test (es ++ rest) ≡ lookup test es
  front [] rest none = none
  front (e ∷ es) rest none = ap (λ o. cond (test e.0) (Some e.1) o) (front es rest none)

  back : (es rest : Entries) → lookup test es ≡ None → lookup test (es ++ rest) ≡ lookup test rest
  back [] rest none = refl
  back (e ∷ es) rest none = one (test e.0) (back es rest) none
    where
      one : (b : Bool) → (lookup test es ≡ None → lookup test (es ++ rest) ≡ lookup test rest) → cond b (Some e.1) (lookup test es) ≡ None → cond b (Some e.1) (lookup test (es ++ rest)) ≡ lookup test rest
      one true more is = absurd (cc)
      one false more is = more is

  unfound : (es : Entries) → AllByRecursion (λ p. test p ≡ false) (keys_of es) → lookup test es ≡ None
  unfound [] h = refl
  unfound (e ∷ es) h = ap (λ b. cond b (Some e.1) (lookup test es)) h.0 ∙ unfound es h.1

apart : (q p : Prefix) → place_for p ≢ place_for q → is_at (prefix_order q) p ≡ false
apart q p ne = elim (prefix_is q p) [
  | inl e ↦ absurd (ne (ap place_for e))
  | inr other ↦ other
]

found_from : (k : ℕ) (trees : List Tree) (n : ℕ) (q : Prefix) → AreTreesFrom k trees → place_for q ≡ k + n → lookup (is_at (prefix_order q)) (entries_of trees) ≡ number_within (slice_get trees n) q
found_from k [] n q h e = refl
found_from k (t ∷ trees) zero q h e =
    front (is_at (prefix_order q)) t.entries (entries_of trees)
    (unfound (is_at (prefix_order q)) (entries_of trees) (weaker (λ p. suc k ≤ place_for p) (λ p. is_at (prefix_order q) p ≡ false) (λ p le. apart q p (λ same. omega (arith, le, same, e))) _ (onward_places (suc k) trees h.1)))
found_from k (t ∷ trees) (suc n) q h e =
    back (is_at (prefix_order q)) t.entries (entries_of trees)
    (unfound (is_at (prefix_order q)) t.entries (weaker (λ p. place_for p ≡ k) (λ p. is_at (prefix_order q) p ≡ false) (λ p at. apart q p (λ same. omega (arith, at, same, e))) _ (placed k t h.0)))
    ∙ found_from (suc k) trees n q h.1 (omega (arith, e))

pub found : (trees : List Tree) (q : Prefix) → AreTreesFrom 0 trees → lookup (is_at (prefix_order q)) (entries_of trees) ≡ number_among trees q
found trees q h = found_from 0 trees (place_for q) q h (omega arith)

each_has : (P : Prefix × ℕ → Type 0) (es : Entries) → ((e : Prefix × ℕ) → Has es e → P e) → AllByRecursion P es
each_has P [] f = tt
each_has P (e ∷ es) f = (f e (inl refl), each_has P es (λ x h. f x (inr h)))

pub numbered : (trees : List Tree) → AreTreesFrom 0 trees → All (λ e. number_among trees e.0 ≡ Some e.1) (entries_of trees)
numbered trees h =
    let es : Entries = entries_of trees in
    let distinct = IsDistinct-from_sorted prefix_order (keys_of es) (rise 0 trees h) in
    All-from_recursion (λ e. number_among trees e.0 ≡ Some e.1) es
    (each_has (λ e. number_among trees e.0 ≡ Some e.1) es (λ e there. sym (found trees e.0 h) ∙ lookup-from_Contains (eq_by_cmp_equiv prefixes_total) e.0 e.1 es distinct (contains es e there)))

pub listed : (trees : List Tree) (p : Prefix) → AreTreesFrom 0 trees → IsSome (number_among trees p) → Contains (keys_of (entries_of trees)) p
listed trees p h some = Contains-keys_from_lookup (tells_apart exact_prefixes) p (entries_of trees) (ap is_some (found trees p h) ∙ some)

pub numbered_key : (trees : List Tree) (p : Prefix) → AreTreesFrom 0 trees → Contains (keys_of (entries_of trees)) p → IsSome (number_among trees p)
numbered_key trees p h there = sym (ap is_some (found trees p h)) ∙ IsSome-lookup_from_Contains (eq_by_cmp_equiv prefixes_total) p (entries_of trees) there

-- ---- all of them, and those from a prefix on

pub all_trees : (trees : List Tree) (t : Tree) → slice_get trees 0 ≡ Some t → t.entries ++ entries_of (drop 1 trees) ≡ entries_of trees
all_trees [] t read = absurd (cc)
all_trees (x ∷ trees) t read = ap (λ (u : Tree). u.entries ++ entries_of trees) (sym (same_Some x t read))

all_from : (from : Prefix) (es : Entries) → AllByRecursion (λ p. place_for from < place_for p) (keys_of es) → from_on from es ≡ es
all_from from [] h = refl
all_from from (e ∷ es) h = ap (λ o. cond (is_le o) (e ∷ from_on from es) (from_on from es)) (before from e.0 h.0) ∙ ap (λ others. e ∷ others) (all_from from es h.1)

none_from : (from : Prefix) (es : Entries) → AllByRecursion (λ p. place_for p < place_for from) (keys_of es) → from_on from es ≡ []
none_from from [] h = refl
none_from from (e ∷ es) h = ap (λ o. cond (is_le o) (e ∷ from_on from es) (from_on from es)) (behind from e.0 h.0) ∙ none_from from es h.1

pub onward : (k : ℕ) (trees : List Tree) (n : ℕ) (t : Tree) (from : Prefix) → AreTreesFrom k trees → slice_get trees n ≡ Some t → place_for from ≡ k + n
    → from_on from t.entries ++ entries_of (drop (suc n) trees) ≡ from_on from (entries_of trees)
onward k [] n t from h read e = absurd (cc)
onward k (x ∷ trees) zero t from h read e =
    ap (λ (u : Tree). from_on from u.entries ++ entries_of trees) (sym (same_Some x t read))
    ∙ (ap (λ others. from_on from x.entries ++ others) (sym (all_from from (entries_of trees) (weaker (λ p. suc k ≤ place_for p) (λ p. place_for from < place_for p) (λ p le. omega (arith, le, e)) _ (onward_places (suc k) trees h.1))))
    ∙ sym (filter-append (λ e. is_from from e.0) x.entries (entries_of trees)))
onward k (x ∷ trees) (suc n) t from h read e =
    onward (suc k) trees n t from h.1 read (omega (arith, e))
    ∙ (ap (λ none. none ++ from_on from (entries_of trees)) (sym (none_from from x.entries (weaker (λ p. place_for p ≡ k) (λ p. place_for p < place_for from) (λ p at. omega (arith, at, e)) _ (placed k x h.0))))
    ∙ sym (filter-append (λ e. is_from from e.0) x.entries (entries_of trees)))

-- ---- as a walk begins

pub begun : (trees xs : List Tree) (t : Tree) (part all : Entries) → all ≡ part ++ entries_of (take (length xs - 1) (drop 1 xs)) → part ≡ t.entries → xs ≡ trees → slice_get trees 0 ≡ Some t → all ≡ entries_of trees
begun trees xs t part all is whole same read =
    is ∙ (ap (λ es. es ++ entries_of (take (length xs - 1) (drop 1 xs))) whole ∙ (ap (λ ts. t.entries ++ entries_of ts) (take_rest xs 1 ∙ ap (drop 1) same) ∙ all_trees trees t read))

pub begun_from : (trees xs : List Tree) (n m : ℕ) (t : Tree) (from : Prefix) (part all : Entries) → m ≡ suc n → all ≡ part ++ entries_of (take (length xs - m) (drop m xs)) → part ≡ from_on from t.entries → xs ≡ trees → AreTreesFrom 0 trees → slice_get trees n ≡ Some t → n ≡ place_for from
    → all ≡ from_on from (entries_of trees)
begun_from trees xs n m t from part all next is some same h read place =
    is
    ∙ (ap (λ es. es ++ entries_of (take (length xs - m) (drop m xs))) some
    ∙ (ap (λ ts. from_on from t.entries ++ entries_of ts) (take_rest xs m ∙ (ap (drop m) same ∙ ap (λ k. drop k trees) next)) ∙ onward 0 trees n t from h read (omega (arith, place))))
