-- The sets that routes have, and that so many are counted.
use Rattle.std.proofs.Common.{Bool, true, false, not, ◌≡◌, ◌+◌, ◌<◌, ◌≤◌, ◌==◌, ℕ, zero, suc, List, [], ◌∷◌, length, map, refl, sym, ◌∙◌, ap, subst, arith, inl, inr}
use Rattle.std.specs.Prelude.{Option, Some, None, count_by, slice_get, slice_index}
use Rattle.std.specs.List.{All, AllByRecursion, AllPairs}
use Rattle.std.proofs.lemmas.Bool.Decides.{nat_tests}
use Rattle.std.proofs.lemmas.List.Kept.{AllPairs-cons}
use Rattle.std.proofs.lemmas.List.Sums.{sum_by-cons}
use Rattle.std.proofs.lemmas.List.Elements.{All-from_recursion}
use Rattle.rs_octets.specs.Prefixes.{Prefix}
use Rattle.rs_octets.proofs.Members.{Has, has, contains}
use Rattle.rs_adjin.specs.declared.routes.Route.{Route}
use Rattle.rs_adjin.specs.declared.numbers.Row.{Row}
use Rattle.rs_adjin.specs.declared.adj_ins.AdjIns.{AdjIns}
use Rattle.rs_adjin.specs.Held.{one_if}
use Rattle.rs_adjin.specs.Numbering.{routes_in, routes_by}
use Rattle.rs_adjin.specs.Numbers.{number_in, routes_at}
use Rattle.rs_adjin.specs.Sets.{count_of, uses_of, uses_in}
use Rattle.rs_adjin.specs.AdjIns.{sets_at, IsUnused, IsUsed, CountsSets}
use Rattle.rs_adjin.proofs.Holding.{at_number, number_cases}

-- ---- a set that routes have

abbrev one_of : ℕ → Route → ℕ
one_of s r = one_if (r.set == s)

pub used_has : (s : ℕ) (rs : List Route) → 0 < uses_of s rs → Has (map (λ r. r.set) rs) s
used_has s [] h = absurd (omega (arith, h))
used_has s (r ∷ rs) h = go (used_has s rs) (r.set == s) refl
  where
    sum : uses_of s (r ∷ rs) ≡ one_of s r + uses_of s rs
    sum = sum_by-cons (one_of s) r rs

    go : (0 < uses_of s rs → Has (map (λ (x : Route). x.set) rs) s) → (b : Bool) → (r.set == s) ≡ b → Has (map (λ (x : Route). x.set) (r ∷ rs)) s
    go rest true is = inl (let e : r.set ≡ s = grind (arith, nat_tests, is) in e)
    go rest false is = inr (rest (omega (arith, h, sum, ap one_if is)))

pub has_used : (s : ℕ) (rs : List Route) → Has (map (λ r. r.set) rs) s → 0 < uses_of s rs
has_used s [] h = absurd h
has_used s (r ∷ rs) (inl same) =
    let sum : uses_of s (r ∷ rs) ≡ one_of s r + uses_of s rs = sum_by-cons (one_of s) r rs in
    let test : (r.set == s) ≡ true = grind (arith, nat_tests, same) in
    omega (arith, sum, ap one_if test)
has_used s (r ∷ rs) (inr h) =
    let sum : uses_of s (r ∷ rs) ≡ one_of s r + uses_of s rs = sum_by-cons (one_of s) r rs in
    omega (arith, sum, has_used s rs h)

-- ---- in a row

abbrev row_uses : ℕ → Row → ℕ
row_uses s row = uses_of s row.routes

some_row : (s : ℕ) (rows : List Row) → 0 < uses_in s rows → (n : ℕ) × (0 < uses_of s (routes_in (slice_get rows n)))
some_row s [] h = absurd (omega (arith, h))
some_row s (r ∷ rows) h = go (some_row s rows) (row_uses s r) refl
  where
    sum : uses_in s (r ∷ rows) ≡ row_uses s r + uses_in s rows
    sum = sum_by-cons (row_uses s) r rows

    go : (0 < uses_in s rows → (n : ℕ) × (0 < uses_of s (routes_in (slice_get rows n)))) → (k : ℕ) → row_uses s r ≡ k → (n : ℕ) × (0 < uses_of s (routes_in (slice_get (r ∷ rows) n)))
    go rest zero is = let t = rest (omega (arith, h, sum, is)) in (suc t.0, t.1)
    go rest (suc k) is = (0, omega (arith, is))

row_used : (s : ℕ) (rows : List Row) (n : ℕ) → uses_of s (routes_in (slice_get rows n)) ≤ uses_in s rows
row_used s [] n = omega arith
row_used s (r ∷ rows) zero =
    let sum : uses_in s (r ∷ rows) ≡ row_uses s r + uses_in s rows = sum_by-cons (row_uses s) r rows in
    omega (arith, sum)
row_used s (r ∷ rows) (suc n) =
    let sum : uses_in s (r ∷ rows) ≡ row_uses s r + uses_in s rows = sum_by-cons (row_uses s) r rows in
    omega (arith, sum, row_used s rows n)

-- ---- the numbers that are counted, from n on

abbrev with_number : Bool → ℕ → List ℕ → List ℕ
with_number true n others = n ∷ others
with_number false n others = others

abbrev counted : ℕ → List ℕ → List ℕ
counted n [] = []
counted n (x ∷ xs) = with_number (not (x == 0)) n (counted (suc n) xs)

size : (n : ℕ) (xs : List ℕ) → length (counted n xs) ≡ count_by (λ k. not (k == 0)) xs
size n [] = refl
size n (x ∷ xs) = go (size (suc n) xs) (not (x == 0)) refl ∙ sym (sum_by-cons (λ k. one_if (not (k == 0))) x xs)
  where
    go : length (counted (suc n) xs) ≡ count_by (λ k. not (k == 0)) xs → (b : Bool) → not (x == 0) ≡ b → length (with_number b n (counted (suc n) xs)) ≡ one_if b + count_by (λ k. not (k == 0)) xs
    go rest true is = omega (arith, rest)
    go rest false is = omega (arith, rest)

pub counted_at : (n : ℕ) (xs : List ℕ) (s : ℕ) → Has (counted n xs) s → (i : ℕ) × (s ≡ n + i) × (0 < slice_index xs i)
counted_at n [] s h = absurd h
counted_at n (x ∷ xs) s h = go (λ k. let t = counted_at (suc n) xs s k in (suc t.0, omega (arith, t.1), t.2)) (not (x == 0)) refl h
  where
    go : (Has (counted (suc n) xs) s → (i : ℕ) × (s ≡ n + i) × (0 < slice_index (x ∷ xs) i)) → (b : Bool) → not (x == 0) ≡ b → Has (with_number b n (counted (suc n) xs)) s → (i : ℕ) × (s ≡ n + i) × (0 < slice_index (x ∷ xs) i)
    go later true is (inl same) = (0, omega (arith, same), let e : 0 < x = grind (arith, nat_tests, is) in e)
    go later true is (inr k) = later k
    go later false is k = later k

more : (b : Bool) (n : ℕ) (others : List ℕ) (s : ℕ) → Has others s → Has (with_number b n others) s
more true n others s h = inr h
more false n others s h = h

pub at_counted : (n : ℕ) (xs : List ℕ) (i : ℕ) → 0 < slice_index xs i → Has (counted n xs) (n + i)
at_counted n [] zero h = absurd (omega (arith, h))
at_counted n [] (suc i) h = absurd (omega (arith, h))
at_counted n (x ∷ xs) zero h =
    let test : not (x == 0) ≡ true = grind (arith, nat_tests, h) in
    subst (λ b. Has (with_number b n (counted (suc n) xs)) (n + 0)) (sym test) (inl (let e : n ≡ n + 0 = omega arith in e))
at_counted n (x ∷ xs) (suc i) h = more (not (x == 0)) n (counted (suc n) xs) (n + suc i) (subst (Has (counted (suc n) xs)) (let e : suc n + i ≡ n + suc i = omega arith in e) (at_counted (suc n) xs i h))

all_by : (P : ℕ → Type 0) (xs : List ℕ) → ((s : ℕ) → Has xs s → P s) → AllByRecursion P xs
all_by P [] each = tt
all_by P (x ∷ xs) each = (each x (inl refl), all_by P xs (λ s h. each s (inr h)))

all_has : (P : ℕ → Type 0) (xs : List ℕ) → ((s : ℕ) → Has xs s → P s) → All P xs
all_has P xs each = All-from_recursion P xs (all_by P xs each)

rises : (n : ℕ) (xs : List ℕ) → AllPairs (λ s t. s < t) (counted n xs)
rises n [] = λ i j d up below. absurd (omega (arith, below))
rises n (x ∷ xs) = go (rises (suc n) xs) (not (x == 0))
  where
    above : (s : ℕ) → Has (counted (suc n) xs) s → n < s
    above s h = let t = counted_at (suc n) xs s h in omega (arith, t.1)

    go : AllPairs (λ s t. s < t) (counted (suc n) xs) → (b : Bool) → AllPairs (λ s t. s < t) (with_number b n (counted (suc n) xs))
    go rest true = AllPairs-cons (λ s t. s < t) n (counted (suc n) xs) (all_has (λ t. n < t) (counted (suc n) xs) above) rest
    go rest false = rest

-- ---- all tables

module _ (ins : AdjIns) (s : ℕ) where
  abbrev rows : List Row
  rows = ins.table.rows.items

  -- the set is counted where a route for a prefix has it, and only there
  pub set_used : (p : Prefix) → Has (sets_at ins p) s → 0 < count_of ins.table.sets s
  set_used p h = go (number_in ins.table p) refl
    where
      used : 0 < uses_of s (routes_at ins.table p)
      used = has_used s (routes_at ins.table p) h

      go : (o : Option ℕ) → number_in ins.table p ≡ o → 0 < count_of ins.table.sets s
      go None is = absurd (let e : uses_of s (routes_at ins.table p) ≡ 0 = ap (λ o. uses_of s (routes_by rows o)) is in omega (arith, used, e))
      go (Some n) is = let e : uses_of s (routes_at ins.table p) ≡ uses_of s (routes_in (slice_get rows n)) = ap (uses_of s) (at_number ins.table p n is) in omega (arith, used, e, row_used s rows n, ins.table.shared s)

  pub used_set : 0 < count_of ins.table.sets s → (p : Prefix) × Has (sets_at ins p) s
  used_set h =
      let row = some_row s rows (omega (arith, h, ins.table.shared s)) in
      elim (number_cases ins.table row.0) [
        | inl none ↦ absurd (let e : uses_of s (routes_in (slice_get rows row.0)) ≡ 0 = ap (uses_of s) none in omega (arith, e, row.1))
        | inr there ↦ (there.0, used_has s (routes_at ins.table there.0) (subst (λ rs. 0 < uses_of s rs) (sym (at_number ins.table there.0 row.0 there.1)) row.1))
      ]

pub sets_counted : (ins : AdjIns) → CountsSets ins ins.table.sets.held
unfolding count_of
sets_counted ins = record {
  sets = counted 0 ins.table.sets.uses.items;
  rising = rises 0 ins.table.sets.uses.items;
  all = λ s. (
    λ there. let at = counted_at 0 ins.table.sets.uses.items s (has _ s there) in let found = used_set ins s (subst (λ k. 0 < slice_index ins.table.sets.uses.items k) (let e : at.0 ≡ s = omega (arith, at.1) in e) at.2) in (found.0, contains _ s found.1),
    λ found. contains _ s (subst (Has (counted 0 ins.table.sets.uses.items)) (let e : 0 + s ≡ s = omega arith in e) (at_counted 0 ins.table.sets.uses.items s (set_used ins s found.0 (has _ s found.1)))),
  );
  long = size 0 ins.table.sets.uses.items ∙ ins.table.sets.counted;
}

pub count_unused : (ins : AdjIns) (s : ℕ) → IsUnused ins s → count_of ins.table.sets s ≡ 0
count_unused ins s unused = go (count_of ins.table.sets s) refl
  where
    go : (k : ℕ) → count_of ins.table.sets s ≡ k → k ≡ 0
    go zero is = refl
    go (suc k) is = absurd (let found = used_set ins s (omega (arith, is)) in unused found.0 (contains _ s found.1))

pub count_used : (ins : AdjIns) (s : ℕ) → IsUsed ins s → 0 < count_of ins.table.sets s
count_used ins s used = set_used ins s used.0 (has (sets_at ins used.0) s used.1)
