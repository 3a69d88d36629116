-- How many slots are to be withdrawn, and how many rows have a route, as they are written.
use Rattle.std.proofs.Common.{◌≡◌, ◌≤◌, ◌<◌, ◌+◌, ℕ, zero, suc, Bool, true, false, cond, ◌&&◌, Option, None, Some, List, [], ◌∷◌, ◌++◌, length, get_or, slice_set, refl, sym, ap, ◌∙◌, arith}
use Rattle.std.specs.Prelude.{IfSome, is_some, count_by, option_map}
use Rattle.std.specs.List.{dedup, dedup_from, sum_by}
use Rattle.std.specs.List.Sorted.{IsPermutation}
use Rattle.std.proofs.lemmas.List.Sorted.{sum_by-IsPermutation}
use Rattle.std.proofs.lemmas.List.Sums.{sum_by-append, sum_by-cons, sum_by-le-sum_by, sum_by-set}
use Rattle.std.proofs.Math.Bool.{and-false}
use Rattle.rs_rows.specs.Rows.{Row}
use Rattle.rs_outlet.specs.declared.waiting.Due.TheVariants as due
use Rattle.rs_outlet.specs.declared.waiting.Wait.{Wait}
use Rattle.rs_outlet.specs.Pending.Slots.{is_withdrawal, is_withdrawn, open_count, still_open, withdrawn_count}
use Rattle.rs_outlet.specs.Pending.Owed.{listed}
use Rattle.rs_attrs.specs.Meaning.{Attribute}
use Rattle.rs_outlet.specs.Inside.{row_at, shown}

abbrev pub one_if : Bool → ℕ
one_if b = cond b 1 0

pub one_at_most : (b : Bool) → one_if b ≤ 1
one_at_most true = omega arith
one_at_most false = omega arith

-- ---- rows

pub row_get : (rows : List (Option Row)) (k : ℕ) → k < length rows → get_or rows k None ≡ row_at rows k
row_get [] k below = absurd (omega (arith, below))
row_get (x ∷ rows) zero below = refl
row_get (x ∷ rows) (suc k) below = row_get rows k (omega (arith, below))

-- no more of them have a route than there are
pub rows_at_most : (rows : List (Option Row)) → count_by is_some rows ≤ length rows
rows_at_most [] = omega arith
rows_at_most (r ∷ rows) = omega (arith, rows_at_most rows, one_at_most (is_some r), sum_by-cons (λ (o : Option Row). one_if (is_some o)) r rows)

-- a route in a free row
pub one_more_row : (rows : List (Option Row)) (n : ℕ) (row : Row) → n < length rows → row_at rows n ≡ None → count_by is_some (slice_set rows n (Some row)) ≡ count_by is_some rows + 1
one_more_row rows n row below free =
    let was : ◌≡◌ {A = ℕ} (one_if (is_some (get_or rows n None))) 0 = ap (λ r. one_if (is_some r)) (row_get rows n below ∙ free) in
    omega (arith, was, sum_by-set (λ (r : Option Row). one_if (is_some r)) rows n (Some row) None below)

shown_some : (o : Option Row) → is_some (shown o) ≡ is_some o
shown_some None = refl
shown_some (Some r) = refl

-- a row that is free now, of which this was taken
pub row_taken : (rows : List (Option Row)) (n : ℕ) (was : Option (List Attribute)) → n < length rows → was ≡ shown (row_at rows n) → count_by is_some (slice_set rows n None) + one_if (is_some was) ≡ count_by is_some rows
row_taken rows n was below is =
    let none : Option Row = None in
    let there : is_some (get_or rows n none) ≡ is_some was = ap is_some (row_get rows n below) ∙ sym (shown_some (row_at rows n)) ∙ sym (ap is_some is) in
    let taken : ◌≡◌ {A = ℕ} (one_if (is_some (get_or rows n none))) (one_if (is_some was)) = ap one_if there in
    omega (arith, taken, sum_by-set (λ (r : Option Row). one_if (is_some r)) rows n none none below)

-- what was taken is there just where it can be looked at
pub taken_seen : {A : Type 0} (o : Option A) (f : A → List Attribute) (was : Option (List Attribute)) (b : Bool) → option_map f o ≡ was → b ≡ is_some o → is_some was ≡ b
taken_seen None f was b is e = sym (ap is_some is) ∙ sym e
taken_seen (Some a) f was b is e = sym (ap is_some is) ∙ sym e

row_erased : (rows : List (Option Row)) (n : ℕ) → row_at (slice_set rows n None) n ≡ None
row_erased [] zero = refl
row_erased [] (suc n) = refl
row_erased (r ∷ rows) zero = refl
row_erased (r ∷ rows) (suc n) = row_erased rows n

pub free_row : (rows erased : List (Option Row)) (n : ℕ) → erased ≡ slice_set rows n None → row_at erased n ≡ None
free_row rows erased n is = ap (λ xs. row_at xs n) is ∙ row_erased rows n

-- ---- slots

one_of : (a b : Bool) → one_if (a && b) ≤ one_if a
one_of true true = omega arith
one_of true false = omega arith
one_of false b = omega arith

-- no more than wait
pub withdrawn_open : (ws : List Wait) → withdrawn_count ws ≤ open_count ws
withdrawn_open ws = sum_by-le-sum_by (λ w. one_if (is_withdrawn w)) (λ w. one_if w.open) ws (λ w. one_of w.open (is_withdrawal w.due))

pub withdrawn_less : (ws : List Wait) (n : ℕ) (y d : Wait) → n < length ws → y.open ≡ false → withdrawn_count (slice_set ws n y) ≤ withdrawn_count ws
withdrawn_less ws n y d below shut =
    let none : ◌≡◌ {A = ℕ} (one_if (is_withdrawn y)) 0 = ap (λ b. one_if (b && is_withdrawal y.due)) shut in
    omega (arith, none, sum_by-set (λ w. one_if (is_withdrawn w)) ws n y d below)

kept_from : (E : Wait → Wait → Bool) (f : Wait → ℕ) (k : Wait) (ws : List Wait) → sum_by f (dedup_from E k ws) ≤ f k + sum_by f ws
kept_from E f k [] = omega (arith, sum_by-cons f k [])
kept_from E f k (w ∷ ws) =
    elim (E w k) as (λ b. sum_by f (cond b (dedup_from E k ws) (k ∷ dedup_from E w ws)) ≤ f k + sum_by f (w ∷ ws)) [
      | true ↦ omega (arith, kept_from E f k ws, sum_by-cons f w ws)
      | false ↦ omega (arith, kept_from E f w ws, sum_by-cons f w ws, sum_by-cons f k (dedup_from E w ws))
    ]

kept : (E : Wait → Wait → Bool) (f : Wait → ℕ) (ws : List Wait) → sum_by f (dedup E ws) ≤ sum_by f ws
kept E f [] = omega arith
kept E f (w ∷ ws) = omega (arith, kept_from E f w ws, sum_by-cons f w ws)

-- a sort and a `dedup` add none
pub withdrawn_ordered : (E : Wait → Wait → Bool) (xs ys zs : List Wait) → IsPermutation xs ys → zs ≡ dedup E ys → withdrawn_count zs ≤ withdrawn_count xs
withdrawn_ordered E xs ys zs moved is =
    let f = λ (w : Wait). one_if (is_withdrawn w) in
    omega (arith, ap withdrawn_count is, kept E f ys, sum_by-IsPermutation f xs ys moved)

-- those that wait no more aren't counted
pub withdrawn_dropped : (ws : List Wait) → withdrawn_count (still_open ws) ≡ withdrawn_count ws
withdrawn_dropped [] = refl
withdrawn_dropped (w ∷ ws) =
    elim w.open as (λ b. w.open ≡ b → withdrawn_count (cond b (w ∷ still_open ws) (still_open ws)) ≡ withdrawn_count (w ∷ ws)) [
      | true ↦ λ _. let rest = withdrawn_dropped ws in omega (arith, rest, sum_by-cons (λ v. one_if (is_withdrawn v)) w ws, sum_by-cons (λ v. one_if (is_withdrawn v)) w (still_open ws))
      | false ↦ λ f.
          let none : ◌≡◌ {A = ℕ} (one_if (is_withdrawn w)) 0 = ap (λ b. one_if (b && is_withdrawal w.due)) f in
          let rest = withdrawn_dropped ws in
          omega (arith, rest, none, sum_by-cons (λ v. one_if (is_withdrawn v)) w ws)
    ] refl

-- one slot listed
pub withdrawn_listed : (fs new : List Wait) (o : Option Wait) → new ≡ fs ++ listed o → withdrawn_count new ≤ withdrawn_count fs + 1
withdrawn_listed fs new None is = omega (arith, ap withdrawn_count is, sum_by-append (λ v. one_if (is_withdrawn v)) fs [])
withdrawn_listed fs new (Some w) is =
    let one : one_if (is_withdrawn w) ≤ 1 = one_at_most (is_withdrawn w) in
    omega (arith, ap withdrawn_count is, one, sum_by-append (λ v. one_if (is_withdrawn v)) fs (w ∷ []), sum_by-cons (λ v. one_if (is_withdrawn v)) w [])

pub announced_listed : (fs new : List Wait) (o : Option Wait) (number hash : ℕ) → IfSome o (λ w. w.due ≡ due.Announced number hash) → new ≡ fs ++ listed o → withdrawn_count new ≤ withdrawn_count fs
announced_listed fs new None number hash said is = omega (arith, ap withdrawn_count is, sum_by-append (λ v. one_if (is_withdrawn v)) fs [])
announced_listed fs new (Some w) number hash said is =
    let none : ◌≡◌ {A = ℕ} (one_if (is_withdrawn w)) 0 = ap one_if (ap (λ d. w.open && is_withdrawal d) said ∙ and-false w.open) in
    omega (arith, ap withdrawn_count is, none, sum_by-append (λ v. one_if (is_withdrawn v)) fs (w ∷ []), sum_by-cons (λ v. one_if (is_withdrawn v)) w [])
