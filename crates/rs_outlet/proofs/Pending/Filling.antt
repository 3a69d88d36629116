-- News that fill a block, made one after the other, and of a client whose rows are all free.
use Rattle.std.proofs.Common.{◌≡◌, ◌<◌, ◌≤◌, ◌+◌, ◌-◌, ℕ, zero, suc, Option, Some, None, List, [], ◌∷◌, ◌++◌, get_or, length, map, take, slice_set, true, false, refl, ap, ◌∙◌, subst, arith}
use Rattle.std.specs.Prelude.{count_by, is_some, nat_eq, replicate, slice_get}
use Rattle.std.proofs.lemmas.Bool.Decides.{nat_tests}
use Rattle.std.proofs.lemmas.List.{length-take-le}
use Rattle.std.proofs.lemmas.List.Sums.{sum_by-cons}
use Rattle.rs_rows.specs.Rows.{Row, row_at}
use Rattle.rs_outlet.specs.declared.news.News.{News}
use Rattle.rs_outlet.specs.Decided.News.{AreFree, row_of}
use Rattle.rs_outlet.proofs.Pending.Pieces.{one_more}
use Rattle.rs_outlet.proofs.Pending.Withdrawals.{one_if}

-- ---- what is so of each, by its place

abbrev pub AreSo : (ℕ → News → Type 0) → List News → ℕ → Type 0
AreSo P ns k = (j : ℕ) → j < k → (n : News) → slice_get ns j ≡ Some n → P j n

-- and of the next one
pub one_further : (P : ℕ → Type 0) (i : ℕ) → ((j : ℕ) → j < i → P j) → P i → (j : ℕ) → j < i + 1 → P j
one_further P i all next j less =
    elim (nat_eq j i) as (λ b. nat_eq j i ≡ b → P j) [
      | true ↦ λ t. subst P (let e : i ≡ j = grind (arith, nat_tests, t) in e) next
      | false ↦ λ f. all j (let g : j < i = grind (arith, nat_tests, f, less) in g)
    ] refl

rows_alike : (rows : List (Option Row)) (ns : List News) → length rows ≡ length ns → AreSo (λ j n. row_at rows j ≡ row_of n) ns (length ns) → rows ≡ map row_of ns
rows_alike [] [] same so = refl
rows_alike [] (n ∷ ns) same so = absurd (omega (arith, same))
rows_alike (r ∷ rows) [] same so = absurd (omega (arith, same))
rows_alike (r ∷ rows) (n ∷ ns) same so =
    ap (λ x. x ∷ rows) (so 0 (omega arith) n refl)
    ∙ ap (λ xs. row_of n ∷ xs) (rows_alike rows ns (omega (arith, same)) (λ j less m at. so (suc j) (omega (arith, less)) m at))

pub all_rows : (rows : List (Option Row)) (ns : List News) (k : ℕ) → length rows ≡ 16 → length ns ≡ 16 → 16 ≤ k → AreSo (λ j n. row_at rows j ≡ row_of n) ns k → rows ≡ map row_of ns
all_rows rows ns k full many all so = rows_alike rows ns (omega (arith, full, many)) (λ j less n at. so j (omega (arith, less, many, all)) n at)

-- ---- one more of them

taken_next : {X : Type 0} (xs : List X) (i : ℕ) (x : X) → i < length xs → x ≡ get_or xs i x → take i xs ++ x ∷ [] ≡ take (suc i) xs
taken_next [] i x below is = absurd (omega (arith, below))
taken_next (y ∷ xs) zero x below is = ap (λ z. z ∷ []) is
taken_next (y ∷ xs) (suc i) x below is = ap (λ zs. y ∷ zs) (taken_next xs i x (omega (arith, below)) is)

taken_more : {X : Type 0} (xs : List X) (i : ℕ) (x : X) → i < length xs → x ≡ get_or xs i x → take i xs ++ x ∷ [] ≡ take (i + 1) xs
taken_more xs i x below is = taken_next xs i x below is ∙ ap (λ k. take k xs) (let e : suc i ≡ i + 1 = omega arith in e)

-- one more row of a block has news
pub row_put : (ns : List News) (i : ℕ) (n : News) → i < 16 → length ns ≡ 16 → n ≡ get_or ns i n
    → slice_set (map row_of (take i ns) ++ replicate (16 - i) None) i (row_of n) ≡ map row_of (take (i + 1) ns) ++ replicate (16 - (i + 1)) None
row_put ns i n below full is =
    one_more (take i ns) i n below (length-take-le i ns (omega (arith, below, full)))
    ∙ ap (λ ms. map row_of ms ++ replicate (16 - (i + 1)) None) (taken_more ns i n (omega (arith, below, full)) is)

-- ---- where no row has a route

no_route : (r : Option Row) (rows : List (Option Row)) → count_by is_some (r ∷ rows) ≡ 0 → (r ≡ None) × (count_by is_some rows ≡ 0)
no_route None rows none = (refl, let both = sum_by-cons (λ (o : Option Row). one_if (is_some o)) None rows in omega (arith, none, both))
no_route (Some r) rows none = let both = sum_by-cons (λ (o : Option Row). one_if (is_some o)) (Some r) rows in absurd (omega (arith, none, both))

pub all_rows_free : (rows : List (Option Row)) → count_by is_some rows ≡ 0 → (n : ℕ) → row_at rows n ≡ None
all_rows_free [] none n = refl
all_rows_free (r ∷ rows) none zero = (no_route r rows none).0
all_rows_free (r ∷ rows) none (suc n) = all_rows_free rows (no_route r rows none).1 n

pub all_free : (rows : List (Option Row)) (ns : List News) → count_by is_some rows ≡ 0 → AreFree rows ns
all_free rows [] none = tt
all_free rows (n ∷ ns) none = (all_rows_free rows none n.number, all_free rows ns none)
