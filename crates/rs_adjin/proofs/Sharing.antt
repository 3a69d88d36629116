-- How many routes have each set of attributes, as rows and routes are written.
use Rattle.std.proofs.Common.{Bool, true, false, ◌≡◌, ◌+◌, ◌<◌, ◌≤◌, ◌==◌, ℕ, List, [], ◌∷◌, ◌++◌, length, sym, ◌∙◌, ap, arith}
use Rattle.std.specs.Prelude.{Some, slice_get, slice_index_or, slice_set, if◌then◌else◌}
use Rattle.std.specs.List.{insert, remove}
use Rattle.std.proofs.lemmas.Bool.Decides.{nat_tests}
use Rattle.std.proofs.lemmas.Option.{get_or_from_slice_get, slice_get_within}
use Rattle.std.proofs.lemmas.List.Sums.{sum_by-set, sum_by_push, sum_by-insert, sum_by-remove, get_or-le-sum_by}
use Rattle.rs_adjin.specs.declared.routes.Route.{Route}
use Rattle.rs_adjin.specs.declared.numbers.Row.{Row}
use Rattle.rs_adjin.specs.Held.{one_if}
use Rattle.rs_adjin.specs.Sets.{uses_of, uses_in}

-- ---- among the routes for one prefix

abbrev one_of : ℕ → Route → ℕ
one_of s r = one_if (r.set == s)

module _ (s : ℕ) (rs : List Route) (i : ℕ) where
  pub use_insert : (new : Route) → uses_of s (insert rs i new) ≡ uses_of s rs + one_if (new.set == s)
  use_insert new = sum_by-insert (one_of s) rs i new

  module _ (r : Route) (below : i < length rs) (read : r ≡ slice_index_or rs i r) where
    there : one_of s (slice_index_or rs i r) ≡ one_of s r
    there = ap (one_of s) (sym read)

    pub use_set : (new : Route) → uses_of s (slice_set rs i new) + one_if (r.set == s) ≡ uses_of s rs + one_if (new.set == s)
    use_set new =
        let all : uses_of s (slice_set rs i new) + one_of s (slice_index_or rs i r) ≡ uses_of s rs + one_of s new = sum_by-set (one_of s) rs i new r below in
        omega (arith, there, all)

    pub use_remove : uses_of s (remove rs i) + one_if (r.set == s) ≡ uses_of s rs
    use_remove =
        let all : uses_of s (remove rs i) + one_of s (slice_index_or rs i r) ≡ uses_of s rs = sum_by-remove (one_of s) rs i r below in
        omega (arith, there, all)

-- a route's set is in use
pub use_there : (rs : List Route) (i : ℕ) (r : Route) → i < length rs → r ≡ slice_index_or rs i r → 0 < uses_of r.set rs
use_there rs i r below read =
    let one : one_of r.set r ≡ 1 = grind (arith, nat_tests) in
    let le : one_of r.set (slice_index_or rs i r) ≤ uses_of r.set rs = get_or-le-sum_by (one_of r.set) rs i r below in
    omega (arith, one, there r.set rs i r below read, le)

-- ---- in all rows

abbrev row_uses : ℕ → Row → ℕ
row_uses s row = uses_of s row.routes

module _ (s : ℕ) (rows : List Row) (n : ℕ) (r : Row) (read : slice_get rows n ≡ Some r) where
  row_there : row_uses s (slice_index_or rows n r) ≡ row_uses s r
  row_there = ap (row_uses s) (get_or_from_slice_get rows n r r read)

  pub row_within_all : uses_of s r.routes ≤ uses_in s rows
  row_within_all =
      let le : row_uses s (slice_index_or rows n r) ≤ uses_in s rows = get_or-le-sum_by (row_uses s) rows n r (slice_get_within rows n r read) in
      omega (arith, row_there, le)

  pub row_set : (new : Row) → uses_in s (slice_set rows n new) + uses_of s r.routes ≡ uses_in s rows + uses_of s new.routes
  row_set new =
      let all : uses_in s (slice_set rows n new) + row_uses s (slice_index_or rows n r) ≡ uses_in s rows + row_uses s new = sum_by-set (row_uses s) rows n new r (slice_get_within rows n r read) in
      omega (arith, row_there, all)

  -- the prefix alone is another
  pub row_renamed : (new : Row) → new.routes ≡ r.routes → uses_in s (slice_set rows n new) ≡ uses_in s rows
  row_renamed new same = let e : row_uses s new ≡ row_uses s r = ap (uses_of s) same in omega (arith, row_set new, e)

row_push : (s : ℕ) (rows : List Row) (r : Row) → r.routes ≡ [] → uses_in s (rows ++ r ∷ []) ≡ uses_in s rows
row_push s rows r none =
    let e : row_uses s r ≡ 0 = ap (uses_of s) none in
    let all : uses_in s (rows ++ r ∷ []) ≡ uses_in s rows + row_uses s r = sum_by_push (row_uses s) rows r in
    omega (arith, e, all)

-- pushed, or memory was refused
pub row_push_any : (s : ℕ) (rows : List Row) (r : Row) (b : Bool) (new : List Row) → new ≡ (if b then rows ++ r ∷ [] else rows) → r.routes ≡ [] → uses_in s new ≡ uses_in s rows
row_push_any s rows r true new is none = ap (uses_in s) is ∙ row_push s rows r none
row_push_any s rows r false new is none = ap (uses_in s) is
