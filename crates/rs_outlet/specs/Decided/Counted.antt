-- Which prefixes a whole turn decides, by their numbers.
use Rattle.std.specs.Prelude.{ℕ, ◌&&◌, ◌||◌, Bool, false, not, nat_lt, is_some, Option, None, Some, List}
use Rattle.rs_octets.specs.Prefixes.{Prefix}
use Rattle.rs_adjin.specs.declared.adj_ins.AdjIns.{AdjIns}
use Rattle.rs_adjin.specs.AdjIns.{number_of}
use Rattle.rs_rows.specs.Rows.{Row}
use Rattle.rs_outlet.specs.Inside.{row_at}

-- whether there is a number that passes
abbrev pub if_numbered : Option ℕ → (ℕ → Bool) → Bool
if_numbered None test = false
if_numbered (Some n) test = test n

-- whether the row of this number has a route, or a client holds the prefix
abbrev pub is_standing : List (Option Row) → (Prefix → Bool) → Prefix → ℕ → Bool
is_standing rows held p n = is_some (row_at rows n) || held p

-- whether the row of this number has a route, and no client holds the prefix
abbrev pub is_left : List (Option Row) → (Prefix → Bool) → ℕ × Prefix → Bool
is_left rows held e = is_some (row_at rows e.0) && not (held e.1)

-- whether a prefix that has a number stands there
abbrev pub is_counted : AdjIns → List (Option Row) → (Prefix → Bool) → Prefix → Bool
is_counted ins rows held p = if_numbered (number_of ins p) (is_standing rows held p)

-- whether that is so of a prefix that has a number below k
abbrev pub is_counted_below : AdjIns → List (Option Row) → (Prefix → Bool) → ℕ → Prefix → Bool
is_counted_below ins rows held k p = if_numbered (number_of ins p) (λ n. nat_lt n k && is_standing rows held p n)
