-- Which Hold Times are refused (RFC 4271, 4.2 and 6.2).
use Rattle.std.specs.Prelude.{ℕ, ◌==◌, Bool, ◌||◌}

-- neither 0 nor at least 3 seconds
abbrev pub is_refused_hold : ℕ → Bool
is_refused_hold hold = (hold == 1) || (hold == 2)
