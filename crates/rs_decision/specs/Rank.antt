-- Two ranks compared, as the code does it.
use Rattle.std.specs.Prelude.{ℕ, ◌≡◌, ◌<◌, ◌==◌, ◌&&◌, ◌||◌, true, false, Bool, nat_lt, List, Option, Some, None, length, slice_index_or}
use Rattle.std.specs.List.{EachIndex}
use Rattle.rs_decision.specs.declared.rank.Rank.{Rank}
use Rattle.rs_decision.specs.Choice.{med_of}

-- alike by the steps before MULTI_EXIT_DISC (RFC 4271, 9.1.1 and 9.1.2.2 a and b)
abbrev pub is_level : Rank → Rank → Bool
is_level a b = (a.preference == b.preference) && (a.path_len == b.path_len) && (a.origin == b.origin)

-- a is level, of the same neighbouring AS, and lower in MULTI_EXIT_DISC
abbrev pub has_lower_med : Rank → Rank → Bool
has_lower_med a b = (a.neighbour == b.neighbour) && nat_lt (med_of a) (med_of b) && is_level a b

-- a comes before b by all steps but that of MULTI_EXIT_DISC (9.1.2.2 c)
abbrev pub precedes : Rank → Rank → Bool
precedes a b =
    nat_lt b.preference a.preference || (a.preference == b.preference)
    && (nat_lt a.path_len b.path_len || (a.path_len == b.path_len)
    && (nat_lt a.origin b.origin || (a.origin == b.origin)
    && (nat_lt a.identifier b.identifier || (a.identifier == b.identifier)
    && (nat_lt a.address b.address || (a.address == b.address) && nat_lt a.place b.place))))

abbrev pub blank : Rank
blank = record { preference = 0; path_len = 0; origin = 0; med = None; neighbour = 0; identifier = 0; address = 0; place = 0 }

-- the rank at an index
abbrev pub rank_at : List Rank → ℕ → Rank
rank_at ranks i = slice_index_or ranks i blank

-- at i stands a rank that none precedes
pub record IsFirst (ranks : List Rank) (i : ℕ) : Type 0 where
  pub within : i < length ranks
  pub first : EachIndex ranks (λ k. precedes (rank_at ranks k) (rank_at ranks i) ≡ false)

-- at i stands the first of the ranks that this one precedes
pub record IsNextAfter (ranks : List Rank) (from : Rank) (i : ℕ) : Type 0 where
  pub within : i < length ranks
  pub after : precedes from (rank_at ranks i) ≡ true
  pub first : EachIndex ranks (λ k. precedes from (rank_at ranks k) ≡ true → precedes (rank_at ranks k) (rank_at ranks i) ≡ false)

-- at i stands the first of the ranks that pass a test
pub record IsFirstAmong (passes : Rank → Bool) (ranks : List Rank) (i : ℕ) : Type 0 where
  pub within : i < length ranks
  pub member : passes (rank_at ranks i) ≡ true
  pub first : EachIndex ranks (λ k. passes (rank_at ranks k) ≡ true → precedes (rank_at ranks k) (rank_at ranks i) ≡ false)

-- the rank comes before the one at this index, where there is one
abbrev pub precedes_any : List Rank → Rank → Option ℕ → Bool
precedes_any ranks r None = true
precedes_any ranks r (Some i) = precedes r (rank_at ranks i)
