-- What MULTI_EXIT_DISC is compared by, put in order.
use Rattle.std.specs.Prelude.{ℕ, ◌≡◌, ◌≤◌, ◌<◌, ◌==◌, ◌&&◌, Bool, not, nat_lt, List, length, slice_index_or}
use Rattle.std.specs.List.{list_any}
use Rattle.std.specs.List.Sorted.{IsNonDecreasingBy}
use Rattle.rs_decision.specs.declared.exits.Exit.{Exit}
use Rattle.rs_decision.specs.declared.rank.Rank.{Rank}
use Rattle.rs_decision.specs.Choice.{med_of}
use Rattle.rs_decision.specs.Rank.{is_level}

-- what MULTI_EXIT_DISC is compared by in a rank
abbrev pub exit_of : Rank → Exit
exit_of r = record { neighbour = r.neighbour; med = med_of r }

-- the exit is to the rank's neighbouring AS, and lower in MULTI_EXIT_DISC
abbrev pub is_lower : Exit → Rank → Bool
is_lower e r = (e.neighbour == r.neighbour) && nat_lt e.med (med_of r)

-- the exits rise by neighbouring AS, those to one AS by MULTI_EXIT_DISC
pub record AreGrouped (exits : List Exit) : Type 0 where
  pub neighbours : IsNonDecreasingBy (λ e. e.neighbour) exits
  pub meds : (i j : ℕ) (d : Exit) → i ≤ j → j < length exits → (slice_index_or exits i d).neighbour ≡ (slice_index_or exits j d).neighbour → (slice_index_or exits i d).med ≤ (slice_index_or exits j d).med

-- the rank is level with this one, and no exit is lower
abbrev pub is_left : List Exit → Rank → Rank → Bool
is_left exits level r = is_level r level && not (list_any (λ e. is_lower e r) exits)
