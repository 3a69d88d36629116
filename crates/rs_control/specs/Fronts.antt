-- What stands in front of what was heard.
use Rattle.std.specs.Prelude.{◌≤◌, ◌==◌, ◌&&◌, ⊤, ℕ, Bool, nat_lt, List, length, if◌then◌else◌}
use Rattle.std.specs.List.{position_or_len}
use Rattle.rs_control.specs.declared.fronts.Front.{Front}
use Rattle.rs_control.specs.declared.fronts.Front.TheVariants as fronts

abbrev pub is_end : ℕ → Bool
is_end octet = octet == 10

-- in so many octets that have no end of a line, which a line needs not where nothing more comes
abbrev pub front_without : ℕ → Bool → Front
front_without count ended =
    if nat_lt 1024 count then fronts.Long
    else (if ended && nat_lt 0 count then fronts.Line count
    else fronts.Part)

-- what stands in front
abbrev pub front_in : List ℕ → Bool → Front
front_in heard ended =
    if nat_lt (position_or_len is_end heard) (length heard) then fronts.Line (position_or_len is_end heard)
    else front_without (length heard) ended

-- a line has no more than there is
abbrev pub IsWithin : ℕ → Front → Type 0
IsWithin most fronts.Part = ⊤
IsWithin most (fronts.Line count) = count ≤ most
IsWithin most fronts.Long = ⊤
