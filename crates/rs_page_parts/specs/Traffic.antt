-- What is counted of the octets of a member's sessions.
use Rattle.std.specs.Prelude.{◌≡◌, ℕ, ◌+◌, List, min}
use Rattle.rs_octets.specs.Messages.{rest_of}
use Rattle.rs_page_parts.specs.Updates.{any, update_count, IsAt}
use Rattle.rs_page_parts.specs.declared.traffic.Traffic.{Traffic}

-- the greatest count that there is
abbrev pub greatest : ℕ
greatest = 18446744073709551615

-- the UPDATEs in these octets are counted, behind so many of earlier sessions
abbrev pub IsCountOf : ℕ → List ℕ → Traffic → Type 0
IsCountOf before octets traffic = traffic.updates ≡ min (before + update_count octets) greatest

-- so they are where these are the octets of the session that have come, and the next piece can be counted
pub record HasCounted (before : ℕ) (octets : List ℕ) (traffic : Traffic) : Type 0 where
  pub count : IsCountOf before octets traffic
  pub reading : IsAt traffic.reading traffic.header (rest_of any octets)
