-- Which UPDATEs stand in the octets of a session (RFC 4271, 4.1), and where such octets end.
use Rattle.std.specs.Prelude.{◌≡◌, ℕ, ◌+◌, ◌-◌, ◌<◌, ◌≤◌, ◌==◌, Bool, List, length, take, count_by, true, false, Result, Ok, Err, IsErr}
use Rattle.rs_octets.specs.declared.heads.Allowed.{Allowed}
use Rattle.rs_octets.specs.declared.heads.Head.{Head}
use Rattle.rs_octets.specs.declared.heads.HeaderFault.{HeaderFault}
use Rattle.rs_octets.specs.Headers.{header_of, type_number}
use Rattle.rs_octets.specs.Messages.{messages_of}
use Rattle.rs_page_parts.specs.declared.traffic.Reading.{Reading}
use Rattle.rs_page_parts.specs.declared.traffic.Reading.TheVariants as readings

-- what any session allows: longer messages (RFC 8654) and ROUTE-REFRESH (RFC 2918)
abbrev pub any : Allowed
any = record { long = true; refresh = true }

-- by its header a message is an UPDATE, of type 2
abbrev pub is_update : Result Head HeaderFault → Bool
is_update (Ok head) = type_number head.kind == 2
is_update (Err fault) = false

abbrev pub updates_among : List (List ℕ) → ℕ
updates_among messages = count_by (λ message. is_update (header_of any (take 19 message))) messages

-- the UPDATEs among the whole messages that octets begin with
abbrev pub update_count : List ℕ → ℕ
update_count octets = updates_among (messages_of any octets)

-- what stands behind the whole messages: the front of a header, a header with the front of its message, or one that no message has
abbrev pub IsAt : Reading → List ℕ → List ℕ → Type 0
IsAt (readings.Header count) header rest = (count < 19) × (rest ≡ take count header)
IsAt (readings.Body kind left) header rest =
    (0 < left) × (19 ≤ length rest) × (header_of any (take 19 rest) ≡ Ok (record { length = length rest + left; kind = kind }))
IsAt readings.Refused header rest = (19 ≤ length rest) × IsErr (header_of any (take 19 rest))

-- so many octets more reach to the end of the header or of the message under way; behind a refused header no number does
abbrev pub most_behind : Reading → ℕ
most_behind (readings.Header count) = 19 - count
most_behind (readings.Body kind left) = left
most_behind readings.Refused = 18446744073709551615
