-- A message's header, with its checks in their order (RFC 4271, 4.1 and 6.1).
use Rattle.std.specs.Prelude.{ℕ, ◌==◌, ◌≤◌, ◌++◌, List, [], ◌∷◌, take, replicate, Option, Some, None, Result, Ok, Err, if◌then◌else◌, slice_index}
use Rattle.std.specs.List.{list_all}
use Rattle.std.specs.Int.{w16, from_be_bytes, to_be_bytes, is_in_range}
use Rattle.rs_octets.specs.Numbers.{longest_message, longest_where}
use Rattle.rs_octets.specs.declared.heads.Allowed.{Allowed}
use Rattle.rs_octets.specs.declared.heads.Kind.TheVariants.{Open, Update, Note, Keepalive, Refresh}
use Rattle.rs_octets.specs.declared.heads.Kind.{Kind}
use Rattle.rs_octets.specs.declared.heads.Head.{Head}
use Rattle.rs_octets.specs.declared.heads.HeaderFault.{HeaderFault}
use Rattle.rs_octets.specs.declared.heads.HeaderFault.TheVariants as faults

-- the greatest length of any message
abbrev pub longest : Allowed → ℕ
longest allowed = longest_where allowed.long

-- the number of a type (RFC 4271, 4.1; RFC 2918, 3)
abbrev pub type_number : Kind → ℕ
type_number Open = 1
type_number Update = 2
type_number Note = 3
type_number Keepalive = 4
type_number Refresh = 5

-- the type that a number stands for
abbrev pub kind_numbered : Allowed → ℕ → Option Kind
kind_numbered allowed number =
    if number == 1 then Some Open
    else if number == 2 then Some Update
    else if number == 3 then Some Note
    else if number == 4 then Some Keepalive
    else if number == 5 then (if allowed.refresh then Some Refresh else None)
    else None

-- the least and the greatest length of messages of a type: OPEN, UPDATE, NOTIFICATION, KEEPALIVE (RFC 4271, 4.2 to 4.5),
-- ROUTE-REFRESH (RFC 2918, 3). OPEN and KEEPALIVE are never longer than they were (RFC 8654, 4).
abbrev pub least_length : Kind → ℕ
least_length Open = 29
least_length Update = 23
least_length Note = 21
least_length Keepalive = 19
least_length Refresh = 23

abbrev pub greatest_length : Allowed → Kind → ℕ
greatest_length allowed Open = longest_message
greatest_length allowed Update = longest allowed
greatest_length allowed Note = longest allowed
greatest_length allowed Keepalive = 19
greatest_length allowed Refresh = 23

-- a good header's length is one of its type
abbrev pub HasLengthOfType : Allowed → Head → Type 0
HasLengthOfType allowed head = (least_length head.kind ≤ head.length) × (head.length ≤ greatest_length allowed head.kind)

-- the last two checks: the type is known, and the length is one of that type
abbrev pub head_of_type : Allowed → Option Kind → ℕ → ℕ → Result Head HeaderFault
head_of_type allowed None len number = Err (faults.Kind number)
head_of_type allowed (Some kind) len number =
    if is_in_range (least_length kind) (greatest_length allowed kind) len then Ok (record { length = len; kind = kind })
    else Err (faults.Length len)

-- the length field and the type octet, behind the marker of 16 octets
abbrev pub length_field : List ℕ → ℕ
length_field header = from_be_bytes w16 (slice_index header 16 ∷ slice_index header 17 ∷ [])

abbrev pub type_field : List ℕ → ℕ
type_field header = slice_index header 18

-- what stands in a header of 19 octets, or the first check that it fails
abbrev pub header_of : Allowed → List ℕ → Result Head HeaderFault
header_of allowed header =
    if list_all (λ b. b == 255) (take 16 header)
    then if is_in_range 19 (longest allowed) (length_field header)
    then head_of_type allowed (kind_numbered allowed (type_field header)) (length_field header) (type_field header)
    else Err (faults.Length (length_field header))
    else Err faults.Marker

-- the octets of a header: the marker, the length of the whole message, and its type
abbrev pub header_octets : ℕ → Kind → List ℕ
header_octets len kind = replicate 16 255 ++ to_be_bytes w16 len ++ (type_number kind ∷ [])
