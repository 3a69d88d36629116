-- What stands at the front of octets (RFC 4271, 4.1 and 6.1).
use Rattle.std.specs.Prelude.{◌≡◌, ℕ, ◌+◌, ◌-◌, ◌<◌, ◌≤◌, List, ◌++◌, length, take, Result, Ok, Err, ⊤, nat_lt, if◌then◌else◌}
use Rattle.rs_octets.specs.declared.heads.Allowed.{Allowed}
use Rattle.rs_octets.specs.declared.heads.Head.{Head}
use Rattle.rs_octets.specs.declared.heads.HeaderFault.{HeaderFault}
use Rattle.rs_octets.specs.declared.heads.Kind.{Kind}
use Rattle.rs_octets.specs.declared.fronts.Front.{Front}
use Rattle.rs_octets.specs.declared.fronts.Front.TheVariants as fronts
use Rattle.rs_octets.specs.Headers.{header_of, least_length}
use Rattle.rs_octets.specs.Messages.{IsMessageOf, body_of}

-- a message of this type with this body, and these octets behind it
pub record BeginsWith (allowed : Allowed) (octets : List ℕ) (kind : Kind) (body rest : List ℕ) : Type 0 where
  pub message : List ℕ
  pub is : IsMessageOf allowed kind message
  pub body_is : body ≡ body_of message
  pub whole : octets ≡ message ++ rest

-- a header that is refused
abbrev pub BeginsFaulty : Allowed → List ℕ → HeaderFault → Type 0
BeginsFaulty allowed octets fault = (19 ≤ length octets) × (header_of allowed (take 19 octets) ≡ Err fault)

-- how many octets are wanted behind these, to the end of the header, or of the message that it begins
abbrev pub wanted_by : ℕ → Result Head HeaderFault → ℕ
wanted_by size (Ok head) = head.length - size
wanted_by size (Err fault) = 0

abbrev pub wanted_behind : Allowed → List ℕ → ℕ
wanted_behind allowed octets =
    if nat_lt (length octets) 19 then 19 - length octets else wanted_by (length octets) (header_of allowed (take 19 octets))

-- so many are, and not none
abbrev pub Wants : Allowed → List ℕ → ℕ → Type 0
Wants allowed octets n = (0 < n) × (n ≡ wanted_behind allowed octets)

-- one of these three
abbrev pub IsFront : Allowed → List ℕ → Front → Type 0
IsFront allowed octets (fronts.Message kind body rest) = BeginsWith allowed octets kind body.now rest.now
IsFront allowed octets (fronts.Fault fault) = BeginsFaulty allowed octets fault
IsFront allowed octets (fronts.Wants n) = Wants allowed octets n

-- a message's parts are as long as the octets, and its body is long enough for its type
abbrev pub HasSizes : List ℕ → Front → Type 0
HasSizes octets (fronts.Message kind body rest) = (least_length kind ≤ 19 + length body.now) × (19 + length body.now + length rest.now ≡ length octets)
HasSizes octets (fronts.Fault fault) = ⊤
HasSizes octets (fronts.Wants n) = ⊤
