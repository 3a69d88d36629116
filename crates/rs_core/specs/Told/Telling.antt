-- What the octets that go to a client mean to it (RFC 4271, 4.3), as it reads them: no message longer than it takes (RFC 8654, 4).
use Rattle.std.specs.Prelude.{◌≡◌, ℕ, Bool, true, false, List, [], ◌∷◌, take, Option, Some, None, Result, Ok, Err}
use Rattle.rs_octets.specs.declared.heads.Allowed.{Allowed}
use Rattle.rs_octets.specs.declared.heads.Kind.{Kind}
use Rattle.rs_octets.specs.declared.heads.Kind.TheVariants as kinds
use Rattle.rs_octets.specs.declared.heads.Head.{Head}
use Rattle.rs_octets.specs.declared.heads.HeaderFault.{HeaderFault}
use Rattle.rs_octets.specs.Headers.{header_of}
use Rattle.rs_octets.specs.Messages.{body_of, header_fault_of, messages_of, rest_of}
use Rattle.rs_octets.specs.Prefixes.{Prefix}
use Rattle.rs_attrs.specs.Meaning.{Attribute}
use Rattle.rs_attrs.specs.Effects.{MeansTable}
use Rattle.rs_open.specs.declared.short.Limit.{Limit}
use Rattle.rs_open.specs.declared.short.Limit.TheVariants as limits
use Rattle.rs_outlet.specs.declared.answers.Speech.{Speech}

-- how long a message to a client may be, by how it is spoken to: before it is Established no longer than 4,096 octets
-- (RFC 4271, 4.1; RFC 8654, 4)
abbrev pub limit_to : Option Speech → Limit
limit_to None = limits.Short
limit_to (Some speech) = speech.limit

abbrev pub is_long : Limit → Bool
is_long limits.Short = false
is_long limits.Long = true

-- what a header to a client may say that takes messages so long: each type that there is (RFC 8654, 4; RFC 2918, 3)
abbrev pub allowed_to : Limit → Allowed
allowed_to limit = record { long = is_long limit; refresh = true }

abbrev pub is_update : Kind → Bool
is_update kinds.Open = false
is_update kinds.Update = true
is_update kinds.Note = false
is_update kinds.Keepalive = false
is_update kinds.Refresh = false

abbrev pub heads_update : Result Head HeaderFault → Bool
heads_update (Ok head) = is_update head.kind
heads_update (Err fault) = false

abbrev pub body_if : Bool → List ℕ → List (List ℕ) → List (List ℕ)
body_if true message bodies = body_of message ∷ bodies
body_if false message bodies = bodies

-- the bodies of the UPDATEs among messages
abbrev pub updates_among : Limit → List (List ℕ) → List (List ℕ)
updates_among limit [] = []
updates_among limit (message ∷ messages) = body_if (heads_update (header_of (allowed_to limit) (take 19 message))) message (updates_among limit messages)

-- the bodies of the UPDATEs in octets, as a client reads them that takes messages so long
abbrev pub updates_in : Limit → List ℕ → List (List ℕ)
updates_in limit octets = updates_among limit (messages_of (allowed_to limit) octets)

-- a client that takes messages so long finds no header at fault in octets (RFC 4271, 6.1)
abbrev pub IsReadable : Limit → List ℕ → Type 0
IsReadable limit octets = header_fault_of (allowed_to limit) (rest_of (allowed_to limit) octets) ≡ []

-- To a client that is spoken to like this, octets are whole messages, and their UPDATEs mean this table.
pub record Speaks (speech : Speech) (octets : List ℕ) (table : Prefix → Option (List Attribute)) : Type 0 where
  pub whole : rest_of (allowed_to speech.limit) octets ≡ []
  pub means : MeansTable (updates_in speech.limit octets) speech.mode table

abbrev pub no_table : Prefix → Option (List Attribute)
no_table p = None
