-- The one cut of octets into messages and a rest, and what is heard of them (RFC 4271, 4.1 and 6.1).
use Rattle.std.specs.Prelude.{◌≡◌, ℕ, zero, suc, ◌+◌, ◌≤◌, List, [], ◌∷◌, ◌++◌, length, map, take, drop, Result, Ok, Err, IsOkAnd, nat_lt, if◌then◌else◌}
use Rattle.rs_octets.specs.declared.heads.Allowed.{Allowed}
use Rattle.rs_octets.specs.declared.heads.Head.{Head}
use Rattle.rs_octets.specs.declared.heads.Kind.{Kind}
use Rattle.rs_octets.specs.declared.heads.HeaderFault.{HeaderFault}
use Rattle.rs_octets.specs.Headers.{header_of, header_octets}
use Rattle.rs_octets.specs.Parts.{BeginsNone, Splits}

-- a whole message: its header is good and has its length
abbrev pub IsMessage : Allowed → List ℕ → Type 0
IsMessage allowed octets =
    (19 ≤ length octets) × IsOkAnd (header_of allowed (take 19 octets)) (λ head. head.length ≡ length octets)

-- a whole message of this type
abbrev pub IsMessageOf : Allowed → Kind → List ℕ → Type 0
IsMessageOf allowed kind octets =
    (19 ≤ length octets) × (header_of allowed (take 19 octets) ≡ Ok (record { length = length octets; kind = kind }))

-- what stands behind a message's header
abbrev pub body_of : List ℕ → List ℕ
body_of message = drop 19 message

-- the message of this type with this body
abbrev pub message_octets : Kind → List ℕ → List ℕ
message_octets kind body = header_octets (19 + length body) kind ++ body

-- octets of which no message is a front
abbrev pub BeginsNoMessage : Allowed → List ℕ → Type 0
BeginsNoMessage allowed octets = BeginsNone {A = List ℕ} (λ message. message) (IsMessage allowed) octets

-- octets, from left to right, are these messages and then this rest, which begins with no message
abbrev pub Cuts : Allowed → List ℕ → List (List ℕ) → List ℕ → Type 0
Cuts allowed octets messages rest = Splits {A = List ℕ} (λ message. message) (IsMessage allowed) octets messages rest

-- the fault of a rest that has a whole header; a shorter rest, and a message that is not yet whole,
-- have none
abbrev pub header_fault : Result Head HeaderFault → List (Result (List ℕ) HeaderFault)
header_fault (Ok head) = []
header_fault (Err fault) = Err fault ∷ []

abbrev pub header_fault_of : Allowed → List ℕ → List (Result (List ℕ) HeaderFault)
header_fault_of allowed rest = if nat_lt (length rest) 19 then [] else header_fault (header_of allowed (take 19 rest))

-- what is heard of octets: their messages, and the fault, where there is one, as the last
pub record Hears (allowed : Allowed) (octets : List ℕ) (heard : List (Result (List ℕ) HeaderFault)) : Type 0 where
  pub messages : List (List ℕ)
  pub rest : List ℕ
  pub cut : Cuts allowed octets messages rest
  pub are : heard ≡ map Ok messages ++ header_fault_of allowed rest

-- ---- the same, computed

-- the length of the message that octets begin with, or 0
abbrev pub length_within : List ℕ → Result Head HeaderFault → ℕ
length_within octets (Ok head) = if nat_lt (length octets) head.length then 0 else head.length
length_within octets (Err fault) = 0

abbrev pub message_length : Allowed → List ℕ → ℕ
message_length allowed octets =
    if nat_lt (length octets) 19 then 0 else length_within octets (header_of allowed (take 19 octets))

-- the messages behind the first n octets, and what is left of the octets behind them
abbrev pub messages_behind : Allowed → ℕ → List ℕ → List (List ℕ)
messages_behind allowed n [] = []
messages_behind allowed (suc n) (octet ∷ octets) = messages_behind allowed n octets
messages_behind allowed zero (octet ∷ octets) = elim (message_length allowed (octet ∷ octets)) [
  | zero ↦ []
  | suc n ↦ (octet ∷ take n octets) ∷ messages_behind allowed n octets
]

abbrev pub rest_behind : Allowed → ℕ → List ℕ → List ℕ
rest_behind allowed n [] = []
rest_behind allowed (suc n) (octet ∷ octets) = rest_behind allowed n octets
rest_behind allowed zero (octet ∷ octets) = elim (message_length allowed (octet ∷ octets)) [
  | zero ↦ octet ∷ octets
  | suc n ↦ rest_behind allowed n octets
]

abbrev pub messages_of : Allowed → List ℕ → List (List ℕ)
messages_of allowed octets = messages_behind allowed 0 octets

abbrev pub rest_of : Allowed → List ℕ → List ℕ
rest_of allowed octets = rest_behind allowed 0 octets

abbrev pub heard_of : Allowed → List ℕ → List (Result (List ℕ) HeaderFault)
heard_of allowed octets = map Ok (messages_of allowed octets) ++ header_fault_of allowed (rest_of allowed octets)

-- what is heard of later octets, beyond what was heard of those before them
abbrev pub newly_heard : Allowed → List ℕ → List ℕ → List (Result (List ℕ) HeaderFault)
newly_heard allowed before octets = drop (length (heard_of allowed before)) (heard_of allowed (before ++ octets))
