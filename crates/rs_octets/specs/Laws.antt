-- What holds of the definitions, as the contracts of the module `laws` say it.
use Rattle.std.specs.Prelude.{◌≡◌, ◌⊎◌, ◌<◌, ◌-◌, ℕ, List, [], ◌∷◌, ◌++◌, length, map, Result, Ok, Err}
use Rattle.std.specs.List.{flat_map, AllByRecursion}
use Rattle.rs_octets.specs.declared.heads.Allowed.{Allowed}
use Rattle.rs_octets.specs.declared.heads.HeaderFault.{HeaderFault}
use Rattle.rs_octets.specs.declared.prefix.FieldFault.{FieldFault}
use Rattle.rs_octets.specs.declared.heads.Kind.{Kind}
use Rattle.rs_octets.specs.Messages.{IsMessage, IsMessageOf, Cuts, Hears, header_fault_of, messages_of, rest_of, heard_of, newly_heard}
use Rattle.rs_octets.specs.Fronts.{BeginsWith, BeginsFaulty, Wants}
use Rattle.rs_octets.specs.Prefixes.{Prefix, IsIpv4Prefix}
use Rattle.rs_octets.specs.PrefixFields.{ReadsPrefixes, prefixes_of, prefix_octets}

-- octets can be cut into messages and a rest
abbrev pub IsCut : Type 0
IsCut = (allowed : Allowed) (octets : List ℕ) → Cuts allowed octets (messages_of allowed octets) (rest_of allowed octets)

-- in one way
abbrev pub IsOnlyCut : Type 0
IsOnlyCut =
    (allowed : Allowed) (octets : List ℕ) (messages : List (List ℕ)) (rest : List ℕ) → Cuts allowed octets messages rest
    → (messages ≡ messages_of allowed octets) × (rest ≡ rest_of allowed octets)

-- octets that come later go behind the rest
abbrev pub JoinsPieces : Type 0
JoinsPieces =
    (allowed : Allowed) (octets more : List ℕ)
    → (messages_of allowed (octets ++ more) ≡ messages_of allowed octets ++ messages_of allowed (rest_of allowed octets ++ more))
    × (rest_of allowed (octets ++ more) ≡ rest_of allowed (rest_of allowed octets ++ more))

-- an octet more makes the rest one message, or it goes behind the rest
abbrev pub GrowsBy : Allowed → List ℕ → ℕ → Type 0
GrowsBy allowed octets octet =
    let grown = rest_of allowed octets ++ octet ∷ [] in
    (IsMessage allowed grown × (messages_of allowed (octets ++ octet ∷ []) ≡ messages_of allowed octets ++ grown ∷ []) × (rest_of allowed (octets ++ octet ∷ []) ≡ []))
    ⊎ ((messages_of allowed (octets ++ octet ∷ []) ≡ messages_of allowed octets) × (rest_of allowed (octets ++ octet ∷ []) ≡ grown))

-- something is heard of any octets, and it is one thing
abbrev pub IsHeard : Type 0
IsHeard = (allowed : Allowed) (octets : List ℕ) → Hears allowed octets (heard_of allowed octets)

abbrev pub IsOnlyHeard : Type 0
IsOnlyHeard =
    (allowed : Allowed) (octets : List ℕ) (heard : List (Result (List ℕ) HeaderFault)) → Hears allowed octets heard → heard ≡ heard_of allowed octets

-- ---- messages alone, and one after the other

-- a whole message is one of a type, and what is one of a type is a whole message
abbrev pub HasType : Type 0
HasType = (allowed : Allowed) (message : List ℕ) → IsMessage allowed message → (kind : Kind) × IsMessageOf allowed kind message

abbrev pub OfTypeIsMessage : Type 0
OfTypeIsMessage = (allowed : Allowed) (kind : Kind) (message : List ℕ) → IsMessageOf allowed kind message → IsMessage allowed message

-- a message alone is heard, and nothing is left of it
abbrev pub IsHeardAlone : Type 0
IsHeardAlone =
    (allowed : Allowed) (message : List ℕ) → IsMessage allowed message
    → (heard_of allowed message ≡ Ok message ∷ []) × (messages_of allowed message ≡ message ∷ []) × (rest_of allowed message ≡ [])

-- messages one after the other are heard one by one
abbrev pub AreHeardOneByOne : Type 0
AreHeardOneByOne =
    (allowed : Allowed) (messages : List (List ℕ)) (more : List ℕ) → AllByRecursion (IsMessage allowed) messages
    → heard_of allowed (flat_map (λ message. message) messages ++ more) ≡ map Ok messages ++ heard_of allowed more

-- ---- octets that come later

-- what was heard stays heard: what is new is heard after it
abbrev pub HeardStays : Type 0
HeardStays = (allowed : Allowed) (octets more : List ℕ) → heard_of allowed (octets ++ more) ≡ heard_of allowed octets ++ newly_heard allowed octets more

-- where no header was refused, it is heard of what was left and what came
abbrev pub NewIsOfTheRest : Type 0
NewIsOfTheRest =
    (allowed : Allowed) (octets more : List ℕ) → header_fault_of allowed (rest_of allowed octets) ≡ []
    → newly_heard allowed octets more ≡ heard_of allowed (rest_of allowed octets ++ more)

-- after a fault nothing more is heard
abbrev pub NothingBehindAFault : Type 0
NothingBehindAFault =
    (allowed : Allowed) (octets more : List ℕ) (fault : HeaderFault) → header_fault_of allowed (rest_of allowed octets) ≡ Err fault ∷ []
    → newly_heard allowed octets more ≡ []

-- two pieces are heard as one
abbrev pub PiecesAreHeardAsOne : Type 0
PiecesAreHeardAsOne =
    (allowed : Allowed) (octets first later : List ℕ)
    → newly_heard allowed octets (first ++ later) ≡ newly_heard allowed octets first ++ newly_heard allowed (octets ++ first) later

-- ---- what stands at the front

-- a message there is heard first, and then what stands behind it
abbrev pub MessageInFrontIsHeard : Type 0
MessageInFrontIsHeard =
    (allowed : Allowed) (octets : List ℕ) (kind : Kind) (body rest : List ℕ) (at : BeginsWith allowed octets kind body rest)
    → (heard_of allowed octets ≡ Ok at.message ∷ heard_of allowed rest)
    × (messages_of allowed octets ≡ at.message ∷ messages_of allowed rest)
    × (rest_of allowed octets ≡ rest_of allowed rest)

-- a fault there is all that is heard
abbrev pub FaultInFrontIsHeard : Type 0
FaultInFrontIsHeard =
    (allowed : Allowed) (octets : List ℕ) (fault : HeaderFault) → BeginsFaulty allowed octets fault
    → (heard_of allowed octets ≡ Err fault ∷ []) × (rest_of allowed octets ≡ octets)

-- nothing is heard of the beginning of a message, and no header is refused yet
abbrev pub BeginningWaits : Type 0
BeginningWaits =
    (allowed : Allowed) (octets : List ℕ) (n : ℕ) → Wants allowed octets n
    → (heard_of allowed octets ≡ []) × (rest_of allowed octets ≡ octets) × (header_fault_of allowed octets ≡ [])

-- with fewer octets more than are wanted it waits for those that are still missing
abbrev pub BeginningStillWaits : Type 0
BeginningStillWaits =
    (allowed : Allowed) (octets more : List ℕ) (n : ℕ) → Wants allowed octets n → length more < n
    → Wants allowed (octets ++ more) (n - length more)

-- ---- prefixes

-- a field of prefixes can be read, in one way
abbrev pub IsRead : Type 0
IsRead = (field : List ℕ) → ReadsPrefixes field (prefixes_of field)

abbrev pub IsOnlyRead : Type 0
IsOnlyRead = (field : List ℕ) (read : List (Result Prefix FieldFault)) → ReadsPrefixes field read → read ≡ prefixes_of field

-- a field that spells prefixes holds just these
abbrev pub ReadsBack : Type 0
ReadsBack = (ps : List Prefix) → AllByRecursion IsIpv4Prefix ps → prefixes_of (flat_map prefix_octets ps) ≡ map Ok ps
