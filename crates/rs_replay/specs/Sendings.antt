-- What the octets mean that a route server sends on one connection (RFC 4271, 4 and 6; RFC 7606, 2).
use Rattle.std.specs.Prelude.{◌≡◌, ◌⊎◌, ℕ, Bool, true, false, List, [], ◌∷◌, ◌++◌, Option, Some, None, Result, Ok, Err, take, if◌then◌else◌}
use Rattle.std.specs.List.{flat_map, list_any, AllByRecursion}
use Rattle.rs_octets.specs.declared.heads.Allowed.{Allowed}
use Rattle.rs_octets.specs.declared.heads.Head.{Head}
use Rattle.rs_octets.specs.declared.heads.HeaderFault.{HeaderFault}
use Rattle.rs_octets.specs.declared.heads.Kind.{Kind}
use Rattle.rs_octets.specs.declared.heads.Kind.TheVariants as kinds
use Rattle.rs_octets.specs.Headers.{header_of}
use Rattle.rs_octets.specs.Messages.{body_of, header_fault_of, messages_of, rest_of}
use Rattle.rs_attrs.specs.declared.mode.Mode.{Mode}
use Rattle.rs_attrs.specs.Effects.{Change, Changes, HasEffect, MeansTable, Reset}
use Rattle.rs_replay.specs.Findings.{Table}

-- what each of a list gives, in order, from the last on that begins anew
abbrev pub since_last : {A B : Type 0} → (A → Bool) → (A → List B) → List A → List B
since_last begins gives [] = []
since_last begins gives (x ∷ xs) = if list_any begins xs then since_last begins gives xs else gives x ++ since_last begins gives xs

-- ---- messages

-- what a header may say: a server may send long messages (RFC 8654) and ROUTE-REFRESH (RFC 2918)
abbrev pub allowed : Allowed
allowed = record { long = true; refresh = true }

-- a session begins with an OPEN, and ends with a NOTIFICATION (RFC 4271, 4.2 and 4.5)
abbrev pub is_boundary_type : Kind → Bool
is_boundary_type kinds.Open = true
is_boundary_type kinds.Update = false
is_boundary_type kinds.Note = true
is_boundary_type kinds.Keepalive = false
is_boundary_type kinds.Refresh = false

abbrev pub is_boundary_by : Result Head HeaderFault → Bool
is_boundary_by (Ok head) = is_boundary_type head.kind
is_boundary_by (Err fault) = false

abbrev pub is_boundary : List ℕ → Bool
is_boundary message = is_boundary_by (header_of allowed (take 19 message))

-- the body of an UPDATE; none of another message
abbrev pub update_of_type : Kind → List ℕ → List (List ℕ)
update_of_type kinds.Open body = []
update_of_type kinds.Update body = body ∷ []
update_of_type kinds.Note body = []
update_of_type kinds.Keepalive body = []
update_of_type kinds.Refresh body = []

abbrev pub update_by : Result Head HeaderFault → List ℕ → List (List ℕ)
update_by (Ok head) body = update_of_type head.kind body
update_by (Err fault) body = []

abbrev pub update_in : List ℕ → List (List ℕ)
update_in message = update_by (header_of allowed (take 19 message)) (body_of message)

-- the bodies of the UPDATEs among messages
abbrev pub updates_in : List (List ℕ) → List (List ℕ)
updates_in messages = flat_map update_in messages

-- the bodies of those that came behind the last OPEN and the last NOTIFICATION
abbrev pub updates_since : List (List ℕ) → List (List ℕ)
updates_since messages = since_last is_boundary update_in messages

-- ---- what octets mean

-- none of these UPDATEs resets the session (RFC 7606, 2)
abbrev pub NoneResets : Mode → List (List ℕ) → Type 0
NoneResets mode bodies = AllByRecursion (λ body. (change : Change) × HasEffect body mode (Changes change)) bodies

-- one does
abbrev pub SomeResets : Mode → List (List ℕ) → Type 0
SomeResets mode [] = ⊥
SomeResets mode (body ∷ bodies) = ((code : ℕ) × (sub : ℕ) × HasEffect body mode (Reset code sub)) ⊎ SomeResets mode bodies

-- no header is refused (RFC 4271, 6.1), and no UPDATE resets the session
abbrev pub IsReadable : Mode → List ℕ → Type 0
IsReadable mode octets = (header_fault_of allowed (rest_of allowed octets) ≡ []) × NoneResets mode (updates_in (messages_of allowed octets))

-- a header is refused, or an UPDATE resets the session
abbrev pub IsUnreadable : Mode → List ℕ → Type 0
IsUnreadable mode octets =
    ((fault : HeaderFault) × (header_fault_of allowed (rest_of allowed octets) ≡ Err fault ∷ [])) ⊎ SomeResets mode (updates_in (messages_of allowed octets))

-- The table that all octets of a connection mean, in which AS numbers are spelt in this mode: that of the UPDATEs behind the last OPEN
-- and the last NOTIFICATION. It is none where something can't be read.
abbrev pub MeansSent : Mode → List ℕ → Option Table → Type 0
MeansSent mode octets (Some table) = IsReadable mode octets × MeansTable (updates_since (messages_of allowed octets)) mode table
MeansSent mode octets None = IsUnreadable mode octets
