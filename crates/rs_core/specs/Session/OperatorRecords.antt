-- What is kept of a client for the operator: why its sessions ended, and which of its UPDATEs were not taken as they came.
use Rattle.std.specs.Prelude.{◌≡◌, ℕ, ◌-◌, min, Bool, false, ◌||◌, List, filter, [], ◌∷◌, ◌++◌, length, take, replicate, Option, Some, None, is_some, slice_get, if◌then◌else◌}
use Rattle.std.specs.List.{cons_option}
use Rattle.rs_attrs.specs.declared.faults.Faulted.{Faulted}
use Rattle.rs_session.specs.declared.act.Act.{Act}
use Rattle.rs_session.specs.declared.act.Act.TheVariants as acts
use Rattle.rs_core.specs.Others.{KeepsOthers}
use Rattle.rs_core.specs.declared.endings.Ending.{Ending}
use Rattle.rs_core.specs.declared.endings.Ending.TheVariants as reasons
use Rattle.rs_core.specs.declared.endings.FaultedUpdates.{FaultedUpdates}
use Rattle.rs_core.specs.declared.endings.Notice.{Notice}
use Rattle.rs_core.specs.declared.endings.Watched.{Watched}

-- ---- why a session ended (RFC 4271, 6 and 8.2.2)

-- of the data of a NOTIFICATION its first 64 octets are kept, with zeros in the place of those that there are not
abbrev pub notice_with : ℕ → ℕ → List ℕ → Notice
notice_with code sub said = record { code = code; sub = sub; «data» = take 64 said ++ replicate (64 - length said) 0; count = min (length said) 64 }

-- a NOTIFICATION with this body (RFC 4271, 4.5)
abbrev pub notice_of : List ℕ → Notice
notice_of [] = notice_with 0 0 []
notice_of (code ∷ []) = notice_with 0 0 []
notice_of (code ∷ sub ∷ said) = notice_with code sub said

-- A message with this body ends a session that asks for this: by a NOTIFICATION of ours, or by that of the client, which is the
-- message then and is not answered (RFC 4271, 6.4).
abbrev pub ending_by : List ℕ → Act → Option Ending
ending_by body acts.None = None
ending_by body (acts.Say message) = None
ending_by body acts.Up = None
ending_by body (acts.Down None) = Some (reasons.Heard (notice_of body))
ending_by body (acts.Down (Some note)) = Some (reasons.Said note)
ending_by body acts.Again = None

-- a moment ends one by its hold timer (RFC 4271, 6.5)
abbrev pub expiry_by : Act → Option Ending
expiry_by acts.None = None
expiry_by (acts.Say message) = None
expiry_by acts.Up = None
expiry_by (acts.Down said) = Some reasons.HoldTimer
expiry_by acts.Again = None

-- a command of the operator's by the NOTIFICATION that it asks for (RFC 4486, 4)
abbrev pub command_ending : Act → Option Ending
command_ending acts.None = None
command_ending (acts.Say message) = None
command_ending acts.Up = None
command_ending (acts.Down None) = None
command_ending (acts.Down (Some note)) = Some (reasons.Said note)
command_ending acts.Again = None

-- what cuts a connection ends a session only while that lasts
abbrev pub ended_if : Bool → Ending → Option Ending
ended_if lasts why = if lasts then Some why else None

-- ---- UPDATEs that were not taken as they came (RFC 7606, 2)

abbrev pub no_faults : Faulted
no_faults = record { withdraw = None; discard = None; mp_reach = false }

-- an attribute was at fault, or one was missing
abbrev pub is_faulted : Faulted → Bool
is_faulted faulted = is_some faulted.withdraw || is_some faulted.discard

-- an UPDATE was taken of which this is noted, after others; one without any fault or MP_REACH_NLRI is not among them
abbrev pub with_faults : Faulted → List Faulted → List Faulted
with_faults faulted earlier = if is_faulted faulted || faulted.mp_reach then faulted ∷ earlier else earlier

-- ---- what is kept

-- the newest, where there is one
abbrev pub newest_ending : List Ending → Option Ending
newest_ending [] = None
newest_ending (ending ∷ endings) = Some ending

abbrev pub newest_faults : List Faulted → Faulted
newest_faults [] = no_faults
newest_faults (faulted ∷ earlier) = faulted

-- how many there are, as far as a u64 counts
abbrev pub counted : List Faulted → ℕ
counted faults = min (length faults) 18446744073709551615

-- how many were at fault, what was wrong with the last of these, and how many had MP_REACH_NLRI
abbrev pub faulted_by : List Faulted → FaultedUpdates
faulted_by faults =
    let at_fault = filter is_faulted faults in
    record { count = counted at_fault; last = newest_faults at_fault; mp_reach = counted (filter (λ f. f.mp_reach) faults) }

-- by the endings of its sessions, and by what was wrong with its UPDATEs, each the newest first
abbrev pub watched_by : List Ending → List Faulted → Watched
watched_by endings faults = record { ending = newest_ending endings; faulted = faulted_by faults }

-- so it is of client c
abbrev pub IsWatched : List Watched → ℕ → List Ending → List Faulted → Type 0
IsWatched watched c endings faults = (x : Watched) → slice_get watched c ≡ Some x → x ≡ watched_by endings faults

-- of client c alone it was noted that its session ended so, or did not end
pub record NotesEnding (c : ℕ) (ending : Option Ending) (old new : List Watched) : Type 0 where
  pub own : (endings : List Ending) (faults : List Faulted) → IsWatched old c endings faults → IsWatched new c (cons_option ending endings) faults
  pub others : KeepsOthers c old new
