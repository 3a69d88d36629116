-- A link whose ports were told what happens, and asked nothing.
use Rattle.std.proofs.Common.{◌≡◌, Bool, List, ◌∷◌, sym, subst, ◌∙◌}
use Rattle.rs_core.specs.Drives.Steps.{Step}
use Rattle.rs_live.specs.declared.live_link.LiveLink.{LiveLink}
use Rattle.rs_live.specs.declared.live_link.Phase.{Phase}
use Rattle.rs_live.specs.Calls.{Call}
use Rattle.rs_live.specs.Operations.{Operation, Did}
use Rattle.rs_live.specs.Keeping.{Held, all_held}
use Rattle.rs_live.specs.Handled.{AreKept, Follows, Halts, Has, IsRunning, On}
use Rattle.rs_live.specs.Leaving.{LeavesClients}
use Rattle.rs_live.proofs.Handling.Calls.{none_more}

-- the ports were asked nothing
abbrev pub AsksNone : {P : Type 0} → (P → List Call → Type 0) → P → P → Type 0
AsksNone asked a b = (calls : List Call) → asked a calls → asked b calls

-- what is known of all that a link keeps stays so
kept : {P : Type 0} (asked : P → List Call → Type 0) (old new : LiveLink P) (Is : List Held → Phase → List Operation → Type 0) → LeavesClients old new → AsksNone asked old.ports.now new.ports.now
    → Has asked old.ports.now (Is (all_held old) old.phase) → Has asked new.ports.now (Is (all_held new) new.phase)
kept asked old new Is left none h =
    subst (λ held. Has asked new.ports.now (Is held new.phase)) (sym left.held)
    (subst (λ phase. Has asked new.ports.now (Is (all_held old) phase)) (sym left.phase) (none_more asked (Is (all_held old) old.phase) old.ports.now new.ports.now none h))

pub still_running : {P : Type 0} (asked : P → List Call → Type 0) (old new : LiveLink P) → LeavesClients old new → AsksNone asked old.ports.now new.ports.now → IsRunning asked old → IsRunning asked new
still_running asked old new left none h = (left.failed ∙ h.0, kept asked old new AreKept left none h.1)

follows_so : {P : Type 0} (asked : P → List Call → Type 0) (old new : LiveLink P) (step : Step) (failed : Bool) → LeavesClients old new → AsksNone asked old.ports.now new.ports.now → Follows asked step old failed → Follows asked step new failed
follows_so asked old new step _ left none (On h) = On (kept asked old new (λ held phase operations. AreKept held phase (Did step ∷ operations)) left none h)
follows_so asked old new step _ left none (Halts octets is h) = Halts octets is (none_more asked _ old.ports.now new.ports.now none h)

pub still_follows : {P : Type 0} (asked : P → List Call → Type 0) (old new : LiveLink P) (step : Step) → LeavesClients old new → AsksNone asked old.ports.now new.ports.now → Follows asked step old old.has_failed → Follows asked step new new.has_failed
still_follows asked old new step left none h = subst (λ failed. Follows asked step new failed) (sym left.failed) (follows_so asked old new step old.has_failed left none h)
