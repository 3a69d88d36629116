-- What is kept of clients and their connections still agrees with what was done, one operation later.
use Rattle.std.proofs.Common.{◌≡◌, ◌≤◌, ◌+◌, ◌==◌, ◌++◌, ℕ, List, [], ◌∷◌, length, take, drop, Option, Some, None, Result, refl, sym, subst, ap, ◌∙◌}
use Rattle.std.specs.Prelude.{⊤}
use Rattle.std.proofs.Math.Seq.{drop-nil}
use Rattle.rs_core.specs.declared.links.Event.TheVariants.{Opened, Octets, Moment, Commanded, Turn, Room, Lost, Rules, Stop}
use Rattle.rs_core.specs.Drives.Steps.{Step, Happened, Begin, Busy, Offer, Memory, End, Replaced}
use Rattle.rs_live.specs.declared.ports.PortFault.{PortFault}
use Rattle.rs_live.specs.declared.live_link.Phase.{Phase}
use Rattle.rs_live.specs.declared.live_link.Stage.{Stage}
use Rattle.rs_live.specs.declared.live_link.Stage.TheVariants as stages
use Rattle.rs_live.specs.Calls.{Call, Read}
use Rattle.rs_live.specs.Operations.{Operation, Asked, WroteTo, WroteRest, ClosedRest, Did}
use Rattle.rs_live.specs.Keys.{come}
use Rattle.rs_live.specs.Sending.{taken}
use Rattle.rs_live.specs.Keeping.{Held, Agrees, IsAtStage, IsInPhase, IsPlain, change, had_by, nothing, with_live, with_rest}
use Rattle.rs_live.specs.Handled.{IsLossOf}
use Rattle.rs_live.proofs.Changing.{no_some, past, same_changed, KeepsNone, come_asked, phase_asked, had_asked, IsQuiet, phase_did, phase_changed, IsChange, if_lost, if_waits, if_rests, if_closed, ended, if_ended}

-- the ports were asked something
pub agrees_asked : (held : List Held) (phase : Phase) (call : Call) (operations : List Operation) → IsPlain call → Agrees held phase operations → Agrees held phase (Asked call ∷ operations)
agrees_asked held phase call operations is h = record { same = λ c. had_asked c call operations is ∙ h.same c; fresh = λ c. come_asked c call operations is ∙ h.fresh c; round = phase_asked held phase call operations is h.round }

pub agrees_changed : (f : Held → Held) (held : List Held) (phase : Phase) (c : ℕ) (operations after : List Operation) → (length held ≤ c → f nothing ≡ nothing) → KeepsNone f → IsChange f c operations after → ((hs : List Held) → IsInPhase hs phase operations → IsInPhase hs phase after) → Agrees held phase operations → Agrees (change c f held) phase after
agrees_changed f held phase c operations after none keeps is round h = record {
  same = same_changed f held c operations after none is.0 h.same;
  fresh = λ d. is.1 d ∙ h.fresh d;
  round = round (change c f held) (phase_changed f held c phase operations none keeps h.round);
}

lost_changes : (c : ℕ) (step : Step) (operations : List Operation) → IsLossOf c step → IsQuiet step × IsChange (with_live None []) c operations (Did step ∷ operations)
lost_changes c (Happened event octets) operations is = subst (λ e. IsQuiet (Happened e octets) × IsChange (with_live None []) c operations (Did (Happened e octets) ∷ operations)) (sym is) (tt, (λ d. if_lost (d == c) (had_by d operations), λ d. refl))
lost_changes c (Begin d) operations is = absurd is
lost_changes c (Busy d) operations is = absurd is
lost_changes c (Offer d octets answer) operations is = absurd is
lost_changes c (Memory d) operations is = absurd is
lost_changes c (End d) operations is = absurd is
lost_changes c (Replaced answer) operations is = absurd is

-- a client's connection is lost
pub agrees_lost : (held : List Held) (phase : Phase) (c : ℕ) (step : Step) (operations : List Operation) → IsLossOf c step → Agrees held phase operations → Agrees (change c (with_live None []) held) phase (Did step ∷ operations)
agrees_lost held phase c step operations is h = let w = lost_changes c step operations is in agrees_changed (with_live None []) held phase c operations (Did step ∷ operations) (λ past. refl) (λ k some. absurd (no_some None refl some)) w.1 (λ hs r. phase_did hs phase step operations w.0 r) h

-- a client's session has ended
pub agrees_end : (held : List Held) (phase : Phase) (c : ℕ) (operations : List Operation) → Agrees held phase operations → Agrees (change c ended held) phase (Did (End c) ∷ operations)
agrees_end held phase c operations h = agrees_changed ended held phase c operations (Did (End c) ∷ operations) (λ past. refl) (λ k some. absurd (no_some None refl some)) (λ d. if_ended (d == c) (had_by d operations), λ d. refl) (λ hs r. phase_did hs phase (End c) operations tt r) h

-- octets are handed on
abbrev pub handed_more : List ℕ → Held → Held
handed_more octets h = with_live h.key (h.waiting ++ octets) h

pub agrees_offer : (held : List Held) (phase : Phase) (c n : ℕ) (octets : List ℕ) (operations : List Operation) → (length held ≤ c → take n octets ≡ []) → Agrees held phase operations → Agrees (change c (handed_more (take n octets)) held) phase (Did (Offer c octets (Some n)) ∷ operations)
agrees_offer held phase c n octets operations none h = agrees_changed (handed_more (take n octets)) held phase c operations (Did (Offer c octets (Some n)) ∷ operations) (λ past. ap (λ o. with_live None o nothing) (none past)) (λ k some. some)
    (λ d. if_waits (d == c) ((had_by d operations).waiting ++ take n octets) (had_by d operations), λ d. refl) (λ hs r. phase_did hs phase (Offer c octets (Some n)) operations tt r) h

-- the ports take some of what waits
abbrev pub taken_from : Result (Option ℕ) PortFault → Held → Held
taken_from answer h = with_live h.key (drop (taken answer) h.waiting) h

wrote_stage : (held : List Held) (stage : Stage) (c key : ℕ) (octets : List ℕ) (answer : Result (Option ℕ) PortFault) (operations : List Operation) → IsAtStage held stage operations → IsAtStage held stage (WroteTo c key octets answer ∷ operations)
wrote_stage held stages.Rules c key octets answer operations h = h
wrote_stage held stages.Start c key octets answer operations h = h
wrote_stage held (stages.Orders n) c key octets answer operations h = h
wrote_stage held stages.Accept c key octets answer operations h = h
wrote_stage held (stages.Come d incoming) c key octets answer operations h = h
wrote_stage held stages.Read c key octets answer operations h = h
wrote_stage held stages.Moment c key octets answer operations h = h
wrote_stage held stages.Turn c key octets answer operations h = h
wrote_stage held (stages.Room from) c key octets answer operations h = h
wrote_stage held (stages.Handed d) c key octets answer operations h = h
wrote_stage held stages.Over c key octets answer operations h = h

wrote_round : (held : List Held) (phase : Phase) (c key : ℕ) (octets : List ℕ) (answer : Result (Option ℕ) PortFault) (operations : List Operation) → IsInPhase held phase operations → IsInPhase held phase (WroteTo c key octets answer ∷ operations)
wrote_round held phase c key octets answer operations h = record { stage = wrote_stage held phase.stage c key octets answer operations h.stage; clocked = let k = h.clocked in record { asked = k.asked; clock = k.clock; quiet = k.quiet; told = k.told; read = k.read; over = k.over }; stopped = h.stopped; ordered = h.ordered }

pub agrees_wrote : (held : List Held) (phase : Phase) (c key : ℕ) (octets : List ℕ) (answer : Result (Option ℕ) PortFault) (operations : List Operation) → Agrees held phase operations → Agrees (change c (taken_from answer) held) phase (WroteTo c key octets answer ∷ operations)
agrees_wrote held phase c key octets answer operations h = agrees_changed (taken_from answer) held phase c operations (WroteTo c key octets answer ∷ operations) (λ past. ap (λ o. with_live None o nothing) (drop-nil (taken answer))) (λ k some. some)
    (λ d. if_waits (d == c) (drop (taken answer) (had_by d operations).waiting) (had_by d operations), λ d. refl) (λ hs r. wrote_round hs phase c key octets answer operations r) h

-- and some of the rest
abbrev pub taken_from_rest : Result (Option ℕ) PortFault → Held → Held
taken_from_rest answer h = with_rest h.rest_key (drop (taken answer) h.rest) h

wrote_rest_stage : (held : List Held) (stage : Stage) (c key : ℕ) (octets : List ℕ) (answer : Result (Option ℕ) PortFault) (operations : List Operation) → IsAtStage held stage operations → IsAtStage held stage (WroteRest c key octets answer ∷ operations)
wrote_rest_stage held stages.Rules c key octets answer operations h = h
wrote_rest_stage held stages.Start c key octets answer operations h = h
wrote_rest_stage held (stages.Orders n) c key octets answer operations h = h
wrote_rest_stage held stages.Accept c key octets answer operations h = h
wrote_rest_stage held (stages.Come d incoming) c key octets answer operations h = h
wrote_rest_stage held stages.Read c key octets answer operations h = h
wrote_rest_stage held stages.Moment c key octets answer operations h = h
wrote_rest_stage held stages.Turn c key octets answer operations h = h
wrote_rest_stage held (stages.Room from) c key octets answer operations h = h
wrote_rest_stage held (stages.Handed d) c key octets answer operations h = h
wrote_rest_stage held stages.Over c key octets answer operations h = h

wrote_rest_round : (held : List Held) (phase : Phase) (c key : ℕ) (octets : List ℕ) (answer : Result (Option ℕ) PortFault) (operations : List Operation) → IsInPhase held phase operations → IsInPhase held phase (WroteRest c key octets answer ∷ operations)
wrote_rest_round held phase c key octets answer operations h = record { stage = wrote_rest_stage held phase.stage c key octets answer operations h.stage; clocked = let k = h.clocked in record { asked = k.asked; clock = k.clock; quiet = k.quiet; told = k.told; read = k.read; over = k.over }; stopped = h.stopped; ordered = h.ordered }

pub agrees_wrote_rest : (held : List Held) (phase : Phase) (c key : ℕ) (octets : List ℕ) (answer : Result (Option ℕ) PortFault) (operations : List Operation) → Agrees held phase operations → Agrees (change c (taken_from_rest answer) held) phase (WroteRest c key octets answer ∷ operations)
agrees_wrote_rest held phase c key octets answer operations h = agrees_changed (taken_from_rest answer) held phase c operations (WroteRest c key octets answer ∷ operations) (λ past. ap (λ o. with_rest None o nothing) (drop-nil (taken answer))) (λ k some. some)
    (λ d. if_rests (d == c) (drop (taken answer) (had_by d operations).rest) (had_by d operations), λ d. refl) (λ hs r. wrote_rest_round hs phase c key octets answer operations r) h

-- the connection of an ended session is closed
closed_stage : (held : List Held) (stage : Stage) (c key : ℕ) (operations : List Operation) → IsAtStage held stage operations → IsAtStage held stage (ClosedRest c key ∷ operations)
closed_stage held stages.Rules c key operations h = h
closed_stage held stages.Start c key operations h = h
closed_stage held (stages.Orders n) c key operations h = h
closed_stage held stages.Accept c key operations h = h
closed_stage held (stages.Come d incoming) c key operations h = h
closed_stage held stages.Read c key operations h = h
closed_stage held stages.Moment c key operations h = h
closed_stage held stages.Turn c key operations h = h
closed_stage held (stages.Room from) c key operations h = h
closed_stage held (stages.Handed d) c key operations h = h
closed_stage held stages.Over c key operations h = h

closed_round : (held : List Held) (phase : Phase) (c key : ℕ) (operations : List Operation) → IsInPhase held phase operations → IsInPhase held phase (ClosedRest c key ∷ operations)
closed_round held phase c key operations h = record { stage = closed_stage held phase.stage c key operations h.stage; clocked = let k = h.clocked in record { asked = k.asked; clock = k.clock; quiet = k.quiet; told = k.told; read = k.read; over = k.over }; stopped = h.stopped; ordered = h.ordered }

pub agrees_closed : (held : List Held) (phase : Phase) (c key : ℕ) (operations : List Operation) → Agrees held phase operations → Agrees (change c (with_rest None []) held) phase (ClosedRest c key ∷ operations)
agrees_closed held phase c key operations h = agrees_changed (with_rest None []) held phase c operations (ClosedRest c key ∷ operations) (λ past. refl) (λ k some. some)
    (λ d. if_closed (d == c) (had_by d operations), λ d. refl) (λ hs r. closed_round hs phase c key operations r) h

-- this step is of no client's connection
abbrev pub IsStill : Step → Type 0
IsStill (Happened Rules octets) = ⊤
IsStill (Happened Stop octets) = ⊤
IsStill (Happened event octets) = ⊥
IsStill (Memory c) = ⊤
IsStill (Replaced answer) = ⊤
IsStill step = ⊥

abbrev IsSame : Step → Type 0
IsSame step = IsQuiet step × ((d : ℕ) (operations : List Operation) → had_by d (Did step ∷ operations) ≡ had_by d operations) × ((d : ℕ) (operations : List Operation) → come d (Did step ∷ operations) ≡ come d operations)

still : (step : Step) → IsStill step → IsSame step
still (Happened (Opened c) octets) is = absurd is
still (Happened (Octets c n) octets) is = absurd is
still (Happened (Moment t) octets) is = absurd is
still (Happened (Commanded c command) octets) is = absurd is
still (Happened Turn octets) is = absurd is
still (Happened (Room c n) octets) is = absurd is
still (Happened (Lost c) octets) is = absurd is
still (Happened Rules octets) is = (tt, λ d operations. refl, λ d operations. refl)
still (Happened Stop octets) is = (tt, λ d operations. refl, λ d operations. refl)
still (Begin c) is = absurd is
still (Busy c) is = absurd is
still (Offer c octets answer) is = absurd is
still (Memory c) is = (tt, λ d operations. refl, λ d operations. refl)
still (End c) is = absurd is
still (Replaced answer) is = (tt, λ d operations. refl, λ d operations. refl)

pub agrees_still : (held : List Held) (phase : Phase) (step : Step) (operations : List Operation) → IsStill step → Agrees held phase operations → Agrees held phase (Did step ∷ operations)
agrees_still held phase step operations is h = let s = still step is in record {
  same = λ d. s.1 d operations ∙ h.same d;
  fresh = λ d. s.2 d operations ∙ h.fresh d;
  round = phase_did held phase step operations s.0 h.round;
}
