-- A round goes on, one call of the ports or one step of the core's link after the other.
use Rattle.std.proofs.Common.{◌≡◌, ◌<◌, ◌≤◌, ◌+◌, ℕ, false, List, [], ◌∷◌, length, None, Ok, Err, refl, subst}
use Rattle.rs_core.specs.declared.links.Event.TheVariants.{Moment, Turn, Room}
use Rattle.rs_core.specs.Drives.Steps.{Happened}
use Rattle.rs_live.specs.declared.ports.PortFault.{PortFault}
use Rattle.rs_live.specs.declared.live_link.LiveLink.{LiveLink}
use Rattle.rs_live.specs.declared.live_link.Phase.{Phase}
use Rattle.rs_live.specs.declared.live_link.Stage.{Stage}
use Rattle.rs_live.specs.declared.live_link.Stage.TheVariants as stages
use Rattle.rs_live.specs.Calls.{Call, Waited, Timed}
use Rattle.rs_live.specs.Operations.{Operation, Asked, Spared, Did, calls}
use Rattle.rs_live.specs.Keeping.{Held, HaveAll, IsAtStage, IsFairBy, IsInPhase, IsPast, at, before, begun_at, given, held_by, held_of, key_at, key_come, nothing}
use Rattle.rs_live.specs.Handled.{Waits, Asks, Does, Spares, Times, By, EndByWait, Has, AreKept, IsRunning}
use Rattle.rs_live.proofs.Agreeing.Rounds.{agrees_phase, agrees_start, agrees_moment, fair_is, agrees_turn, agrees_room, agrees_handed, agrees_over, settled, agrees_waited}
use Rattle.rs_live.proofs.Handling.Calls.{AsksMore, so, did, more, ends}

-- a wait begins a round: then the clock is asked, and the core said up to when no session ends
pub waits : {P : Type 0} (asked : P → List Call → Type 0) (held : List Held) (w : Phase) (clock quiet : ℕ) (a m b : P) → AsksMore asked a (Waited (Ok tt)) m → AsksMore asked m (Timed clock) b → Has asked a (AreKept held (at stages.Over w)) → Has asked b (AreKept held (begun_at clock quiet w))
waits asked held w clock quiet a m b first second h = record {
  operations = Spared quiet ∷ Asked (Timed clock) ∷ Asked (Waited (Ok tt)) ∷ h.operations;
  are = (
    Spares quiet (Asked (Timed clock) ∷ Asked (Waited (Ok tt)) ∷ h.operations) (Asks (Timed clock) (Asked (Waited (Ok tt)) ∷ h.operations) tt (Waits h.operations (settled held w h.operations h.are.1) h.are.0)),
    agrees_waited held w clock quiet h.operations h.are.1,
  );
  were = second (Waited (Ok tt) ∷ calls h.operations) (first (calls h.operations) h.were);
}

-- or fails
pub breaks : {P : Type 0} (asked : P → List Call → Type 0) (held : List Held) (w : Phase) (a b : P) (fault : PortFault) → AsksMore asked a (Waited (Err fault)) b → Has asked a (AreKept held (at stages.Over w)) → Has asked b EndByWait
breaks asked held w a b fault m h = more asked (AreKept held (at stages.Over w)) EndByWait a b (Waited (Err fault)) m (λ operations k. (By (Waited (Err fault)) operations refl k.0, settled held w operations k.1)) h

-- the first moment of a round, a fair one
pub starts : {P : Type 0} (asked : P → List Call → Type 0) (held : List Held) (w : Phase) (t : ℕ) (p : P) → IsFairBy (length held) w t → Has asked p (AreKept held (at stages.Start w)) → Has asked p (λ operations. AreKept held (given (stages.Orders 0) t w) (Did (Happened (Moment t) []) ∷ operations))
starts asked held w t p fair h = did asked (AreKept held (at stages.Start w)) (AreKept held (given (stages.Orders 0) t w)) p (Happened (Moment t) []) (λ operations k. (Times t [] operations (fair_is held (at stages.Start w) t operations fair k.1) k.0, agrees_start held w t [] operations k.1)) h

-- and a later one
pub times : {P : Type 0} (asked : P → List Call → Type 0) (held : List Held) (w : Phase) (t : ℕ) (p : P) → IsFairBy (length held) w t → Has asked p (AreKept held (at stages.Moment w)) → Has asked p (λ operations. AreKept held (given stages.Turn t w) (Did (Happened (Moment t) []) ∷ operations))
times asked held w t p fair h = did asked (AreKept held (at stages.Moment w)) (AreKept held (given stages.Turn t w)) p (Happened (Moment t) []) (λ operations k. (Times t [] operations (fair_is held (at stages.Moment w) t operations fair k.1) k.0, agrees_moment held w t [] operations k.1)) h

-- a turn
pub turns : {P : Type 0} (asked : P → List Call → Type 0) (held : List Held) (w : Phase) (p : P) → Has asked p (AreKept held (at stages.Turn w)) → Has asked p (λ operations. AreKept held (at (stages.Room 0) w) (Did (Happened Turn []) ∷ operations))
turns asked held w p h = did asked (AreKept held (at stages.Turn w)) (AreKept held (at (stages.Room 0) w)) p (Happened Turn []) (λ operations k. (Does (Happened Turn []) operations tt k.0, agrees_turn held w [] operations k.1)) h

-- room
pub gives_room : {P : Type 0} (asked : P → List Call → Type 0) (held : List Held) (w : Phase) (from c : ℕ) (p : P) → ((d : ℕ) → from ≤ d → d < c → (held_by d held).key ≡ None) → Has asked p (AreKept held (at (stages.Room from) w)) → Has asked p (λ operations. AreKept held (at (stages.Handed c) w) (Did (Happened (Room c 18446744073709551615) []) ∷ operations))
gives_room asked held w from c p none h = did asked (AreKept held (at (stages.Room from) w)) (AreKept held (at (stages.Handed c) w)) p (Happened (Room c 18446744073709551615) []) (λ operations k. (Does (Happened (Room c 18446744073709551615) []) operations tt k.0, agrees_room held w from c [] operations none k.1)) h

-- the round goes on
pub goes_on : {P : Type 0} (asked : P → List Call → Type 0) (held : List Held) (phase next : Phase) (p : P) → ((c : ℕ) → key_come c phase ≡ key_come c next) → ((operations : List Operation) → IsInPhase held phase operations → IsInPhase held next operations) → Has asked p (AreKept held phase) → Has asked p (AreKept held next)
goes_on asked held phase next p same is h = so asked (AreKept held phase) (AreKept held next) p (λ operations k. (k.0, agrees_phase held phase next operations same (is operations k.1.round) k.1)) h

-- from a stage of which nothing is known but how the round stands
pub goes_to : {P : Type 0} (asked : P → List Call → Type 0) (held : List Held) (from next : Stage) (w : Phase) (p : P) → ((c : ℕ) → key_at c from ≡ key_at c next) → ((operations : List Operation) → IsAtStage held from operations → IsAtStage held next operations) → (next ≡ stages.Over → ⊥) → IsPast from → Has asked p (AreKept held (at from w)) → Has asked p (AreKept held (at next w))
goes_to asked held from next w p same is not late h = goes_on asked held (at from w) (at next w) p same
    (λ operations k. record { stage = is operations k.stage; clocked = let c = k.clocked in record { asked = c.asked; clock = c.clock; quiet = c.quiet; told = c.told; read = c.read; over = λ e. absurd (not e) }; stopped = k.stopped; ordered = λ s e. k.ordered late e }) h

-- so a link that is running, in other words
pub moves_to : {P : Type 0} (asked : P → List Call → Type 0) (link : LiveLink P) (from next : Stage) → ((c : ℕ) → key_at c from ≡ key_at c next) → ((operations : List Operation) → IsAtStage (held_of link.connections.now.items) from operations → IsAtStage (held_of link.connections.now.items) next operations) → (next ≡ stages.Over → ⊥) → IsPast from → link.phase.stage ≡ from → IsRunning asked link →
    (link.has_failed ≡ false) × Has asked link.ports.now (AreKept (held_of link.connections.now.items) (at next link.phase))
moves_to asked link from next same is not late e h = (h.0, goes_to asked (held_of link.connections.now.items) from next link.phase link.ports.now same is not late (subst (λ s. Has asked link.ports.now (AreKept (held_of link.connections.now.items) (at s link.phase))) e h.1))

-- to a stage before the ports are asked for orders
pub goes_early : {P : Type 0} (asked : P → List Call → Type 0) (held : List Held) (from next : Stage) (w : Phase) (p : P) → ((c : ℕ) → key_at c from ≡ key_at c next) → ((operations : List Operation) → IsAtStage held from operations → IsAtStage held next operations) → (next ≡ stages.Over → ⊥) → (IsPast next → ⊥) → Has asked p (AreKept held (at from w)) → Has asked p (AreKept held (at next w))
goes_early asked held from next w p same is not early h = goes_on asked held (at from w) (at next w) p same
    (λ operations k. record { stage = is operations k.stage; clocked = let c = k.clocked in record { asked = c.asked; clock = c.clock; quiet = c.quiet; told = c.told; read = c.read; over = λ e. absurd (not e) }; stopped = k.stopped; ordered = λ s. absurd (early s) }) h

-- what a client's connection was handed is written; the next client's turn comes
pub leaves : {P : Type 0} (asked : P → List Call → Type 0) (held : List Held) (w : Phase) (c from : ℕ) (p : P) → from ≤ c + 1 → Has asked p (AreKept held (at (stages.Handed c) w)) → Has asked p (AreKept held (at (stages.Room from) w))
leaves asked held w c from p within h = so asked (AreKept held (at (stages.Handed c) w)) (AreKept held (at (stages.Room from) w)) p (λ operations k. (k.0, agrees_handed held w c from operations within k.1)) h

-- and all are done with
pub is_over : {P : Type 0} (asked : P → List Call → Type 0) (held : List Held) (w : Phase) (from : ℕ) (p : P) → ((d : ℕ) → from ≤ d → (held_by d held).key ≡ None) → HaveAll (length held) w.stopping → w.told ≡ w.clock → Has asked p (AreKept held (at (stages.Room from) w)) → Has asked p (AreKept held (at stages.Over w))
is_over asked held w from p none all on_time h = so asked (AreKept held (at (stages.Room from) w)) (AreKept held (at stages.Over w)) p (λ operations k. (k.0, agrees_over held w from operations none all on_time k.1)) h
