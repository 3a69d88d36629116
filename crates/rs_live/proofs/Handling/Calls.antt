-- What is known behind a call of the ports, or a step of the core's link, in other words.
use Rattle.std.proofs.Common.{◌≡◌, ℕ, Bool, true, false, List, [], ◌∷◌, refl, sym, subst, ◌∙◌}
use Rattle.rs_core.specs.declared.links.Event.TheVariants.{Stop}
use Rattle.rs_core.specs.Drives.Steps.{Step, Happened}
use Rattle.rs_live.specs.declared.live_link.LiveLink.{LiveLink}
use Rattle.rs_live.specs.declared.live_link.Phase.{Phase}
use Rattle.rs_live.specs.declared.live_link.Stage.{Stage}
use Rattle.rs_live.specs.Calls.{Call, IsGood, IsFailedAccept}
use Rattle.rs_live.specs.Operations.{Operation, Asked, Did, calls}
use Rattle.rs_live.specs.Keeping.{Held, IsPlain, at, before, held_by, held_of, nothing}
use Rattle.rs_live.specs.Handled.{Begun, Asks, EndBy, By, Has, AreKept, AreEndedBy, Keeps, IsRunning, Follows, On, Halts, Gives}
use Rattle.rs_live.specs.Leaving.{LeavesPorts}
use Rattle.rs_live.proofs.Agreeing.Connections.{agrees_asked}
use Rattle.rs_live.proofs.Agreeing.Rounds.{agrees_begun}

-- the ports were asked one call more
abbrev pub AsksMore : {P : Type 0} → (P → List Call → Type 0) → P → Call → P → Type 0
AsksMore asked a call b = (cs : List Call) → asked a cs → asked b (call ∷ cs)

-- and two
abbrev pub AsksTwo : {P : Type 0} → (P → List Call → Type 0) → P → Call → Call → P → Type 0
AsksTwo asked a first second b = (cs : List Call) → asked a cs → asked b (second ∷ first ∷ cs)

-- what is known of the operations, in other words
pub so : {P : Type 0} (asked : P → List Call → Type 0) (Is So : List Operation → Type 0) (p : P) → ((operations : List Operation) → Is operations → So operations) → Has asked p Is → Has asked p So
so asked Is So p f h = record { operations = h.operations; are = f h.operations h.are; were = h.were }

-- a step was done
pub did : {P : Type 0} (asked : P → List Call → Type 0) (Is So : List Operation → Type 0) (p : P) (step : Step) → ((operations : List Operation) → Is operations → So (Did step ∷ operations)) → Has asked p Is → Has asked p (λ operations. So (Did step ∷ operations))
did asked Is So p step f h = record { operations = h.operations; are = f h.operations h.are; were = h.were }

-- one call more
pub more : {P : Type 0} (asked : P → List Call → Type 0) (Is So : List Operation → Type 0) (a b : P) (call : Call) → AsksMore asked a call b → ((operations : List Operation) → Is operations → So (Asked call ∷ operations)) → Has asked a Is → Has asked b So
more asked Is So a b call m f h = record { operations = Asked call ∷ h.operations; are = f h.operations h.are; were = m (calls h.operations) h.were }

-- none more
pub none_more : {P : Type 0} (asked : P → List Call → Type 0) (Is : List Operation → Type 0) (a b : P) → ((cs : List Call) → asked a cs → asked b cs) → Has asked a Is → Has asked b Is
none_more asked Is a b same h = record { operations = h.operations; are = h.are; were = same (calls h.operations) h.were }

-- two calls more
pub two_more : {P : Type 0} (asked : P → List Call → Type 0) (Is So : List Operation → Type 0) (a b : P) (first second : Call) → AsksTwo asked a first second b → ((operations : List Operation) → Is operations → So (Asked second ∷ Asked first ∷ operations)) → Has asked a Is → Has asked b So
two_more asked Is So a b first second m f h = record { operations = Asked second ∷ Asked first ∷ h.operations; are = f h.operations h.are; were = m (calls h.operations) h.were }

-- a call of which nothing comes, and what the link keeps
pub asks : {P : Type 0} (asked : P → List Call → Type 0) (held : List Held) (phase : Phase) (a b : P) (call : Call) → AsksMore asked a call b → IsGood call → IsPlain call → Has asked a (AreKept held phase) → Has asked b (AreKept held phase)
asks asked held phase a b call m good plain h = more asked (AreKept held phase) (AreKept held phase) a b call m (λ operations k. (Asks call operations good k.0, agrees_asked held phase call operations plain k.1)) h

-- the last call was such a one
pub ends : {P : Type 0} (asked : P → List Call → Type 0) (Is : Call → Type 0) (held : List Held) (phase : Phase) (a b : P) (call : Call) → AsksMore asked a call b → Is call → IsPlain call → Has asked a (AreKept held phase) → Has asked b (AreEndedBy Is held phase)
ends asked Is held phase a b call m is plain h = more asked (AreKept held phase) (AreEndedBy Is held phase) a b call m (λ operations k. (By call operations is k.0, agrees_asked held phase call operations plain k.1)) h

-- of the end alone
pub end_alone : {P : Type 0} (asked : P → List Call → Type 0) (Is : Call → Type 0) (held : List Held) (phase : Phase) (p : P) → Has asked p (AreEndedBy Is held phase) → Has asked p (EndBy Is)
end_alone asked Is held phase p h = so asked (AreEndedBy Is held phase) (EndBy Is) p (λ operations k. k.0) h

-- nothing was asked
pub unasked : {P : Type 0} (asked : P → List Call → Type 0) (p : P) → asked p [] → Has asked p (λ operations. operations ≡ [])
unasked asked p h = record { operations = []; are = refl; were = h }

pub begun : {P : Type 0} (asked : P → List Call → Type 0) (held : List Held) (p : P) → ((c : ℕ) → held_by c held ≡ nothing) → asked p [] → Has asked p (AreKept held before)
begun asked held p none h = record { operations = []; are = (Begun, agrees_begun held none); were = h }

-- what a link at a stage keeps
pub at_phase : {P : Type 0} (asked : P → List Call → Type 0) (link : LiveLink P) (stage : Stage) → link.phase.stage ≡ stage → Keeps asked link → Has asked link.ports.now (AreKept (held_of link.connections.now.items) (at stage link.phase))
at_phase asked link stage e h = subst (λ s. Has asked link.ports.now (AreKept (held_of link.connections.now.items) (at s link.phase))) e h

-- and where such a call was the last
pub ended_at : {P : Type 0} (asked : P → List Call → Type 0) (Is : Call → Type 0) (link : LiveLink P) (stage : Stage) → link.phase.stage ≡ stage → Has asked link.ports.now (AreEndedBy Is (held_of link.connections.now.items) link.phase) → Has asked link.ports.now (AreEndedBy Is (held_of link.connections.now.items) (at stage link.phase))
ended_at asked Is link stage e h = subst (λ s. Has asked link.ports.now (AreEndedBy Is (held_of link.connections.now.items) (at s link.phase))) e h

-- a step of a link that has not failed, with these held, in this phase
pub follows : {P : Type 0} (asked : P → List Call → Type 0) (step : Step) (link : LiveLink P) (has_failed : Bool) (held : List Held) (phase : Phase) → has_failed ≡ false → held_of link.connections.now.items ≡ held → link.phase ≡ phase → Has asked link.ports.now (λ operations. AreKept held phase (Did step ∷ operations)) → Follows asked step link has_failed
follows asked step link has_failed held phase fine same is h =
    subst (λ b. Follows asked step link b) (sym fine) (On (subst (λ ks. Has asked link.ports.now (λ operations. AreKept ks link.phase (Did step ∷ operations))) (sym same) (subst (λ p. Has asked link.ports.now (λ operations. AreKept held p (Did step ∷ operations))) (sym is) h)))

-- no connection can be accepted any more
pub halts : {P : Type 0} (asked : P → List Call → Type 0) (piece : List ℕ) (link : LiveLink P) → link.has_failed ≡ true → Has asked link.ports.now (EndBy IsFailedAccept) → Gives asked Stop piece link
halts asked piece link e h text = subst (λ b. Follows asked (Happened Stop []) link b) (sym e) (Halts [] refl h)

-- with these held too
pub kept_at : {P : Type 0} (asked : P → List Call → Type 0) (link : LiveLink P) (held : List Held) (phase : Phase) (p : P) → held_of link.connections.now.items ≡ held → link.phase ≡ phase → link.ports.now ≡ p → Keeps asked link → Has asked p (AreKept held phase)
kept_at asked link held phase p same is where_to h = subst (λ q. Has asked q (AreKept held phase)) where_to (subst (λ ks. Has asked link.ports.now (AreKept ks phase)) same (subst (λ q. Has asked link.ports.now (AreKept (held_of link.connections.now.items) q)) is h))

-- so of a link that keeps this
pub keeps_at : {P : Type 0} (asked : P → List Call → Type 0) (link : LiveLink P) (held : List Held) (phase : Phase) (p : P) → held_of link.connections.now.items ≡ held → link.phase ≡ phase → link.ports.now ≡ p → Has asked p (AreKept held phase) → Keeps asked link
keeps_at asked link held phase p same is where_to h = subst (λ ks. Has asked link.ports.now (AreKept ks link.phase)) (sym same) (subst (λ q. Has asked link.ports.now (AreKept held q)) (sym is) (subst (λ q. Has asked q (AreKept held phase)) (sym where_to) h))

-- so of a link whose ports were asked no more
pub left_running : {P : Type 0} (asked : P → List Call → Type 0) (old new : LiveLink P) → LeavesPorts old new → IsRunning asked old → IsRunning asked new
left_running asked old new left h = (left.failed ∙ h.0, keeps_at asked new (held_of old.connections.now.items) old.phase old.ports.now left.held left.phase left.unasked h.1)

-- a step of a link whose ports were asked no more
pub follows_at : {P : Type 0} (asked : P → List Call → Type 0) (step : Step) (link : LiveLink P) (has_failed : Bool) (held : List Held) (phase : Phase) (p : P) → has_failed ≡ false → held_of link.connections.now.items ≡ held → link.phase ≡ phase → link.ports.now ≡ p → Has asked p (λ operations. AreKept held phase (Did step ∷ operations)) → Follows asked step link has_failed
follows_at asked step link has_failed held phase p fine same is where_to h = follows asked step link has_failed held phase fine same is (subst (λ q. Has asked q (λ operations. AreKept held phase (Did step ∷ operations))) (sym where_to) h)
