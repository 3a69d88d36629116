-- What each client has, and how far the round has come, one operation later.
use Rattle.std.proofs.Common.{◌≡◌, ◌≢◌, ◌<◌, ◌≤◌, ◌==◌, inl, inr, ℕ, suc, zero, Bool, true, false, List, [], ◌∷◌, length, Option, Some, None, refl, sym, subst, ap, ◌∙◌, arith}
use Rattle.std.specs.Prelude.{IsSome, IsTrue, ⊤, if◌then◌else◌}
use Rattle.std.proofs.lemmas.Bool.{cases_eq, cases_lt, false≢true}
use Rattle.std.proofs.lemmas.Bool.Decides.{nat_tests}
use Rattle.std.proofs.lemmas.List.{get_or-set_same, get_or-set_other, length-set}
use Rattle.rs_core.specs.declared.links.Event.TheVariants.{Opened, Octets, Moment, Commanded, Turn, Room, Lost, Rules, Stop}
use Rattle.rs_session.specs.declared.command.Command.TheVariants as commands
use Rattle.rs_control.specs.declared.order.Order.TheVariants as orders
use Rattle.rs_core.specs.Drives.Steps.{Step, Happened, Begin, Busy, Offer, Memory, End, Replaced}
use Rattle.rs_live.specs.declared.ports.Line.TheVariants as lines
use Rattle.rs_live.specs.declared.live_link.Phase.{Phase}
use Rattle.rs_live.specs.declared.live_link.Stage.{Stage}
use Rattle.rs_live.specs.declared.live_link.Stage.TheVariants as stages
use Rattle.rs_live.specs.declared.live_link.Stopping.{Stopping}
use Rattle.rs_live.specs.Calls.{Call, Waited, Accepted, Read, Wrote, Closed, Timed, Fetched, Ordered, Printed, Logged}
use Rattle.rs_live.specs.Operations.{Operation, Asked, Did}
use Rattle.rs_live.specs.Keys.{come, or_else}
use Rattle.rs_live.specs.Waiting.{where_one}
use Rattle.rs_live.specs.Orders.{HasOrdered, is_down, end_of, IsStopped}
use Rattle.rs_live.specs.Rounds.{IsTimed, IsTurned, HasRoom}
use Rattle.rs_live.specs.Keeping.{Held, AreStopped, HaveAll, IsAtStage, IsClocked, IsInPhase, IsPlain, change, had_by, held_by, nothing, with_down, with_live, with_rest}
use Rattle.rs_live.proofs.Places.{holds, unchanged_past}

-- a choice by two clients, where they are one
pub at_same : {X : Type 0} (d c : ℕ) (x y : X) → d ≡ c → (if d == c then x else y) ≡ x
at_same d c x y e = let is : (d == c) ≡ true = grind (arith, nat_tests, e) in ap (λ t. if t then x else y) is

-- and where they are two
pub at_other : {X : Type 0} (d c : ℕ) (x y : X) → d ≢ c → (if d == c then x else y) ≡ y
at_other d c x y ne = let is : (d == c) ≡ false = grind (arith, nat_tests, ne) in ap (λ t. if t then x else y) is

pub none_unless : (is_some : Bool) (key : Option ℕ) → (IsSome key → IsTrue is_some) → is_some ≡ false → key ≡ None
none_unless is_some None has not = refl
none_unless is_some (Some k) has not = absurd (let f : true ≡ false = sym (has refl) ∙ not in cc)

pub no_some : (key : Option ℕ) → key ≡ None → IsSome key → ⊥
no_some key none some = false≢true (subst (λ k. IsSome k) none some)

-- past the last client nothing is held
pub past : (held : List Held) (c : ℕ) → length held ≤ c → held_by c held ≡ nothing
past [] zero ge = refl
past [] (suc c) ge = refl
past (h ∷ held) zero ge = absurd (omega arith)
past (h ∷ held) (suc c) ge = past held c (omega arith)

-- what each client has after one's was changed
pub held_set : (f : Held → Held) (held : List Held) (c d : ℕ) → (length held ≤ c → f nothing ≡ nothing) → held_by d (change c f held) ≡ (if d == c then f (held_by d held) else held_by d held)
held_set f held c d none = elim (cases_eq d c) [
  | inl e ↦ subst (λ k. held_by k (change c f held) ≡ f (held_by k held)) (sym e) changed ∙ sym (at_same d c (f (held_by d held)) (held_by d held) e)
  | inr ne ↦ get_or-set_other held c d (f (held_by c held)) nothing ne ∙ sym (at_other d c (f (held_by d held)) (held_by d held) ne)
]
  where
    changed : held_by c (change c f held) ≡ f (held_by c held)
    changed = elim (cases_lt c (length held)) [
      | inl lt ↦ get_or-set_same held c (f (held_by c held)) nothing lt
      | inr ge ↦ ap (λ hs. held_by c hs) (unchanged_past f held c ge) ∙ past held c ge ∙ sym (none ge) ∙ ap f (sym (past held c ge))
    ]

-- by these operations one client has it so, and the others have what they had
abbrev pub Changes : (f : Held → Held) → ℕ → List Operation → List Operation → Type 0
Changes f c operations after = (d : ℕ) → had_by d after ≡ (if d == c then f (had_by d operations) else had_by d operations)

pub same_changed : (f : Held → Held) (held : List Held) (c : ℕ) (operations after : List Operation) → (length held ≤ c → f nothing ≡ nothing) → Changes f c operations after → ((d : ℕ) → had_by d operations ≡ held_by d held) → (d : ℕ) → had_by d after ≡ held_by d (change c f held)
same_changed f held c operations after none h same d = h d ∙ ap (λ x. if d == c then f x else x) (same d) ∙ sym (held_set f held c d none)

-- no more clients have a connection
abbrev pub KeepsNone : (Held → Held) → Type 0
KeepsNone f = (h : Held) → IsSome (f h).key → IsSome h.key

had : (f : Held → Held) (held : List Held) (c d : ℕ) → (length held ≤ c → f nothing ≡ nothing) → KeepsNone f → IsSome (held_by d (change c f held)).key → IsSome (held_by d held).key
had f held c d none keeps h = elim (cases_eq d c) [
  | inl e ↦ keeps (held_by d held) (subst (λ x. IsSome x.key) (held_set f held c d none ∙ at_same d c (f (held_by d held)) (held_by d held) e) h)
  | inr ne ↦ subst (λ x. IsSome x.key) (held_set f held c d none ∙ at_other d c (f (held_by d held)) (held_by d held) ne) h
]

pub come_asked : (c : ℕ) (call : Call) (operations : List Operation) → IsPlain call → come c (Asked call ∷ operations) ≡ come c operations
come_asked c (Waited answer) operations is = absurd is
come_asked c (Accepted answer) operations is = refl
come_asked c (Read key piece answer) operations is = refl
come_asked c (Wrote key octets answer) operations is = refl
come_asked c (Closed key) operations is = refl
come_asked c (Timed seconds) operations is = absurd is
come_asked c (Fetched text answer) operations is = refl
come_asked c (Ordered answer) operations is = refl
come_asked c (Printed (lines.Begin d)) operations is = refl
come_asked c (Printed (lines.Busy d)) operations is = refl
come_asked c (Printed (lines.Disabled d)) operations is = refl
come_asked c (Printed lines.Stranger) operations is = absurd is
come_asked c (Printed (lines.Close d)) operations is = refl
come_asked c (Printed (lines.Lost d)) operations is = refl
come_asked c (Printed (lines.Memory d)) operations is = refl
come_asked c (Printed (lines.Rules answer)) operations is = refl
come_asked c (Printed (lines.File fault)) operations is = refl
come_asked c (Logged report) operations is = refl

timed_asked : (call : Call) (operations : List Operation) → IsPlain call → IsTimed operations → IsTimed (Asked call ∷ operations)
timed_asked (Waited answer) operations is h = absurd is
timed_asked (Accepted answer) operations is h = h
timed_asked (Read key piece answer) operations is h = h
timed_asked (Wrote key octets answer) operations is h = h
timed_asked (Closed key) operations is h = h
timed_asked (Timed seconds) operations is h = absurd is
timed_asked (Fetched text answer) operations is h = h
timed_asked (Ordered answer) operations is h = h
timed_asked (Printed line) operations is h = h
timed_asked (Logged report) operations is h = h

turned_asked : (call : Call) (operations : List Operation) → IsPlain call → IsTurned operations → IsTurned (Asked call ∷ operations)
turned_asked (Waited answer) operations is h = absurd is
turned_asked (Accepted answer) operations is h = h
turned_asked (Read key piece answer) operations is h = h
turned_asked (Wrote key octets answer) operations is h = h
turned_asked (Closed key) operations is h = h
turned_asked (Timed seconds) operations is h = absurd is
turned_asked (Fetched text answer) operations is h = h
turned_asked (Ordered answer) operations is h = h
turned_asked (Printed line) operations is h = h
turned_asked (Logged report) operations is h = h

ordered_asked : (call : Call) (operations : List Operation) → IsPlain call → HasOrdered operations → HasOrdered (Asked call ∷ operations)
ordered_asked (Waited answer) operations is h = absurd is
ordered_asked (Accepted answer) operations is h = h
ordered_asked (Read key piece answer) operations is h = h
ordered_asked (Wrote key octets answer) operations is h = h
ordered_asked (Closed key) operations is h = h
ordered_asked (Timed seconds) operations is h = absurd is
ordered_asked (Fetched text answer) operations is h = h
ordered_asked (Ordered answer) operations is h = tt
ordered_asked (Printed line) operations is h = h
ordered_asked (Logged report) operations is h = h

stage_asked : (held : List Held) (stage : Stage) (call : Call) (operations : List Operation) → IsPlain call → IsAtStage held stage operations → IsAtStage held stage (Asked call ∷ operations)
stage_asked held stages.Rules call operations is h = h
stage_asked held stages.Start call operations is h = h
stage_asked held (stages.Orders n) call operations is h = λ some. ordered_asked call operations is (h some)
stage_asked held stages.Accept call operations is h = h
stage_asked held (stages.Come c incoming) call operations is h = h
stage_asked held stages.Read call operations is h = h
stage_asked held stages.Moment call operations is h = h
stage_asked held stages.Turn call operations is h = timed_asked call operations is h
stage_asked held (stages.Room from) call operations is h = (turned_asked call operations is h.0, h.1)
stage_asked held (stages.Handed c) call operations is h = (turned_asked call operations is h.0, h.1)
stage_asked held stages.Over call operations is h = (turned_asked call operations is h.0, h.1)

pub clocked_asked : (held : List Held) (phase : Phase) (call : Call) (operations : List Operation) → IsPlain call → IsClocked held phase operations → IsClocked held phase (Asked call ∷ operations)
clocked_asked held phase (Waited answer) operations is h = absurd is
clocked_asked held phase (Accepted answer) operations is h = record { asked = h.asked; clock = h.clock; quiet = h.quiet; told = h.told; read = h.read; over = h.over }
clocked_asked held phase (Read key piece answer) operations is h = record { asked = h.asked; clock = h.clock; quiet = h.quiet; told = h.told; read = λ c below some. inr (h.read c below some); over = h.over }
clocked_asked held phase (Wrote key octets answer) operations is h = record { asked = h.asked; clock = h.clock; quiet = h.quiet; told = h.told; read = h.read; over = h.over }
clocked_asked held phase (Closed key) operations is h = record { asked = h.asked; clock = h.clock; quiet = h.quiet; told = h.told; read = h.read; over = h.over }
clocked_asked held phase (Timed seconds) operations is h = absurd is
clocked_asked held phase (Fetched text answer) operations is h = record { asked = h.asked; clock = h.clock; quiet = h.quiet; told = h.told; read = h.read; over = h.over }
clocked_asked held phase (Ordered answer) operations is h = record { asked = h.asked; clock = h.clock; quiet = h.quiet; told = h.told; read = h.read; over = h.over }
clocked_asked held phase (Printed line) operations is h = record { asked = h.asked; clock = h.clock; quiet = h.quiet; told = h.told; read = h.read; over = h.over }
clocked_asked held phase (Logged report) operations is h = record { asked = h.asked; clock = h.clock; quiet = h.quiet; told = h.told; read = h.read; over = h.over }

-- so whether a client is kept down, which was stopped, and whether the server is to end
pub down_asked : (c : ℕ) (call : Call) (operations : List Operation) → IsPlain call → is_down c (Asked call ∷ operations) ≡ is_down c operations
down_asked c (Waited answer) operations is = absurd is
down_asked c (Accepted answer) operations is = refl
down_asked c (Read key piece answer) operations is = refl
down_asked c (Wrote key octets answer) operations is = refl
down_asked c (Closed key) operations is = refl
down_asked c (Timed seconds) operations is = absurd is
down_asked c (Fetched text answer) operations is = refl
down_asked c (Ordered None) operations is = refl
down_asked c (Ordered (Some (orders.Disable d text))) operations is = refl
down_asked c (Ordered (Some (orders.Enable d))) operations is = absurd is
down_asked c (Ordered (Some (orders.Refresh d))) operations is = refl
down_asked c (Ordered (Some orders.Reload)) operations is = refl
down_asked c (Ordered (Some orders.End)) operations is = absurd is
down_asked c (Printed line) operations is = refl
down_asked c (Logged report) operations is = refl

pub had_asked : (c : ℕ) (call : Call) (operations : List Operation) → IsPlain call → had_by c (Asked call ∷ operations) ≡ had_by c operations
had_asked c call operations is = ap (λ b. holds (had_by c operations).key (had_by c operations).waiting (had_by c operations).rest_key (had_by c operations).rest b) (down_asked c call operations is)

stopped_asked : (c : ℕ) (call : Call) (operations : List Operation) → IsPlain call → IsStopped c operations → IsStopped c (Asked call ∷ operations)
stopped_asked c (Waited answer) operations is h = absurd is
stopped_asked c (Accepted answer) operations is h = h
stopped_asked c (Read key piece answer) operations is h = h
stopped_asked c (Wrote key octets answer) operations is h = h
stopped_asked c (Closed key) operations is h = h
stopped_asked c (Timed seconds) operations is h = absurd is
stopped_asked c (Fetched text answer) operations is h = h
stopped_asked c (Ordered None) operations is h = h
stopped_asked c (Ordered (Some (orders.Disable d text))) operations is h = h
stopped_asked c (Ordered (Some (orders.Enable d))) operations is h = absurd is
stopped_asked c (Ordered (Some (orders.Refresh d))) operations is h = h
stopped_asked c (Ordered (Some orders.Reload)) operations is h = h
stopped_asked c (Ordered (Some orders.End)) operations is h = absurd is
stopped_asked c (Printed line) operations is h = h
stopped_asked c (Logged report) operations is h = h

end_asked : (call : Call) (operations : List Operation) → IsPlain call → end_of (Asked call ∷ operations) ≡ end_of operations
end_asked (Waited answer) operations is = absurd is
end_asked (Accepted answer) operations is = refl
end_asked (Read key piece answer) operations is = refl
end_asked (Wrote key octets answer) operations is = refl
end_asked (Closed key) operations is = refl
end_asked (Timed seconds) operations is = absurd is
end_asked (Fetched text answer) operations is = refl
end_asked (Ordered None) operations is = refl
end_asked (Ordered (Some (orders.Disable d text))) operations is = refl
end_asked (Ordered (Some (orders.Enable d))) operations is = absurd is
end_asked (Ordered (Some (orders.Refresh d))) operations is = refl
end_asked (Ordered (Some orders.Reload)) operations is = refl
end_asked (Ordered (Some orders.End)) operations is = absurd is
end_asked (Printed line) operations is = refl
end_asked (Logged report) operations is = refl

pub all_asked : (stopping : Option Stopping) (call : Call) (operations : List Operation) → IsPlain call → AreStopped stopping operations → AreStopped stopping (Asked call ∷ operations)
all_asked stopping call operations is h = (λ e c. stopped_asked c call operations is (h.0 e c), λ s e. (end_asked call operations is ∙ (h.1 s e).0, λ c below. stopped_asked c call operations is ((h.1 s e).1 c below)))

pub phase_asked : (held : List Held) (phase : Phase) (call : Call) (operations : List Operation) → IsPlain call → IsInPhase held phase operations → IsInPhase held phase (Asked call ∷ operations)
phase_asked held phase call operations is h = record { stage = stage_asked held phase.stage call operations is h.stage; clocked = clocked_asked held phase call operations is h.clocked; stopped = all_asked phase.stopping call operations is h.stopped; ordered = λ s e. ordered_asked call operations is (h.ordered s e) }

-- by this step the core is given no octets, no moment, no command, no turn and no room
abbrev pub IsQuiet : Step → Type 0
IsQuiet (Happened (Octets c n) octets) = ⊥
IsQuiet (Happened (Moment t) octets) = ⊥
IsQuiet (Happened (Commanded c command) octets) = ⊥
IsQuiet (Happened Turn octets) = ⊥
IsQuiet (Happened (Room c n) octets) = ⊥
IsQuiet step = ⊤

timed_did : (step : Step) (operations : List Operation) → IsQuiet step → IsTimed operations → IsTimed (Did step ∷ operations)
timed_did (Happened (Opened c) octets) operations is h = h
timed_did (Happened (Octets c n) octets) operations is h = absurd is
timed_did (Happened (Moment t) octets) operations is h = absurd is
timed_did (Happened (Commanded c command) octets) operations is h = absurd is
timed_did (Happened Turn octets) operations is h = absurd is
timed_did (Happened (Room c n) octets) operations is h = absurd is
timed_did (Happened (Lost c) octets) operations is h = h
timed_did (Happened Rules octets) operations is h = h
timed_did (Happened Stop octets) operations is h = h
timed_did (Begin c) operations is h = h
timed_did (Busy c) operations is h = h
timed_did (Offer c octets answer) operations is h = h
timed_did (Memory c) operations is h = h
timed_did (End c) operations is h = h
timed_did (Replaced answer) operations is h = h

turned_did : (step : Step) (operations : List Operation) → IsQuiet step → IsTurned operations → IsTurned (Did step ∷ operations)
turned_did (Happened (Opened c) octets) operations is h = h
turned_did (Happened (Octets c n) octets) operations is h = absurd is
turned_did (Happened (Moment t) octets) operations is h = absurd is
turned_did (Happened (Commanded c command) octets) operations is h = absurd is
turned_did (Happened Turn octets) operations is h = absurd is
turned_did (Happened (Room c n) octets) operations is h = absurd is
turned_did (Happened (Lost c) octets) operations is h = h
turned_did (Happened Rules octets) operations is h = h
turned_did (Happened Stop octets) operations is h = h
turned_did (Begin c) operations is h = h
turned_did (Busy c) operations is h = h
turned_did (Offer c octets answer) operations is h = h
turned_did (Memory c) operations is h = h
turned_did (End c) operations is h = h
turned_did (Replaced answer) operations is h = h

room_did : (d : ℕ) (step : Step) (operations : List Operation) → IsQuiet step → HasRoom d operations → HasRoom d (Did step ∷ operations)
room_did d (Happened (Opened c) octets) operations is h = h
room_did d (Happened (Octets c n) octets) operations is h = absurd is
room_did d (Happened (Moment t) octets) operations is h = absurd is
room_did d (Happened (Commanded c command) octets) operations is h = absurd is
room_did d (Happened Turn octets) operations is h = absurd is
room_did d (Happened (Room c n) octets) operations is h = absurd is
room_did d (Happened (Lost c) octets) operations is h = h
room_did d (Happened Rules octets) operations is h = h
room_did d (Happened Stop octets) operations is h = h
room_did d (Begin c) operations is h = h
room_did d (Busy c) operations is h = h
room_did d (Offer c octets answer) operations is h = h
room_did d (Memory c) operations is h = h
room_did d (End c) operations is h = h
room_did d (Replaced answer) operations is h = h

stage_did : (held : List Held) (stage : Stage) (step : Step) (operations : List Operation) → IsQuiet step → IsAtStage held stage operations → IsAtStage held stage (Did step ∷ operations)
stage_did held stages.Rules step operations is h = h
stage_did held stages.Start step operations is h = h
stage_did held (stages.Orders n) step operations is h = h
stage_did held stages.Accept step operations is h = h
stage_did held (stages.Come c incoming) step operations is h = h
stage_did held stages.Read step operations is h = h
stage_did held stages.Moment step operations is h = h
stage_did held stages.Turn step operations is h = timed_did step operations is h
stage_did held (stages.Room from) step operations is h = (turned_did step operations is h.0, λ c below some. room_did c step operations is (h.1 c below some))
stage_did held (stages.Handed c) step operations is h = (turned_did step operations is h.0, λ c below some. room_did c step operations is (h.1 c below some))
stage_did held stages.Over step operations is h = (turned_did step operations is h.0, λ c some. room_did c step operations is (h.1 c some))

-- by this step the core is given no moment
abbrev pub IsUntimed : Step → Type 0
IsUntimed (Happened (Moment t) octets) = ⊥
IsUntimed step = ⊤

pub clocked_did : (held : List Held) (phase : Phase) (step : Step) (operations : List Operation) → IsUntimed step → IsClocked held phase operations → IsClocked held phase (Did step ∷ operations)
clocked_did held phase (Happened (Opened c) octets) operations is h = record { asked = h.asked; clock = h.clock; quiet = h.quiet; told = h.told; read = h.read; over = h.over }
clocked_did held phase (Happened (Octets c n) octets) operations is h = record { asked = h.asked; clock = h.clock; quiet = h.quiet; told = h.told; read = h.read; over = h.over }
clocked_did held phase (Happened (Moment t) octets) operations is h = absurd is
clocked_did held phase (Happened (Commanded c command) octets) operations is h = record { asked = h.asked; clock = h.clock; quiet = h.quiet; told = h.told; read = h.read; over = h.over }
clocked_did held phase (Happened Turn octets) operations is h = record { asked = h.asked; clock = h.clock; quiet = h.quiet; told = h.told; read = h.read; over = h.over }
clocked_did held phase (Happened (Room c n) octets) operations is h = record { asked = h.asked; clock = h.clock; quiet = h.quiet; told = h.told; read = h.read; over = h.over }
clocked_did held phase (Happened (Lost c) octets) operations is h = record { asked = h.asked; clock = h.clock; quiet = h.quiet; told = h.told; read = h.read; over = h.over }
clocked_did held phase (Happened Rules octets) operations is h = record { asked = h.asked; clock = h.clock; quiet = h.quiet; told = h.told; read = h.read; over = h.over }
clocked_did held phase (Happened Stop octets) operations is h = record { asked = h.asked; clock = h.clock; quiet = h.quiet; told = h.told; read = h.read; over = h.over }
clocked_did held phase (Begin d) operations is h = record { asked = h.asked; clock = h.clock; quiet = h.quiet; told = h.told; read = λ c below some. inr (h.read c below some); over = h.over }
clocked_did held phase (Busy c) operations is h = record { asked = h.asked; clock = h.clock; quiet = h.quiet; told = h.told; read = h.read; over = h.over }
clocked_did held phase (Offer c octets answer) operations is h = record { asked = h.asked; clock = h.clock; quiet = h.quiet; told = h.told; read = h.read; over = h.over }
clocked_did held phase (Memory c) operations is h = record { asked = h.asked; clock = h.clock; quiet = h.quiet; told = h.told; read = h.read; over = h.over }
clocked_did held phase (End c) operations is h = record { asked = h.asked; clock = h.clock; quiet = h.quiet; told = h.told; read = h.read; over = h.over }
clocked_did held phase (Replaced answer) operations is h = record { asked = h.asked; clock = h.clock; quiet = h.quiet; told = h.told; read = h.read; over = h.over }

quiet_untimed : (step : Step) → IsQuiet step → IsUntimed step
quiet_untimed (Happened (Opened c) octets) is = tt
quiet_untimed (Happened (Octets c n) octets) is = absurd is
quiet_untimed (Happened (Moment t) octets) is = absurd is
quiet_untimed (Happened (Commanded c command) octets) is = absurd is
quiet_untimed (Happened Turn octets) is = absurd is
quiet_untimed (Happened (Room c n) octets) is = absurd is
quiet_untimed (Happened (Lost c) octets) is = tt
quiet_untimed (Happened Rules octets) is = tt
quiet_untimed (Happened Stop octets) is = tt
quiet_untimed (Begin d) is = tt
quiet_untimed (Busy c) is = tt
quiet_untimed (Offer c octets answer) is = tt
quiet_untimed (Memory c) is = tt
quiet_untimed (End c) is = tt
quiet_untimed (Replaced answer) is = tt

stopped_did : (c : ℕ) (step : Step) (operations : List Operation) → IsStopped c operations → IsStopped c (Did step ∷ operations)
stopped_did c (Happened (Opened d) octets) operations h = h
stopped_did c (Happened (Octets d n) octets) operations h = h
stopped_did c (Happened (Moment t) octets) operations h = h
stopped_did c (Happened (Commanded d (commands.Stop text)) octets) operations h = inr h
stopped_did c (Happened (Commanded d commands.Refresh) octets) operations h = h
stopped_did c (Happened Turn octets) operations h = h
stopped_did c (Happened (Room d n) octets) operations h = h
stopped_did c (Happened (Lost d) octets) operations h = h
stopped_did c (Happened Rules octets) operations h = h
stopped_did c (Happened Stop octets) operations h = h
stopped_did c (Begin d) operations h = h
stopped_did c (Busy d) operations h = h
stopped_did c (Offer d octets answer) operations h = h
stopped_did c (Memory d) operations h = h
stopped_did c (End d) operations h = h
stopped_did c (Replaced answer) operations h = h

pub all_did : (stopping : Option Stopping) (step : Step) (operations : List Operation) → AreStopped stopping operations → AreStopped stopping (Did step ∷ operations)
all_did stopping step operations h = (λ e c. stopped_did c step operations (h.0 e c), λ s e. ((h.1 s e).0, λ c below. stopped_did c step operations ((h.1 s e).1 c below)))

pub phase_did : (held : List Held) (phase : Phase) (step : Step) (operations : List Operation) → IsQuiet step → IsInPhase held phase operations → IsInPhase held phase (Did step ∷ operations)
phase_did held phase step operations is h = record { stage = stage_did held phase.stage step operations is h.stage; clocked = clocked_did held phase step operations (quiet_untimed step is) h.clocked; stopped = all_did phase.stopping step operations h.stopped; ordered = h.ordered }

stage_changed : (f : Held → Held) (held : List Held) (c : ℕ) (stage : Stage) (operations : List Operation) → (length held ≤ c → f nothing ≡ nothing) → KeepsNone f → IsAtStage held stage operations → IsAtStage (change c f held) stage operations
stage_changed f held c stages.Rules operations none keeps h = h
stage_changed f held c stages.Start operations none keeps h = h
stage_changed f held c (stages.Orders n) operations none keeps h = h
stage_changed f held c stages.Accept operations none keeps h = h
stage_changed f held c (stages.Come d incoming) operations none keeps h = subst (λ n. d < n) (sym (length-set held c (f (held_by c held)))) h
stage_changed f held c stages.Read operations none keeps h = h
stage_changed f held c stages.Moment operations none keeps h = h
stage_changed f held c stages.Turn operations none keeps h = h
stage_changed f held c (stages.Room from) operations none keeps h = (h.0, λ d below some. h.1 d below (had f held c d none keeps some))
stage_changed f held c (stages.Handed e) operations none keeps h = (h.0, λ d below some. h.1 d below (had f held c d none keeps some))
stage_changed f held c stages.Over operations none keeps h = (h.0, λ d some. h.1 d (had f held c d none keeps some))

pub clocked_changed : (f : Held → Held) (held : List Held) (c : ℕ) (phase : Phase) (operations : List Operation) → (length held ≤ c → f nothing ≡ nothing) → KeepsNone f → IsClocked held phase operations → IsClocked (change c f held) phase operations
clocked_changed f held c phase operations none keeps h = record { asked = h.asked; clock = h.clock; quiet = h.quiet; told = h.told; read = λ d below some. h.read d below (had f held c d none keeps some); over = λ e. ((h.over e).0, subst (λ n. HaveAll n phase.stopping) (sym (length-set held c (f (held_by c held)))) (h.over e).1) }

pub phase_changed : (f : Held → Held) (held : List Held) (c : ℕ) (phase : Phase) (operations : List Operation) → (length held ≤ c → f nothing ≡ nothing) → KeepsNone f → IsInPhase held phase operations → IsInPhase (change c f held) phase operations
phase_changed f held c phase operations none keeps h = record { stage = stage_changed f held c phase.stage operations none keeps h.stage; clocked = clocked_changed f held c phase operations none keeps h.clocked; stopped = h.stopped; ordered = h.ordered }

-- these operations change what one client has, and nothing else
abbrev pub IsChange : (Held → Held) → ℕ → List Operation → List Operation → Type 0
IsChange f c operations after = Changes f c operations after × ((d : ℕ) → come d after ≡ come d operations)

-- a choice of each part, as one of the whole
pub if_lost : (b : Bool) (h : Held) → holds (if b then None else h.key) (if b then [] else h.waiting) (h.rest_key) (h.rest) (h.is_down) ≡ (if b then with_live None [] h else h)
if_lost true h = refl
if_lost false h = refl

pub if_waits : (b : Bool) (o : List ℕ) (h : Held) → holds (h.key) (if b then o else h.waiting) (h.rest_key) (h.rest) (h.is_down) ≡ (if b then with_live h.key o h else h)
if_waits true o h = refl
if_waits false o h = refl

pub if_rests : (b : Bool) (o : List ℕ) (h : Held) → holds (h.key) (h.waiting) (h.rest_key) (if b then o else h.rest) (h.is_down) ≡ (if b then with_rest h.rest_key o h else h)
if_rests true o h = refl
if_rests false o h = refl

pub if_closed : (b : Bool) (h : Held) → holds (h.key) (h.waiting) (if b then None else h.rest_key) (if b then [] else h.rest) (h.is_down) ≡ (if b then with_rest None [] h else h)
if_closed true h = refl
if_closed false h = refl

pub if_down : (b : Bool) (down : Bool) (h : Held) → holds (h.key) (h.waiting) (h.rest_key) (h.rest) (if b then down else h.is_down) ≡ (if b then with_down down h else h)
if_down true down h = refl
if_down false down h = refl

-- what is left where a session has ended
abbrev pub ended : Held → Held
ended h = record { key = None; waiting = where_one h.key [] h.waiting; rest_key = or_else h.key h.rest_key; rest = where_one h.key h.waiting h.rest; is_down = h.is_down }

-- where there was one, the rest is what waited
pub ended_some : (key : Option ℕ) (octets : List ℕ) (other : Option ℕ) (others : List ℕ) (down : Bool) → IsSome key → holds None [] key octets down ≡ ended (holds key octets other others down)
ended_some (Some key) octets other others down some = refl
ended_some None octets other others down some = absurd (no_some None refl some)

-- where there was none, nothing changes
pub ended_same : (h : Held) → h.key ≡ None → ended h ≡ h
ended_same h none = ap (λ k. holds None (where_one k [] h.waiting) (or_else k h.rest_key) (where_one k h.waiting h.rest) h.is_down) none ∙ ap (λ k. holds k h.waiting h.rest_key h.rest h.is_down) (sym none)

pub if_ended : (b : Bool) (h : Held) → holds (if b then None else h.key) (if b then where_one h.key [] h.waiting else h.waiting) (if b then or_else h.key h.rest_key else h.rest_key) (if b then where_one h.key h.waiting h.rest else h.rest) (h.is_down) ≡ (if b then ended h else h)
if_ended true h = refl
if_ended false h = refl

-- where a connection has come, it is begun
abbrev pub begun_with : Option ℕ → Held → Held
begun_with key h = record { key = or_else key h.key; waiting = where_one key [] h.waiting; rest_key = h.rest_key; rest = h.rest; is_down = h.is_down }

pub if_begun : (b : Bool) (key : Option ℕ) (h : Held) → holds (if b then or_else key h.key else h.key) (if b then where_one key [] h.waiting else h.waiting) (h.rest_key) (h.rest) (h.is_down) ≡ (if b then begun_with key h else h)
if_begun true key h = refl
if_begun false key h = refl
