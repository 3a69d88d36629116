-- What the link keeps, against what was done.
use Rattle.std.specs.Prelude.{◌≡◌, ◌<◌, ◌≤◌, ◌⊎◌, ◌+◌, min, ℕ, suc, ◌==◌, Bool, false, List, [], map, length, get_or, set, Option, Some, None, IsSome, ⊤, if◌then◌else◌}
use Rattle.rs_live.specs.declared.live_link.LiveLink.{LiveLink}
use Rattle.rs_live.specs.declared.live_link.Phase.{Phase}
use Rattle.rs_live.specs.declared.live_link.Stage.{Stage}
use Rattle.rs_live.specs.declared.live_link.Stopping.{Stopping}
use Rattle.rs_live.specs.declared.live_link.Stage.TheVariants.{Rules, Start, Orders, Come, Turn, Room, Handed, Over}
use Rattle.rs_live.specs.declared.connections.ClientConnections.{ClientConnections}
use Rattle.rs_control.specs.declared.order.Order.TheVariants as orders
use Rattle.rs_live.specs.declared.ports.Line.TheVariants as lines
use Rattle.rs_live.specs.Calls.{Call, Waited, Timed, Ordered, Printed}
use Rattle.rs_live.specs.Operations.{Operation}
use Rattle.rs_live.specs.Keys.{come, key_of}
use Rattle.rs_live.specs.Waiting.{waiting, rest_key, rest}
use Rattle.rs_live.specs.Orders.{HasOrdered, is_down, end_of, IsStopped}
use Rattle.rs_live.specs.Rounds.{IsTimed, IsTurned, HasRoom}
use Rattle.rs_live.specs.Moments.{HasAsked, clock_of, quiet_of, told_of, WasRead}

-- what a client has at the ports: the key of its connection and what waits for it, and so of the connection that it had when its
-- session ended; and whether it is kept down
pub record Held : Type 0 where
  pub key : Option ℕ
  pub waiting : List ℕ
  pub rest_key : Option ℕ
  pub rest : List ℕ
  pub is_down : Bool

-- it has no connection, nor one that is being closed
abbrev pub IsApart : Held → Type 0
IsApart held = (held.key ≡ None) × (held.rest_key ≡ None)

-- nothing at all
abbrev pub nothing : Held
nothing = record { key = None; waiting = []; rest_key = None; rest = []; is_down = false }

abbrev pub held_in : ClientConnections → Held
held_in own = record { key = own.live.key; waiting = own.live.out; rest_key = own.closing.key; rest = own.closing.out; is_down = own.is_down }

-- what each client has, by its connections
abbrev pub held_of : List ClientConnections → List Held
held_of connections = map held_in connections

-- what each client has, by a link
abbrev pub all_held : {P : Type 0} → LiveLink P → List Held
all_held link = held_of link.connections.now.items

abbrev pub held_by : ℕ → List Held → Held
held_by c held = get_or held c nothing

-- what a client has, by what was done
abbrev pub had_by : ℕ → List Operation → Held
had_by c operations = record { key = key_of c operations; waiting = waiting c operations; rest_key = rest_key c operations; rest = rest c operations; is_down = is_down c operations }

-- with another connection; and with another one whose session has ended
abbrev pub with_live : Option ℕ → List ℕ → Held → Held
with_live key octets held = record { key = key; waiting = octets; rest_key = held.rest_key; rest = held.rest; is_down = held.is_down }

abbrev pub with_rest : Option ℕ → List ℕ → Held → Held
with_rest key octets held = record { key = held.key; waiting = held.waiting; rest_key = key; rest = octets; is_down = held.is_down }

-- kept down, or no longer
abbrev pub with_down : Bool → Held → Held
with_down is_down held = record { key = held.key; waiting = held.waiting; rest_key = held.rest_key; rest = held.rest; is_down = is_down }

-- where one client has it so
abbrev pub change : ℕ → (Held → Held) → List Held → List Held
change c f held = set held c (f (held_by c held))

-- before the first round
abbrev pub before : Phase
before = record { stage = Over; clock = 0; quiet = 0; told = 0; read_to = 0; stopping = None }

-- at another stage of the same round
abbrev pub at : Stage → Phase → Phase
at stage phase = record { stage = stage; clock = phase.clock; quiet = phase.quiet; told = phase.told; read_to = phase.read_to; stopping = phase.stopping }

-- where the core was given this moment
abbrev pub given : Stage → ℕ → Phase → Phase
given stage t phase = record { stage = stage; clock = phase.clock; quiet = phase.quiet; told = t; read_to = phase.read_to; stopping = phase.stopping }

-- where this client, and each below it, was read
abbrev pub passed : ℕ → Phase → Phase
passed c phase = record { stage = phase.stage; clock = phase.clock; quiet = phase.quiet; told = phase.told; read_to = if c == phase.read_to then min (c + 1) 18446744073709551615 else phase.read_to; stopping = phase.stopping }

-- where a round begins
abbrev pub begun_at : ℕ → ℕ → Phase → Phase
begun_at clock quiet phase = record { stage = Start; clock = clock; quiet = quiet; told = phase.told; read_to = 0; stopping = phase.stopping }

-- where the server is to end
abbrev pub to_end : Stopping → Phase → Phase
to_end stopping phase = record { stage = phase.stage; clock = phase.clock; quiet = phase.quiet; told = phase.told; read_to = phase.read_to; stopping = Some stopping }

-- a fair moment to give to the core, beside so many clients
abbrev pub IsFairBy : ℕ → Phase → ℕ → Type 0
IsFairBy clients phase t = ((t ≡ phase.clock) × ((t ≤ phase.quiet) ⊎ (clients ≤ phase.read_to))) ⊎ ((t ≡ phase.quiet) × (t ≤ phase.clock))

-- the key of a connection of this client that has come and was not answered yet
abbrev pub key_at : ℕ → Stage → Option ℕ
key_at c (Come d incoming) = if c == d then Some incoming.key else None
key_at c stage = None

abbrev pub key_come : ℕ → Phase → Option ℕ
key_come c phase = key_at c phase.stage

-- after the last turn each client below this one that has a connection was given room
abbrev pub HaveRoom : ℕ → List Held → List Operation → Type 0
HaveRoom below held operations = (c : ℕ) → c < below → IsSome (held_by c held).key → HasRoom c operations

-- how far the round has come
abbrev pub IsAtStage : List Held → Stage → List Operation → Type 0
IsAtStage held (Come c incoming) operations = c < length held
IsAtStage held (Orders asked) operations = 0 < asked → HasOrdered operations
IsAtStage held Turn operations = IsTimed operations
IsAtStage held (Room from) operations = IsTurned operations × HaveRoom from held operations
IsAtStage held (Handed c) operations = IsTurned operations × HaveRoom (suc c) held operations
IsAtStage held Over operations = IsTurned operations × ((c : ℕ) → IsSome (held_by c held).key → HasRoom c operations)
IsAtStage held stage operations = ⊤

-- where the server is to end, the core was told to stop each of so many clients
abbrev pub HaveAll : ℕ → Option Stopping → Type 0
HaveAll clients None = ⊤
HaveAll clients (Some stopping) = clients ≤ stopping.told

-- what the clock and the core answered in it, what the core was given, and which clients were read
pub record IsClocked (held : List Held) (phase : Phase) (operations : List Operation) : Type 0 where
  pub asked : HasAsked operations
  pub clock : clock_of operations ≡ phase.clock
  pub quiet : quiet_of operations ≡ phase.quiet
  pub told : told_of operations ≡ phase.told
  pub read : (c : ℕ) → c < phase.read_to → IsSome (held_by c held).key → WasRead c operations
  pub over : phase.stage ≡ Over → (phase.told ≡ phase.clock) × HaveAll (length held) phase.stopping

-- whether the server is to end, since when, and which clients the core was told to stop
abbrev pub AreStopped : Option Stopping → List Operation → Type 0
AreStopped stopping operations = (stopping ≡ None → (c : ℕ) → IsStopped c operations) × ((s : Stopping) → stopping ≡ Some s → (end_of operations ≡ Some s.since) × ((c : ℕ) → c < s.told → IsStopped c operations))

-- in each round the ports are asked for orders before these stages
abbrev pub IsPast : Stage → Type 0
IsPast Rules = ⊥
IsPast Start = ⊥
IsPast (Orders asked) = ⊥
IsPast stage = ⊤

pub record IsInPhase (held : List Held) (phase : Phase) (operations : List Operation) : Type 0 where
  pub stage : IsAtStage held phase.stage operations
  pub clocked : IsClocked held phase operations
  pub stopped : AreStopped phase.stopping operations
  pub ordered : IsPast phase.stage → phase.stopping ≡ None → HasOrdered operations

pub record Agrees (held : List Held) (phase : Phase) (operations : List Operation) : Type 0 where
  pub same : (c : ℕ) → had_by c operations ≡ held_by c held
  pub fresh : (c : ℕ) → come c operations ≡ key_come c phase
  pub round : IsInPhase held phase operations

-- it begins no round, asks no clock, refuses no stranger, and gives no order by which a client is enabled or the server is to end
abbrev pub IsPlain : Call → Type 0
IsPlain (Waited answer) = ⊥
IsPlain (Timed seconds) = ⊥
IsPlain (Ordered (Some (orders.Enable c))) = ⊥
IsPlain (Ordered (Some orders.End)) = ⊥
IsPlain (Printed lines.Stranger) = ⊥
IsPlain call = ⊤
