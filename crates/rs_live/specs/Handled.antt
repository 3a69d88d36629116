-- What comes of each call. What was done last stands first.
use Rattle.std.specs.Prelude.{◌≡◌, ◌≢◌, ℕ, List, [], ◌∷◌, take, drop, Bool, true, false, Option, Some, None, Result, Ok, Err, IsOk, IsSome, ⊤}
use Rattle.rs_core.specs.declared.links.Event.{Event}
use Rattle.rs_core.specs.declared.links.Event.TheVariants.{Opened, Octets, Moment, Turn, Room, Lost, Rules, Commanded, Stop}
use Rattle.rs_core.specs.Drives.Steps.{Step, Happened, Begin, Busy, Offer, Memory, End, Replaced, octets_of}
use Rattle.rs_open.specs.declared.shutdown.ShutdownText.{ShutdownText}
use Rattle.rs_open.specs.Notes.{text_octets}
use Rattle.rs_session.specs.declared.command.Command.TheVariants as commands
use Rattle.rs_control.specs.declared.order.Order.{Order}
use Rattle.rs_control.specs.declared.order.Order.TheVariants as orders
use Rattle.rs_live.specs.declared.ports.Incoming.{Incoming}
use Rattle.rs_live.specs.declared.ports.PortFault.{PortFault}
use Rattle.rs_streams.specs.declared.file_watch.FileFault.{FileFault}
use Rattle.rs_live.specs.declared.serve.ServeFault.{ServeFault}
use Rattle.rs_live.specs.declared.serve.ServeFault.TheVariants as faults
use Rattle.rs_live.specs.declared.ports.Line.TheVariants as lines
use Rattle.rs_live.specs.declared.live_link.LiveLink.{LiveLink}
use Rattle.rs_live.specs.declared.live_link.Phase.{Phase}
use Rattle.rs_live.specs.declared.live_link.Stage.{Stage}
use Rattle.rs_live.specs.Calls.{Call, Waited, Accepted, Read, Closed, Fetched, Ordered, Printed, IsGood, FindsLost, IsFailedWait, IsFailedAccept, IsAccept, IsOrder}
use Rattle.rs_live.specs.Operations.{Operation, Asked, WroteTo, WroteRest, ClosedRest, Spared, Did, calls}
use Rattle.rs_live.specs.Keys.{come, key_of}
use Rattle.rs_live.specs.Waiting.{waiting, rest_key, rest}
use Rattle.rs_live.specs.Rounds.{IsSettled}
use Rattle.rs_live.specs.Moments.{IsFair}
use Rattle.rs_live.specs.Orders.{is_down, end_of, MayEnd}
use Rattle.rs_live.specs.Keeping.{Held, Agrees, all_held}

-- by this step the core hears that the client's connection is lost
abbrev pub IsLossOf : ℕ → Step → Type 0
IsLossOf c (Happened event octets) = event ≡ Lost c
IsLossOf c (Begin d) = ⊥
IsLossOf c (Busy d) = ⊥
IsLossOf c (Offer d octets answer) = ⊥
IsLossOf c (Memory d) = ⊥
IsLossOf c (End d) = ⊥
IsLossOf c (Replaced answer) = ⊥

-- it is no loss, and nothing that the ports have just answered
abbrev pub IsOther : Event → Type 0
IsOther (Opened c) = ⊥
IsOther (Octets c n) = ⊥
IsOther (Moment t) = ⊥
IsOther Turn = ⊤
IsOther (Room c n) = ⊤
IsOther (Lost c) = ⊥
IsOther Rules = ⊤
IsOther (Commanded c command) = ⊥
IsOther Stop = ⊤

-- by this step the core hears of no loss, and of nothing that the ports have just answered; it refuses nothing, and offers
-- nothing
abbrev pub IsNoLoss : Step → Type 0
IsNoLoss (Happened event octets) = IsOther event
IsNoLoss (Begin d) = ⊤
IsNoLoss (Busy d) = ⊥
IsNoLoss (Offer d octets answer) = ⊥
IsNoLoss (Memory d) = ⊤
IsNoLoss (End d) = ⊤
IsNoLoss (Replaced answer) = ⊤

-- No wait and no accept failed, and each wait came where the round before might end. Where a read or a write of a client's
-- connection did fail, and where a read found the end of its input, the line `lost` was printed at once, the connection was
-- closed, and the core heard of the loss. The core hears of no other loss but after such a line and the close of that client's
-- connection. Of each connection that was accepted the core heard at once, and the client was not kept down; or it was closed: as a
-- stranger's, as is one that the core passes over, or with the line `disabled` of a client that was kept down. Where the core
-- refuses it as a client's second one, the line `busy` was printed and it was closed. What a read gave the core heard at once, all of
-- it, as octets of the client whose connection was read; and a moment is a fair one. No such event comes otherwise.
--
-- Each write is of all that waits for a client, under the key of its connection; or of all the rest, under the key of the
-- connection that it had when its session ended, which is closed at once where such a write fails. An offer to a client that has no
-- connection takes nothing; of one to a client for which nothing waits some is taken. No connection is closed but as these sentences
-- say.
--
-- Of each order to disable a client, with its text, and to refresh one the core was told at once; for one to reload, the text of the
-- rules was asked for at once. The core is told of no other command than, where the server was ordered to end, to stop a client,
-- without a text.
pub data AreHandled : List Operation → Type 0 where
  Begun : AreHandled []
  Waits : (operations : List Operation) → IsSettled operations → AreHandled operations → AreHandled (Asked (Waited (Ok tt)) ∷ operations)
  Asks : (call : Call) (operations : List Operation) → IsGood call → AreHandled operations → AreHandled (Asked call ∷ operations)
  Does : (step : Step) (operations : List Operation) → IsNoLoss step → AreHandled operations → AreHandled (Did step ∷ operations)
  Opens : (c : ℕ) (octets : List ℕ) (incoming : Incoming) (operations : List Operation) → is_down c operations ≡ false → AreHandled operations → AreHandled (Did (Happened (Opened c) octets) ∷ Asked (Accepted (Ok (Some incoming))) ∷ operations)
  Refuses : (incoming : Incoming) (operations : List Operation) → AreHandled operations → AreHandled (Asked (Closed incoming.key) ∷ Asked (Printed lines.Stranger) ∷ Asked (Accepted (Ok (Some incoming))) ∷ operations)
  KeepsOut : (c : ℕ) (incoming : Incoming) (operations : List Operation) → is_down c operations ≡ true → AreHandled operations → AreHandled (Asked (Closed incoming.key) ∷ Asked (Printed (lines.Disabled c)) ∷ Asked (Accepted (Ok (Some incoming))) ∷ operations)
  Disables : (c : ℕ) (text : ShutdownText) (octets : List ℕ) (operations : List Operation) → AreHandled operations → AreHandled (Did (Happened (Commanded c (commands.Stop text)) octets) ∷ Asked (Ordered (Some (orders.Disable c text))) ∷ operations)
  Enables : (c : ℕ) (operations : List Operation) → AreHandled operations → AreHandled (Asked (Ordered (Some (orders.Enable c))) ∷ operations)
  Refreshes : (c : ℕ) (octets : List ℕ) (operations : List Operation) → AreHandled operations → AreHandled (Did (Happened (Commanded c commands.Refresh) octets) ∷ Asked (Ordered (Some (orders.Refresh c))) ∷ operations)
  Reloads : (text : List ℕ) (answer : Result Bool FileFault) (operations : List Operation) → AreHandled operations → AreHandled (Asked (Fetched text answer) ∷ Asked (Ordered (Some orders.Reload)) ∷ operations)
  Quits : (operations : List Operation) → AreHandled operations → AreHandled (Asked (Ordered (Some orders.End)) ∷ operations)
  Stops : (c : ℕ) (text : ShutdownText) (octets : List ℕ) (operations : List Operation) → text_octets text ≡ [] → IsSome (end_of operations) → AreHandled operations → AreHandled (Did (Happened (Commanded c (commands.Stop text)) octets) ∷ operations)
  TurnsAway : (c key : ℕ) (operations : List Operation) → come c operations ≡ Some key → AreHandled operations → AreHandled (Did (Busy c) ∷ Asked (Closed key) ∷ Asked (Printed (lines.Busy c)) ∷ operations)
  TurnsNoneAway : (c : ℕ) (operations : List Operation) → come c operations ≡ None → AreHandled operations → AreHandled (Did (Busy c) ∷ operations)
  Hears : (c key count : ℕ) (piece : List ℕ) (operations : List Operation) → key_of c operations ≡ Some key → count ≢ 0 → AreHandled operations → AreHandled (Did (Happened (Octets c count) (take count piece)) ∷ Asked (Read key piece (Ok (Some count))) ∷ operations)
  Spares : (until : ℕ) (operations : List Operation) → AreHandled operations → AreHandled (Spared until ∷ operations)
  Times : (t : ℕ) (octets : List ℕ) (operations : List Operation) → IsFair t operations → AreHandled operations → AreHandled (Did (Happened (Moment t) octets) ∷ operations)
  Loses : (c key : ℕ) (step : Step) (operations : List Operation) → key_of c operations ≡ Some key → IsLossOf c step → AreHandled operations → AreHandled (Did step ∷ Asked (Closed key) ∷ Asked (Printed (lines.Lost c)) ∷ operations)
  Fails : (c key : ℕ) (call : Call) (step : Step) (operations : List Operation) → key_of c operations ≡ Some key → FindsLost key call → IsLossOf c step → AreHandled operations → AreHandled (Did step ∷ Asked (Closed key) ∷ Asked (Printed (lines.Lost c)) ∷ Asked call ∷ operations)
  Takes : (c n : ℕ) (octets : List ℕ) (operations : List Operation) → (key_of c operations ≡ None → n ≡ 0) → (IsSome (key_of c operations) → waiting c operations ≡ [] → n ≡ 0 → octets ≡ []) → AreHandled operations → AreHandled (Did (Offer c octets (Some n)) ∷ operations)
  Sends : (c key : ℕ) (answer : Result (Option ℕ) PortFault) (operations : List Operation) → key_of c operations ≡ Some key → IsOk answer → AreHandled operations → AreHandled (WroteTo c key (waiting c operations) answer ∷ operations)
  Breaks : (c key : ℕ) (fault : PortFault) (step : Step) (operations : List Operation) → key_of c operations ≡ Some key → IsLossOf c step → AreHandled operations → AreHandled (Did step ∷ Asked (Closed key) ∷ Asked (Printed (lines.Lost c)) ∷ WroteTo c key (waiting c operations) (Err fault) ∷ operations)
  SendsRest : (c key : ℕ) (answer : Result (Option ℕ) PortFault) (operations : List Operation) → rest_key c operations ≡ Some key → IsOk answer → AreHandled operations → AreHandled (WroteRest c key (rest c operations) answer ∷ operations)
  Drops : (c key : ℕ) (fault : PortFault) (operations : List Operation) → rest_key c operations ≡ Some key → AreHandled operations → AreHandled (ClosedRest c key ∷ WroteRest c key (rest c operations) (Err fault) ∷ operations)
  Closes : (c key : ℕ) (operations : List Operation) → rest_key c operations ≡ Some key → AreHandled operations → AreHandled (ClosedRest c key ∷ operations)
  PassesOver : (c key : ℕ) (operations : List Operation) → come c operations ≡ Some key → AreHandled operations → AreHandled (Asked (Closed key) ∷ Asked (Printed lines.Stranger) ∷ operations)

-- the last of these operations is such a call, and all before are handled
pub data EndBy (Is : Call → Type 0) : List Operation → Type 0 where
  By : (call : Call) (operations : List Operation) → Is call → AreHandled operations → EndBy Is (Asked call ∷ operations)

-- the last of these operations is a write of what waits for this client that failed, under the key of its connection
pub data EndByWrite (c key : ℕ) : List Operation → Type 0 where
  ByWrite : (fault : PortFault) (operations : List Operation) → key_of c operations ≡ Some key → AreHandled operations → EndByWrite c key (WroteTo c key (waiting c operations) (Err fault) ∷ operations)

-- the last of these operations is a wait that failed, where the round before might end
abbrev pub EndByWait : List Operation → Type 0
EndByWait operations = EndBy IsFailedWait operations × IsSettled (drop 1 operations)

-- what a server did that ended with this answer, and was to end after so many sessions, or never
abbrev pub IsServed : Option ℕ → Result (Unit {0}) ServeFault → List Operation → Type 0
IsServed sessions (Ok done) operations = AreHandled operations × IsSettled operations × MayEnd sessions operations
IsServed sessions (Err faults.Poll) operations = EndByWait operations
IsServed sessions (Err faults.Listener) operations = EndBy IsFailedAccept operations
IsServed sessions (Err faults.Memory) operations = operations ≡ []

-- the ports were asked just the calls among such operations
pub record Has {P : Type 0} (asked : P → List Call → Type 0) (ports : P) (Is : List Operation → Type 0) : Type 0 where
  pub operations : List Operation
  pub are : Is operations
  pub were : asked ports (calls operations)

-- the operations are handled, and what the link keeps agrees with them
abbrev pub AreKept : List Held → Phase → List Operation → Type 0
AreKept held phase operations = AreHandled operations × Agrees held phase operations

-- the last of these operations is such a call, and what the link keeps agrees with them
abbrev pub AreEndedBy : (Call → Type 0) → List Held → Phase → List Operation → Type 0
AreEndedBy Is held phase operations = EndBy Is operations × Agrees held phase operations

-- the last of these operations is such a write, and what the link keeps agrees with them
abbrev pub AreBroken : ℕ → ℕ → List Held → Phase → List Operation → Type 0
AreBroken c key held phase operations = EndByWrite c key operations × Agrees held phase operations

-- so of a link
abbrev pub Keeps : {P : Type 0} → (P → List Call → Type 0) → LiveLink P → Type 0
Keeps asked link = Has asked link.ports.now (AreKept (all_held link) link.phase)

-- and no accept has failed
abbrev pub IsRunning : {P : Type 0} → (P → List Call → Type 0) → LiveLink P → Type 0
IsRunning asked link = (link.has_failed ≡ false) × Keeps asked link

-- it keeps what was done, where this connection came last
abbrev pub HasAccepted : {P : Type 0} → (P → List Call → Type 0) → Incoming → LiveLink P → Type 0
HasAccepted asked incoming link = Has asked link.ports.now (AreEndedBy (IsAccept incoming) (all_held link) link.phase)

-- or where this order did
abbrev pub IsAskedFor : {P : Type 0} → (P → List Call → Type 0) → Order → LiveLink P → Type 0
IsAskedFor asked order link = Has asked link.ports.now (AreEndedBy (IsOrder order) (all_held link) link.phase)

-- or where this step did
abbrev pub KeepsAfter : {P : Type 0} → (P → List Call → Type 0) → Step → LiveLink P → Type 0
KeepsAfter asked step link = Has asked link.ports.now (λ operations. AreKept (all_held link) link.phase (Did step ∷ operations))

-- or where such a write was
abbrev pub IsBroken : {P : Type 0} → (P → List Call → Type 0) → ℕ → ℕ → LiveLink P → Type 0
IsBroken asked c key link = Has asked link.ports.now (AreBroken c key (all_held link) link.phase)

-- a step of the core's link was done; or it was the last, since an accept failed
pub data Follows {P : Type 0} (asked : P → List Call → Type 0) (step : Step) (link : LiveLink P) : Bool → Type 0 where
  On : KeepsAfter asked step link → Follows asked step link false
  Halts : (octets : List ℕ) → step ≡ Happened Stop octets → Has asked link.ports.now (EndBy IsFailedAccept) → Follows asked step link true

-- the core was given this event, or is about to be, with this in the piece
abbrev pub Gives : {P : Type 0} → (P → List Call → Type 0) → Event → List ℕ → LiveLink P → Type 0
Gives asked event piece link = (text : List ℕ) → Follows asked (Happened event (octets_of event piece text)) link link.has_failed

-- it, or nothing, where no accept failed
abbrev pub Answers : {P : Type 0} → (P → List Call → Type 0) → Option Event → List ℕ → LiveLink P → Type 0
Answers asked None piece link = IsRunning asked link
Answers asked (Some event) piece link = Gives asked event piece link

-- so from a link that was running, at this stage
abbrev pub AnswersFrom : {P : Type 0} → (P → List Call → Type 0) → Stage → Option Event → List ℕ → LiveLink P → LiveLink P → Type 0
AnswersFrom asked stage event piece old new = old.phase.stage ≡ stage → IsRunning asked old → Answers asked event piece new
