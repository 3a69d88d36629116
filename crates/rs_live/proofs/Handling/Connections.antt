-- A connection comes, is read, is lost and ends, one call of the ports or one step of the core's link after the other.
use Rattle.std.proofs.Common.{◌≡◌, ◌≢◌, ◌<◌, ℕ, true, false, List, [], ◌∷◌, length, take, Option, Some, None, Result, Ok, refl, sym, subst, ap, ◌∙◌}
use Rattle.rs_core.specs.declared.links.Event.TheVariants.{Opened, Octets}
use Rattle.rs_core.specs.Drives.Steps.{Step, Happened, Begin, Busy, End}
use Rattle.rs_live.specs.declared.ports.Incoming.{Incoming}
use Rattle.rs_live.specs.declared.ports.PortFault.{PortFault}
use Rattle.rs_live.specs.declared.ports.Line.TheVariants as lines
use Rattle.rs_live.specs.declared.live_link.Phase.{Phase}
use Rattle.rs_live.specs.declared.live_link.Stage.TheVariants as stages
use Rattle.rs_live.specs.Calls.{Call, Accepted, Read, Closed, Printed, IsLastRead, FindsLost, IsAccept}
use Rattle.rs_live.specs.Operations.{Operation, Asked, Did}
use Rattle.rs_live.specs.Keys.{come}
use Rattle.rs_live.specs.Orders.{is_down}
use Rattle.rs_live.specs.Keeping.{Held, Agrees, IsPast, at, change, held_by, key_come, nothing, passed, with_live}
use Rattle.rs_live.specs.Handled.{IsLossOf, IsNoLoss, AreHandled, Asks, Does, Opens, Refuses, KeepsOut, TurnsAway, TurnsNoneAway, Hears, Loses, Fails, PassesOver, EndBy, By, Has, AreKept, AreEndedBy}
use Rattle.rs_live.proofs.Changing.{at_same, ended, ended_same}
use Rattle.rs_live.proofs.Agreeing.Connections.{agrees_asked, agrees_lost, agrees_end, IsStill, agrees_still}
use Rattle.rs_live.proofs.Agreeing.Rounds.{agrees_begin, agrees_begin_none, agrees_busy, agrees_busy_none, agrees_opened, agrees_stranger, agrees_passed, agrees_read, agrees_octets, come_is}
use Rattle.rs_live.proofs.Places.{unchanged}
use Rattle.rs_live.proofs.Handling.Calls.{AsksMore, AsksTwo, so, did, more, two_more}

pub lost_so : (held : List Held) (phase : Phase) (c key : ℕ) (step : Step) (operations : List Operation) → IsLossOf c step → Agrees held phase operations → Agrees (change c (with_live None []) held) phase (Did step ∷ Asked (Closed key) ∷ Asked (Printed (lines.Lost c)) ∷ operations)
lost_so held phase c key step operations is h = agrees_lost held phase c step (Asked (Closed key) ∷ Asked (Printed (lines.Lost c)) ∷ operations) is
    (agrees_asked held phase (Closed key) (Asked (Printed (lines.Lost c)) ∷ operations) tt (agrees_asked held phase (Printed (lines.Lost c)) operations tt h))

-- a client's connection is lost: a line says so, it is closed, and the core hears of it
pub loses : {P : Type 0} (asked : P → List Call → Type 0) (held : List Held) (phase : Phase) (c key : ℕ) (step : Step) (a b : P) → AsksTwo asked a (Printed (lines.Lost c)) (Closed key) b → (held_by c held).key ≡ Some key → IsLossOf c step → Has asked a (AreKept held phase) → Has asked b (λ operations. AreKept (change c (with_live None []) held) phase (Did step ∷ operations))
loses asked held phase c key step a b m of is h = two_more asked (AreKept held phase) (λ operations. AreKept (change c (with_live None []) held) phase (Did step ∷ operations)) a b (Printed (lines.Lost c)) (Closed key) m
    (λ operations k. (Loses c key step operations (ap (λ h. h.key) (k.1.same c) ∙ of) is k.0, lost_so held phase c key step operations is k.1)) h

failing : (held : List Held) (phase : Phase) (c key : ℕ) (step : Step) (operations : List Operation) → (held_by c held).key ≡ Some key → IsLossOf c step → EndBy (FindsLost key) operations → Agrees held phase operations → AreHandled (Did step ∷ Asked (Closed key) ∷ Asked (Printed (lines.Lost c)) ∷ operations)
failing held phase c key step _ of is (By call operations lost handled) agrees = Fails c key call step operations (ap (λ h. h.key) (agrees.same c) ∙ of) lost is handled

-- so where a call found it lost
pub fails : {P : Type 0} (asked : P → List Call → Type 0) (held : List Held) (phase : Phase) (c key : ℕ) (step : Step) (a b : P) → AsksTwo asked a (Printed (lines.Lost c)) (Closed key) b → (held_by c held).key ≡ Some key → IsLossOf c step → Has asked a (AreEndedBy (FindsLost key) held phase) → Has asked b (λ operations. AreKept (change c (with_live None []) held) phase (Did step ∷ operations))
fails asked held phase c key step a b m of is h = two_more asked (AreEndedBy (FindsLost key) held phase) (λ operations. AreKept (change c (with_live None []) held) phase (Did step ∷ operations)) a b (Printed (lines.Lost c)) (Closed key) m
    (λ operations k. (failing held phase c key step operations of is k.0 k.1, lost_so held phase c key step operations is k.1)) h

-- a step that is of no client's connection
pub does : {P : Type 0} (asked : P → List Call → Type 0) (held : List Held) (phase : Phase) (step : Step) (p : P) → IsNoLoss step → IsStill step → Has asked p (AreKept held phase) → Has asked p (λ operations. AreKept held phase (Did step ∷ operations))
does asked held phase step p other is h = did asked (AreKept held phase) (AreKept held phase) p step (λ operations k. (Does step operations other k.0, agrees_still held phase step operations is k.1)) h

-- the core begins with the connection that has come
pub begins : {P : Type 0} (asked : P → List Call → Type 0) (held : List Held) (w : Phase) (c : ℕ) (incoming : Incoming) (p : P) → Has asked p (AreKept held (at (stages.Come c incoming) w)) → Has asked p (λ operations. AreKept (change c (with_live (Some incoming.key) []) held) (at stages.Accept w) (Did (Begin c) ∷ operations))
begins asked held w c incoming p h = did asked (AreKept held (at (stages.Come c incoming) w)) (AreKept (change c (with_live (Some incoming.key) []) held) (at stages.Accept w)) p (Begin c) (λ operations k. (Does (Begin c) operations tt k.0, agrees_begin held w c incoming operations k.1)) h

-- none has come
pub begins_none : {P : Type 0} (asked : P → List Call → Type 0) (held : List Held) (phase : Phase) (c : ℕ) (p : P) → key_come c phase ≡ None → Has asked p (AreKept held phase) → Has asked p (λ operations. AreKept held phase (Did (Begin c) ∷ operations))
begins_none asked held phase c p none h = did asked (AreKept held phase) (AreKept held phase) p (Begin c) (λ operations k. (Does (Begin c) operations tt k.0, agrees_begin_none held phase c operations none k.1)) h

-- the connection that has come is a second one, and closed
pub turns_away : {P : Type 0} (asked : P → List Call → Type 0) (held : List Held) (phase : Phase) (c key : ℕ) (a b : P) → key_come c phase ≡ Some key → AsksTwo asked a (Printed (lines.Busy c)) (Closed key) b → Has asked a (AreKept held phase) → Has asked b (λ operations. AreKept held (at stages.Accept phase) (Did (Busy c) ∷ operations))
turns_away asked held phase c key a b come m h = let w = come_is c key phase come in two_more asked (AreKept held phase) (λ operations. AreKept held (at stages.Accept phase) (Did (Busy c) ∷ operations)) a b (Printed (lines.Busy c)) (Closed key) m
    (λ operations k. (TurnsAway c key operations (k.1.fresh c ∙ come) k.0, agrees_busy held phase c w.0 (Asked (Closed key) ∷ Asked (Printed (lines.Busy c)) ∷ operations) (subst (λ s. Agrees held (at s phase) (Asked (Closed key) ∷ Asked (Printed (lines.Busy c)) ∷ operations)) w.1 (agrees_asked held phase (Closed key) (Asked (Printed (lines.Busy c)) ∷ operations) tt (agrees_asked held phase (Printed (lines.Busy c)) operations tt k.1))))) h

-- none has come
pub turns_none_away : {P : Type 0} (asked : P → List Call → Type 0) (held : List Held) (phase : Phase) (c : ℕ) (p : P) → key_come c phase ≡ None → Has asked p (AreKept held phase) → Has asked p (λ operations. AreKept held phase (Did (Busy c) ∷ operations))
turns_none_away asked held phase c p none h = did asked (AreKept held phase) (AreKept held phase) p (Busy c) (λ operations k. (TurnsNoneAway c operations (k.1.fresh c ∙ none) k.0, agrees_busy_none held phase c operations none k.1)) h

-- a session has ended
pub ends_session : {P : Type 0} (asked : P → List Call → Type 0) (held : List Held) (phase : Phase) (c : ℕ) (p : P) → Has asked p (AreKept held phase) → Has asked p (λ operations. AreKept (change c ended held) phase (Did (End c) ∷ operations))
ends_session asked held phase c p h = did asked (AreKept held phase) (AreKept (change c ended held) phase) p (End c) (λ operations k. (Does (End c) operations tt k.0, agrees_end held phase c operations k.1)) h

-- a connection that was just accepted
pub opens : {P : Type 0} (asked : P → List Call → Type 0) (held : List Held) (w : Phase) (c : ℕ) (incoming : Incoming) (answer : Option Incoming) (a b : P) → answer ≡ Some incoming → c < length held → (held_by c held).is_down ≡ false → AsksMore asked a (Accepted (Ok answer)) b → Has asked a (AreKept held (at stages.Accept w)) → Has asked b (λ operations. AreKept held (at (stages.Come c incoming) w) (Did (Happened (Opened c) []) ∷ operations))
opens asked held w c incoming answer a b is below up m h = more asked (AreKept held (at stages.Accept w)) (λ operations. AreKept held (at (stages.Come c incoming) w) (Did (Happened (Opened c) []) ∷ operations)) a b (Accepted (Ok (Some incoming))) (subst (λ r. AsksMore asked a (Accepted (Ok r)) b) is m)
    (λ operations k. (Opens c [] incoming operations (ap (λ x. x.is_down) (k.1.same c) ∙ up) k.0, agrees_opened held w c [] incoming operations below k.1)) h

-- a client without a connection is passed over
pub passes_by : {P : Type 0} (asked : P → List Call → Type 0) (held : List Held) (w : Phase) (c : ℕ) (p : P) → (held_by c held).key ≡ None → Has asked p (AreKept held (at stages.Read w)) → Has asked p (AreKept held (at stages.Read (passed c w)))
passes_by asked held w c p none h = so asked (AreKept held (at stages.Read w)) (AreKept held (at stages.Read (passed c w))) p (λ operations k. (k.0, agrees_passed held w c operations none k.1)) h

-- nothing was there to read
pub reads_none : {P : Type 0} (asked : P → List Call → Type 0) (held : List Held) (w : Phase) (c key : ℕ) (answer : Option ℕ) (piece : List ℕ) (a b : P) → (held_by c held).key ≡ Some key → answer ≡ None → AsksMore asked a (Read key piece (Ok answer)) b → Has asked a (AreKept held (at stages.Read w)) → Has asked b (AreKept held (at stages.Read (passed c w)))
reads_none asked held w c key answer piece a b of none m h = more asked (AreKept held (at stages.Read w)) (AreKept held (at stages.Read (passed c w))) a b (Read key piece (Ok None)) (subst (λ r. AsksMore asked a (Read key piece (Ok r)) b) none m)
    (λ operations k. (Asks (Read key piece (Ok None)) operations refl k.0, agrees_read held w c key piece (Ok None) operations of k.1)) h

-- what was just read
pub hears : {P : Type 0} (asked : P → List Call → Type 0) (held : List Held) (w : Phase) (c key count : ℕ) (answer : Option ℕ) (piece : List ℕ) (a b : P) → (held_by c held).key ≡ Some key → count ≢ 0 → answer ≡ Some count → AsksMore asked a (Read key piece (Ok answer)) b → Has asked a (AreKept held (at stages.Read w)) → Has asked b (λ operations. AreKept held (at stages.Read (passed c w)) (Did (Happened (Octets c count) (take count piece)) ∷ operations))
hears asked held w c key count answer piece a b of some is m h = more asked (AreKept held (at stages.Read w)) (λ operations. AreKept held (at stages.Read (passed c w)) (Did (Happened (Octets c count) (take count piece)) ∷ operations)) a b (Read key piece (Ok (Some count))) (subst (λ r. AsksMore asked a (Read key piece (Ok r)) b) is m)
    (λ operations k. (Hears c key count piece operations (ap (λ h. h.key) (k.1.same c) ∙ of) some k.0, agrees_octets held (passed c w) c count (take count piece) (Asked (Read key piece (Ok (Some count))) ∷ operations) (agrees_read held w c key piece (Ok (Some count)) operations of k.1))) h

-- by a read a connection was found lost
pub reads_last : {P : Type 0} (asked : P → List Call → Type 0) (held : List Held) (w : Phase) (c key : ℕ) (piece : List ℕ) (answer : Result (Option ℕ) PortFault) (a b : P) → (held_by c held).key ≡ Some key → IsLastRead answer → AsksMore asked a (Read key piece answer) b → Has asked a (AreKept held (at stages.Read w)) → Has asked b (AreEndedBy (FindsLost key) held (at stages.Read (passed c w)))
reads_last asked held w c key piece answer a b of last m h = more asked (AreKept held (at stages.Read w)) (AreEndedBy (FindsLost key) held (at stages.Read (passed c w))) a b (Read key piece answer) m
    (λ operations k. (By (Read key piece answer) operations (refl, last) k.0, agrees_read held w c key piece answer operations of k.1)) h

-- 0 octets were read
pub is_last : (answer : Option ℕ) (count : ℕ) → answer ≡ Some count → count ≡ 0 → IsLastRead (Ok answer)
is_last answer count is none = subst (λ r. IsLastRead (Ok r)) (sym is) none

refusing : (incoming : Incoming) (operations : List Operation) → EndBy (IsAccept incoming) operations → AreHandled (Asked (Closed incoming.key) ∷ Asked (Printed lines.Stranger) ∷ operations)
refusing incoming _ (By call operations is handled) = subst (λ y. AreHandled (Asked (Closed incoming.key) ∷ Asked (Printed lines.Stranger) ∷ Asked y ∷ operations)) (sym is) (Refuses incoming operations handled)

-- a connection that was just accepted is a stranger's, and closed
pub refuses : {P : Type 0} (asked : P → List Call → Type 0) (held : List Held) (w : Phase) (incoming : Incoming) (a b : P) → AsksTwo asked a (Printed lines.Stranger) (Closed incoming.key) b → Has asked a (AreEndedBy (IsAccept incoming) held (at stages.Accept w)) → Has asked b (AreKept held (at stages.Accept w))
refuses asked held w incoming a b m h = two_more asked (AreEndedBy (IsAccept incoming) held (at stages.Accept w)) (AreKept held (at stages.Accept w)) a b (Printed lines.Stranger) (Closed incoming.key) m
    (λ operations k. (refusing incoming operations k.0, agrees_asked held (at stages.Accept w) (Closed incoming.key) (Asked (Printed lines.Stranger) ∷ operations) tt (agrees_stranger held (at stages.Accept w) operations tt k.1)))
    h

keeping_out : (c : ℕ) (incoming : Incoming) (operations : List Operation) → is_down c operations ≡ true → EndBy (IsAccept incoming) operations → AreHandled (Asked (Closed incoming.key) ∷ Asked (Printed (lines.Disabled c)) ∷ operations)
keeping_out c incoming _ down (By call operations is handled) = subst (λ y. AreHandled (Asked (Closed incoming.key) ∷ Asked (Printed (lines.Disabled c)) ∷ Asked y ∷ operations)) (sym is) (KeepsOut c incoming operations (subst (λ y. is_down c (Asked y ∷ operations) ≡ true) is down) handled)

-- or of a client that is kept down
pub keeps_out : {P : Type 0} (asked : P → List Call → Type 0) (held : List Held) (phase : Phase) (c : ℕ) (incoming : Incoming) (a b : P) → (held_by c held).is_down ≡ true → AsksTwo asked a (Printed (lines.Disabled c)) (Closed incoming.key) b → Has asked a (AreEndedBy (IsAccept incoming) held phase) → Has asked b (AreKept held phase)
keeps_out asked held phase c incoming a b down m h = two_more asked (AreEndedBy (IsAccept incoming) held phase) (AreKept held phase) a b (Printed (lines.Disabled c)) (Closed incoming.key) m
    (λ operations k. (keeping_out c incoming operations (ap (λ x. x.is_down) (k.1.same c) ∙ down) k.0, agrees_asked held phase (Closed incoming.key) (Asked (Printed (lines.Disabled c)) ∷ operations) tt (agrees_asked held phase (Printed (lines.Disabled c)) operations tt k.1)))
    h

-- whose connection has come
pub come_at : (phase : Phase) (c : ℕ) (incoming : Incoming) → phase.stage ≡ stages.Come c incoming → key_come c phase ≡ Some incoming.key
come_at phase c incoming e = ap (λ s. key_come c (at s phase)) e ∙ at_same c c (Some incoming.key) None refl

is_past : (c key : ℕ) (phase : Phase) → key_come c phase ≡ Some key → IsPast phase.stage
is_past c key phase come = subst (λ s. IsPast s) (sym (come_is c key phase come).1) tt

-- so one that the core has passed over
pub passes_over : {P : Type 0} (asked : P → List Call → Type 0) (held : List Held) (phase : Phase) (c key : ℕ) (a b : P) → key_come c phase ≡ Some key → AsksTwo asked a (Printed lines.Stranger) (Closed key) b → Has asked a (AreKept held phase) → Has asked b (AreKept held (at stages.Accept phase))
passes_over asked held phase c key a b come m h = two_more asked (AreKept held phase) (AreKept held (at stages.Accept phase)) a b (Printed lines.Stranger) (Closed key) m
    (λ operations k. (PassesOver c key operations (k.1.fresh c ∙ come) k.0, agrees_asked held (at stages.Accept phase) (Closed key) (Asked (Printed lines.Stranger) ∷ operations) tt (agrees_stranger held phase operations (is_past c key phase come) k.1))) h

-- a session ended without a connection
pub ends_none : {P : Type 0} (asked : P → List Call → Type 0) (held : List Held) (phase : Phase) (c : ℕ) (p : P) → (held_by c held).key ≡ None → Has asked p (AreKept held phase) → Has asked p (λ operations. AreKept held phase (Did (End c) ∷ operations))
ends_none asked held phase c p none h =
    let same : change c ended held ≡ held = unchanged ended held c (ended_same (held_by c held) none) in
    so asked (λ operations. AreKept (change c ended held) phase (Did (End c) ∷ operations)) (λ operations. AreKept held phase (Did (End c) ∷ operations)) p (λ operations k. subst (λ hs. AreKept hs phase (Did (End c) ∷ operations)) same k) (ends_session asked held phase c p h)
