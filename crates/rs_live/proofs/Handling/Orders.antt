-- What the ports order is done, one call of the ports or one step of the core's link after the other.
use Rattle.std.proofs.Common.{◌≡◌, ◌<◌, ◌+◌, ℕ, Bool, true, false, List, [], ◌∷◌, length, Option, Some, None, Result, refl, sym, subst, ◌∙◌}
use Rattle.std.specs.Prelude.{IsSome}
use Rattle.rs_core.specs.declared.links.Event.TheVariants.{Commanded, Stop}
use Rattle.rs_streams.specs.declared.file_watch.FileFault.{FileFault}
use Rattle.rs_open.specs.declared.shutdown.ShutdownText.{ShutdownText}
use Rattle.rs_open.specs.Notes.{text_octets}
use Rattle.rs_session.specs.declared.command.Command.TheVariants as commands
use Rattle.rs_control.specs.declared.order.Order.{Order}
use Rattle.rs_control.specs.declared.order.Order.TheVariants as orders
use Rattle.rs_core.specs.Drives.Steps.{Happened, End}
use Rattle.rs_live.specs.declared.live_link.Phase.{Phase}
use Rattle.rs_live.specs.declared.live_link.Stage.TheVariants as stages
use Rattle.rs_live.specs.declared.live_link.Stopping.{Stopping}
use Rattle.rs_live.specs.Calls.{Call, Fetched, Ordered, IsOrder}
use Rattle.rs_live.specs.Operations.{Operation, Asked, Did}
use Rattle.rs_live.specs.Keeping.{Held, at, change, to_end, with_down}
use Rattle.rs_live.specs.Handled.{AreHandled, Asks, Disables, Enables, Refreshes, Reloads, Quits, Stops, EndBy, By, Has, AreKept, AreEndedBy}
use Rattle.rs_live.proofs.Agreeing.Connections.{agrees_asked}
use Rattle.rs_live.proofs.Agreeing.Orders.{agrees_ordered, agrees_stop, agrees_refresh, agrees_enable, agrees_quit, agrees_stop_next, agrees_past_orders}
use Rattle.rs_live.proofs.Handling.Calls.{AsksMore, so, did, more}

-- the ports order to disable a client
pub disables : {P : Type 0} (asked : P → List Call → Type 0) (held : List Held) (w : Phase) (n m c : ℕ) (text : ShutdownText) (answer : Option Order) (a b : P) → answer ≡ Some (orders.Disable c text) → c < length held → AsksMore asked a (Ordered answer) b → Has asked a (AreKept held (at (stages.Orders n) w)) →
    Has asked b (λ operations. AreKept (change c (with_down true) held) (at (stages.Orders m) w) (Did (Happened (Commanded c (commands.Stop text)) []) ∷ operations))
disables asked held w n m c text answer a b is below more_asked h =
    let So : List Operation → Type 0 = λ operations. AreKept (change c (with_down true) held) (at (stages.Orders m) w) (Did (Happened (Commanded c (commands.Stop text)) []) ∷ operations) in
    more asked (AreKept held (at (stages.Orders n) w)) So a b (Ordered (Some (orders.Disable c text))) (subst (λ r. AsksMore asked a (Ordered r) b) is more_asked)
    (λ operations k. (Disables c text [] operations k.0, agrees_stop held w m c text [] (Asked (Ordered (Some (orders.Disable c text))) ∷ operations) below (agrees_ordered held w n m (Ordered (Some (orders.Disable c text))) operations tt tt k.1)))
    h

-- to enable one
pub enables : {P : Type 0} (asked : P → List Call → Type 0) (held : List Held) (w : Phase) (n m c : ℕ) (answer : Option Order) (a b : P) → answer ≡ Some (orders.Enable c) → c < length held → AsksMore asked a (Ordered answer) b → Has asked a (AreKept held (at (stages.Orders n) w)) → Has asked b (AreKept (change c (with_down false) held) (at (stages.Orders m) w))
enables asked held w n m c answer a b is below more_asked h = more asked (AreKept held (at (stages.Orders n) w)) (AreKept (change c (with_down false) held) (at (stages.Orders m) w)) a b (Ordered (Some (orders.Enable c))) (subst (λ r. AsksMore asked a (Ordered r) b) is more_asked)
    (λ operations k. (Enables c operations k.0, agrees_enable held w n m c operations below k.1)) h

-- to refresh one
pub refreshes : {P : Type 0} (asked : P → List Call → Type 0) (held : List Held) (w : Phase) (n m c : ℕ) (answer : Option Order) (a b : P) → answer ≡ Some (orders.Refresh c) → AsksMore asked a (Ordered answer) b → Has asked a (AreKept held (at (stages.Orders n) w)) →
    Has asked b (λ operations. AreKept held (at (stages.Orders m) w) (Did (Happened (Commanded c commands.Refresh) []) ∷ operations))
refreshes asked held w n m c answer a b is more_asked h =
    let So : List Operation → Type 0 = λ operations. AreKept held (at (stages.Orders m) w) (Did (Happened (Commanded c commands.Refresh) []) ∷ operations) in
    more asked (AreKept held (at (stages.Orders n) w)) So a b (Ordered (Some (orders.Refresh c))) (subst (λ r. AsksMore asked a (Ordered r) b) is more_asked)
    (λ operations k. (Refreshes c [] operations k.0, agrees_refresh held w m c [] (Asked (Ordered (Some (orders.Refresh c))) ∷ operations) (agrees_ordered held w n m (Ordered (Some (orders.Refresh c))) operations tt tt k.1)))
    h

-- to end
pub quits : {P : Type 0} (asked : P → List Call → Type 0) (held : List Held) (w : Phase) (n m : ℕ) (s : Stopping) (answer : Option Order) (a b : P) → answer ≡ Some orders.End → s.since ≡ w.clock → s.told ≡ 0 → AsksMore asked a (Ordered answer) b → Has asked a (AreKept held (at (stages.Orders n) w)) → Has asked b (AreKept held (to_end s (at (stages.Orders m) w)))
quits asked held w n m s answer a b is since none more_asked h = more asked (AreKept held (at (stages.Orders n) w)) (AreKept held (to_end s (at (stages.Orders m) w))) a b (Ordered (Some orders.End)) (subst (λ r. AsksMore asked a (Ordered r) b) is more_asked)
    (λ operations k. (Quits operations k.0, agrees_quit held w n m s operations since none k.1)) h

-- to read the rules again
pub is_reload : {P : Type 0} (asked : P → List Call → Type 0) (held : List Held) (w : Phase) (n m : ℕ) (answer : Option Order) (a b : P) → answer ≡ Some orders.Reload → AsksMore asked a (Ordered answer) b → Has asked a (AreKept held (at (stages.Orders n) w)) → Has asked b (AreEndedBy (IsOrder orders.Reload) held (at (stages.Orders m) w))
is_reload asked held w n m answer a b is more_asked h = more asked (AreKept held (at (stages.Orders n) w)) (AreEndedBy (IsOrder orders.Reload) held (at (stages.Orders m) w)) a b (Ordered (Some orders.Reload)) (subst (λ r. AsksMore asked a (Ordered r) b) is more_asked)
    (λ operations k. (By (Ordered (Some orders.Reload)) operations refl k.0, agrees_ordered held w n m (Ordered (Some orders.Reload)) operations tt tt k.1)) h

reloading : (text : List ℕ) (answer : Result Bool FileFault) (operations : List Operation) → EndBy (IsOrder orders.Reload) operations → AreHandled (Asked (Fetched text answer) ∷ operations)
reloading text answer _ (By call operations is handled) = subst (λ y. AreHandled (Asked (Fetched text answer) ∷ Asked y ∷ operations)) (sym is) (Reloads text answer operations handled)

-- then their text is asked for
pub reloads : {P : Type 0} (asked : P → List Call → Type 0) (held : List Held) (phase : Phase) (text : List ℕ) (answer : Result Bool FileFault) (a b : P) → AsksMore asked a (Fetched text answer) b → Has asked a (AreEndedBy (IsOrder orders.Reload) held phase) → Has asked b (AreKept held phase)
reloads asked held phase text answer a b m h = more asked (AreEndedBy (IsOrder orders.Reload) held phase) (AreKept held phase) a b (Fetched text answer) m (λ operations k. (reloading text answer operations k.0, agrees_asked held phase (Fetched text answer) operations tt k.1)) h

-- the ports have no order
pub orders_none : {P : Type 0} (asked : P → List Call → Type 0) (held : List Held) (w : Phase) (n : ℕ) (answer : Option Order) (a b : P) → answer ≡ None → AsksMore asked a (Ordered answer) b → Has asked a (AreKept held (at (stages.Orders n) w)) → Has asked b (AreKept held (at stages.Accept w))
orders_none asked held w n answer a b is more_asked h = more asked (AreKept held (at (stages.Orders n) w)) (AreKept held (at stages.Accept w)) a b (Ordered None) (subst (λ r. AsksMore asked a (Ordered r) b) is more_asked)
    (λ operations k. (Asks (Ordered None) operations refl k.0, agrees_past_orders held w n (Asked (Ordered None) ∷ operations) (λ e. tt) (agrees_ordered held w n n (Ordered None) operations tt tt k.1))) h

-- the round has asked for enough
pub orders_done : {P : Type 0} (asked : P → List Call → Type 0) (held : List Held) (w : Phase) (n : ℕ) (p : P) → 0 < n → Has asked p (AreKept held (at (stages.Orders n) w)) → Has asked p (AreKept held (at stages.Accept w))
orders_done asked held w n p some h = so asked (AreKept held (at (stages.Orders n) w)) (AreKept held (at stages.Accept w)) p (λ operations k. (k.0, agrees_past_orders held w n operations (λ e. k.1.round.stage some) k.1)) h

-- where the server is to end, the core is told to stop the next client
pub stops_next : {P : Type 0} (asked : P → List Call → Type 0) (held : List Held) (w : Phase) (n : ℕ) (s r : Stopping) (text : ShutdownText) (p : P) → text_octets text ≡ [] → w.stopping ≡ Some s → r.since ≡ s.since → r.told ≡ s.told + 1 → s.told < length held → Has asked p (AreKept held (at (stages.Orders n) w)) →
    Has asked p (λ operations. AreKept (change s.told (with_down true) held) (to_end r (at (stages.Orders n) w)) (Did (Happened (Commanded s.told (commands.Stop text)) []) ∷ operations))
stops_next asked held w n s r text p no_text e since one below h = did asked (AreKept held (at (stages.Orders n) w)) (AreKept (change s.told (with_down true) held) (to_end r (at (stages.Orders n) w))) p (Happened (Commanded s.told (commands.Stop text)) [])
    (λ operations k. (Stops s.told text [] operations no_text (subst (λ o. IsSome o) (sym (k.1.round.stopped.1 s e).0) refl) k.0, agrees_stop_next held w n s r text [] operations e since one below k.1)) h

-- or was told to stop all
pub stops_done : {P : Type 0} (asked : P → List Call → Type 0) (held : List Held) (w : Phase) (n : ℕ) (s : Stopping) (p : P) → w.stopping ≡ Some s → Has asked p (AreKept held (at (stages.Orders n) w)) → Has asked p (AreKept held (at stages.Accept w))
stops_done asked held w n s p e h = so asked (AreKept held (at (stages.Orders n) w)) (AreKept held (at stages.Accept w)) p (λ operations k. (k.0, agrees_past_orders held w n operations (λ none. no_order none) k.1)) h
  where
    no_order : {X : Type 0} → w.stopping ≡ None → X
    no_order none = absurd (let i : None ≡ Some s = sym none ∙ e in let j : ⊥ = cc in j)
