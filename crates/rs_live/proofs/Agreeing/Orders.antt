-- What is kept of orders, and of the end, still agrees with what was done, one operation later.
use Rattle.std.proofs.Common.{◌≡◌, ◌<◌, ◌≤◌, ◌+◌, ◌==◌, inl, inr, ℕ, true, false, List, ◌∷◌, length, Some, None, refl, sym, subst, ap, ◌∙◌, arith}
use Rattle.std.specs.Prelude.{IsSome}
use Rattle.std.proofs.lemmas.Bool.{cases_eq}
use Rattle.rs_core.specs.declared.links.Event.TheVariants.{Commanded, Stop}
use Rattle.rs_open.specs.declared.shutdown.ShutdownText.{ShutdownText}
use Rattle.rs_session.specs.declared.command.Command.{Command}
use Rattle.rs_session.specs.declared.command.Command.TheVariants as commands
use Rattle.rs_control.specs.declared.order.Order.TheVariants as orders
use Rattle.rs_core.specs.Drives.Steps.{Happened, End}
use Rattle.rs_live.specs.declared.live_link.Phase.{Phase}
use Rattle.rs_live.specs.declared.live_link.Stage.TheVariants as stages
use Rattle.rs_live.specs.declared.live_link.Stopping.{Stopping}
use Rattle.rs_live.specs.Calls.{Call, Ordered}
use Rattle.rs_live.specs.Operations.{Operation, Asked, Did}
use Rattle.rs_live.specs.Orders.{HasOrdered, IsAtEnd, Closed, Late, IsStopped}
use Rattle.rs_live.specs.Keeping.{Held, Agrees, IsApart, IsInPhase, IsPlain, at, change, given, had_by, held_by, to_end, with_down}
use Rattle.rs_live.proofs.Changing.{clocked_asked, clocked_did, same_changed, clocked_changed, come_asked, had_asked, all_asked, all_did, if_down}
use Rattle.rs_live.proofs.Agreeing.Connections.{agrees_changed}
use Rattle.rs_live.proofs.Agreeing.Rounds.{again}

-- at the stage of orders, the core is given a command
orders_did : (held : List Held) (w : Phase) (n c : ℕ) (command : Command) (octets : List ℕ) (operations : List Operation) → IsInPhase held (at (stages.Orders n) w) operations → IsInPhase held (at (stages.Orders n) w) (Did (Happened (Commanded c command) octets) ∷ operations)
orders_did held w n c command octets operations h = record { stage = h.stage; clocked = clocked_did held (at (stages.Orders n) w) (Happened (Commanded c command) octets) operations tt h.clocked; stopped = all_did w.stopping (Happened (Commanded c command) octets) operations h.stopped; ordered = λ s. absurd s }

-- the ports were asked for one more order
pub agrees_ordered : (held : List Held) (w : Phase) (n m : ℕ) (call : Call) (operations : List Operation) → IsPlain call → HasOrdered (Asked call ∷ operations) → Agrees held (at (stages.Orders n) w) operations → Agrees held (at (stages.Orders m) w) (Asked call ∷ operations)
agrees_ordered held w n m call operations is ordered h = record {
  same = λ c. had_asked c call operations is ∙ h.same c;
  fresh = λ c. come_asked c call operations is ∙ h.fresh c;
  round = record {
    stage = λ some. ordered;
    clocked = again held (stages.Orders n) (stages.Orders m) w (Asked call ∷ operations) (λ (e : stages.Orders m ≡ stages.Over). cc) (clocked_asked held (at (stages.Orders n) w) call operations is h.round.clocked);
    stopped = all_asked w.stopping call operations is h.round.stopped;
    ordered = λ s. absurd s;
  };
}

-- the core is told to stop a client, which is kept down from now on
pub agrees_stop : (held : List Held) (w : Phase) (n c : ℕ) (text : ShutdownText) (octets : List ℕ) (operations : List Operation) → c < length held → Agrees held (at (stages.Orders n) w) operations → Agrees (change c (with_down true) held) (at (stages.Orders n) w) (Did (Happened (Commanded c (commands.Stop text)) octets) ∷ operations)
agrees_stop held w n c text octets operations below h = agrees_changed (with_down true) held (at (stages.Orders n) w) c operations (Did (Happened (Commanded c (commands.Stop text)) octets) ∷ operations) (λ ge. absurd (omega (arith, below, ge))) (λ k some. some)
    (λ d. if_down (d == c) true (had_by d operations), λ d. refl) (λ hs r. orders_did hs w n c (commands.Stop text) octets operations r) h

-- and to tell one its routes again
pub agrees_refresh : (held : List Held) (w : Phase) (n c : ℕ) (octets : List ℕ) (operations : List Operation) → Agrees held (at (stages.Orders n) w) operations → Agrees held (at (stages.Orders n) w) (Did (Happened (Commanded c commands.Refresh) octets) ∷ operations)
agrees_refresh held w n c octets operations h = record { same = h.same; fresh = h.fresh; round = orders_did held w n c commands.Refresh octets operations h.round }

-- a client is kept down no longer
pub agrees_enable : (held : List Held) (w : Phase) (n m c : ℕ) (operations : List Operation) → c < length held → Agrees held (at (stages.Orders n) w) operations → Agrees (change c (with_down false) held) (at (stages.Orders m) w) (Asked (Ordered (Some (orders.Enable c))) ∷ operations)
agrees_enable held w n m c operations below h =
    record {
      same = same_changed (with_down false) held c operations (Asked (Ordered (Some (orders.Enable c))) ∷ operations) (λ ge. absurd (omega (arith, below, ge))) (λ d. if_down (d == c) false (had_by d operations)) h.same;
      fresh = h.fresh;
      round = record {
        stage = λ some. tt;
        clocked = let k = clocked_changed (with_down false) held c (at (stages.Orders n) w) operations (λ ge. absurd (omega (arith, below, ge))) (λ x some. some) h.round.clocked in record { asked = k.asked; clock = k.clock; quiet = k.quiet; told = k.told; read = k.read; over = λ (e : stages.Orders m ≡ stages.Over). cc };
        stopped = h.round.stopped;
        ordered = λ s. absurd s;
      };
    }

-- the server is to end
pub agrees_quit : (held : List Held) (w : Phase) (n m : ℕ) (s : Stopping) (operations : List Operation) → s.since ≡ w.clock → s.told ≡ 0 → Agrees held (at (stages.Orders n) w) operations → Agrees held (to_end s (at (stages.Orders m) w)) (Asked (Ordered (Some orders.End)) ∷ operations)
agrees_quit held w n m s operations since none h = record {
  same = h.same;
  fresh = h.fresh;
  round = record {
    stage = λ some. tt;
    clocked = let k = h.round.clocked in record { asked = k.asked; clock = k.clock; quiet = k.quiet; told = k.told; read = k.read; over = λ (e : stages.Orders m ≡ stages.Over). cc };
    stopped = (
      λ (e : Some s ≡ None) c. cc,
      λ r e. (
        let i : s ≡ r = cc in ap (λ t. Some t) (h.round.clocked.clock ∙ sym since) ∙ ap (λ (x : Stopping). Some x.since) i,
        λ c below. absurd (let i : s ≡ r = cc in let z : r.told ≡ 0 = ap (λ (x : Stopping). x.told) (sym i) ∙ none in omega (arith, below, z)),
      ),
    );
    ordered = λ s. absurd s;
  };
}

-- and the core is told to stop the next client
pub agrees_stop_next : (held : List Held) (w : Phase) (n : ℕ) (s r : Stopping) (text : ShutdownText) (octets : List ℕ) (operations : List Operation) → w.stopping ≡ Some s → r.since ≡ s.since → r.told ≡ s.told + 1 → s.told < length held → Agrees held (at (stages.Orders n) w) operations → Agrees (change s.told (with_down true) held) (to_end r (at (stages.Orders n) w)) (Did (Happened (Commanded s.told (commands.Stop text)) octets) ∷ operations)
agrees_stop_next held w n s r text octets operations e since one below h =
    let k = agrees_stop held w n s.told text octets operations below h in
    let was = h.round.stopped.1 s e in record {
      same = k.same;
      fresh = k.fresh;
      round = record {
        stage = k.round.stage;
        clocked = let l = k.round.clocked in record { asked = l.asked; clock = l.clock; quiet = l.quiet; told = l.told; read = l.read; over = λ (i : stages.Orders n ≡ stages.Over). cc };
        stopped = (
          λ (i : Some r ≡ None) c. cc,
          λ q i. (
            was.0 ∙ ap (λ t. Some t) (sym since) ∙ (let j : r ≡ q = cc in ap (λ (x : Stopping). Some x.since) j),
            λ c lt. told c (let j : r ≡ q = cc in subst (λ (x : Stopping). c < x.told) (sym j) lt),
          ),
        );
        ordered = λ s. absurd s;
      };
    }
  where
    told : (c : ℕ) → c < r.told → IsStopped c (Did (Happened (Commanded s.told (commands.Stop text)) octets) ∷ operations)
    told c lt = elim (cases_eq c s.told) [
      | inl is ↦ inl is
      | inr ne ↦ inr ((h.round.stopped.1 s e).1 c (omega (arith, lt, one, ne)))
    ]

-- the orders are done with
pub agrees_past_orders : (held : List Held) (w : Phase) (n : ℕ) (operations : List Operation) → (w.stopping ≡ None → HasOrdered operations) → Agrees held (at (stages.Orders n) w) operations → Agrees held (at stages.Accept w) operations
agrees_past_orders held w n operations ordered h = record { same = h.same; fresh = h.fresh; round = record { stage = tt; clocked = again held (stages.Orders n) stages.Accept w operations (λ (e : stages.Accept ≡ stages.Over). cc) h.round.clocked; stopped = h.round.stopped; ordered = λ s e. ordered e } }

-- a server that is to end may end
pub at_end_alone : (held : List Held) (phase : Phase) (s : Stopping) (operations : List Operation) → phase.stopping ≡ Some s → ((c : ℕ) → IsApart (held_by c held)) → Agrees held phase operations → IsAtEnd operations
at_end_alone held phase s operations e apart h = Closed (subst (λ o. IsSome o) (sym (h.round.stopped.1 s e).0) refl) (λ c. (ap (λ x. x.key) (h.same c) ∙ (apart c).0, ap (λ x. x.rest_key) (h.same c) ∙ (apart c).1))

pub at_end_late : (held : List Held) (phase : Phase) (s : Stopping) (operations : List Operation) → phase.stopping ≡ Some s → s.since + 5 ≤ phase.clock → Agrees held phase operations → IsAtEnd operations
at_end_late held phase s operations e late h = Late s.since (h.round.stopped.1 s e).0 (subst (λ n. s.since + 5 ≤ n) (sym h.round.clocked.clock) late)
