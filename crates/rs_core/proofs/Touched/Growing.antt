-- A run grows by a move: what is touched for each client after it, and what its last turn answered.
use Rattle.std.proofs.Common.{◌≡◌, ◌≢◌, inl, inr, ◌<◌, ◌==◌, ℕ, Bool, true, false, List, [], ◌∷◌, length, refl, sym, ◌∙◌, ap, subst, arith}
use Rattle.std.specs.Prelude.{Option, Some, None, if◌then◌else◌}
use Rattle.std.specs.FinSet as set
use Rattle.std.proofs.lemmas.Bool.{false≢true}
use Rattle.rs_octets.specs.Prefixes.{Prefix}
use Rattle.rs_session.specs.Endings.{Fate, GoesOn, Ends}
use Rattle.rs_session.specs.declared.command.Command.{Command}
use Rattle.rs_session.specs.Items.{Moment, is_connected, message_count}
use Rattle.rs_session.specs.Sessions.{earlier, fate, item_fate, state_by, state_of}
use Rattle.rs_policy.specs.Configuration.{Configuration}
use Rattle.rs_policy.specs.Replacing.{IsFixed}
use Rattle.rs_outlet.specs.Views.{Prefixes, View}
use Rattle.rs_core.specs.Run.Moves.{Move, Ruled, Came, Heard, Saw, Left, Dropped, Commanded, Turned, Began, Took, config_in}
use Rattle.rs_core.specs.Session.Hearing.{is_up, session_in, state_in, takes}
use Rattle.rs_core.specs.Run.Meaning.{hearing, is_established, is_listed}
use Rattle.rs_core.specs.Core.{client_count, is_refused, last_of, touched_for}
use Rattle.rs_core.specs.Run.Keeping.{AreBare}
use Rattle.rs_core.specs.Ribs.{KeepsAnswers}
use Rattle.rs_core.specs.Touched.ByRun.{IsChangedBy, IsChangedElsewhere, KeepsTouched, MayBeChangedBy, TouchesAll, TouchesChanges, TouchesItself, TouchesOthersBetween, TouchesOthersWhere, TouchesWhere}
use Rattle.rs_core.specs.Touched.ByMoves.{MayAlter, TouchesBehind}
use Rattle.rs_core.specs.Touched.Answering.{IsLastBehind, IsTurnAnswer}
use Rattle.rs_core.specs.Touched.Altering.{IsAlteredBy}
use Rattle.rs_core.specs.Run.Agreeing.{Agrees}
use Rattle.rs_core.specs.declared.route_server.Core.{Core}
use Rattle.rs_core.proofs.Run.Agreeing.{AgreesOnClients}
use Rattle.rs_core.proofs.Run.Clients.{equal_or}
use Rattle.rs_core.proofs.Touched.Moments.{touches_as, touches_nothing}
use Rattle.rs_core.proofs.Run.Outgoing.{within}
use Rattle.rs_core.proofs.Owed.Sending.{last_is, nobody}
use Rattle.rs_core.proofs.Run.OtherRules.{session_fixed}

-- what a move touches for each client that is Established after it
record TouchesEach (move : Move) (run : List Move) (old new : Core) : Type 0 where
  pub came_up : (c : ℕ) → c < old.count → is_established run c ≡ false → is_established (move ∷ run) c ≡ true → touched_for new c ≡ None
  pub kept : (c : ℕ) → c < old.count → is_established run c ≡ true → is_established (move ∷ run) c ≡ true → TouchesBehind move run c (touched_for old c) (touched_for new c)

-- where the move is no turn, what the last turns answered stays
last_still : (old new : Core) (run : List Move) → new.count ≡ old.count → KeepsAnswers old.ribs new.ribs → Agrees old run → (c : ℕ) → c < new.count → IsLastBehind run c (last_of new c)
last_still old new run count answers h c lt =
    let there = subst (λ n. c < n) count lt in
    subst (IsLastBehind run c) (last_is old c there ∙ sym (answers c nobody (within old c there)) ∙ sym (last_is new c lt)) (h.last c there)

grown_by : (move : Move) (old new : Core) (run : List Move) → new.count ≡ old.count → Agrees old run → AgreesOnClients new (move ∷ run) → TouchesEach move run old new
    → ((c : ℕ) → c < new.count → IsLastBehind (move ∷ run) c (last_of new c)) → Agrees new (move ∷ run)
grown_by move old new run count h on by last = record {
  config = on.config;
  clients = on.clients;
  last = last;
  touched = λ c lt up.
      let there = subst (λ n. c < n) count lt in
      (λ down. by.came_up c there down up, λ was. (touched_for old c, h.touched c there was, by.kept c there was up));
}

-- ---- a move of one client

-- the others are Established after it where they were before
still_up : (move : Move) (d : ℕ) (run : List Move) → config_in (move ∷ run) ≡ config_in run → hearing d (move ∷ run) ≡ hearing d run → is_established (move ∷ run) d ≡ is_established run d
still_up move d run config same = (λ i. is_up (state_in (config i) d (same i)))

-- what it touches for the others, and for the client itself
of_one : (move : Move) (c : ℕ) (old new : Core) (run : List Move) → config_in (move ∷ run) ≡ config_in run → ((d : ℕ) → d ≢ c → hearing d (move ∷ run) ≡ hearing d run)
    → ((d : ℕ) → d < old.count → d ≢ c → is_established run d ≡ true → TouchesBehind move run d (touched_for old d) (touched_for new d))
    → ((before behind : Option Prefixes) → behind ≡ before → TouchesBehind move run c before behind) → TouchesItself move c run old new → TouchesEach move run old new
of_one move c old new run config same others nothing itself = record {
  came_up = λ d lt down up. elim (equal_or d c) [
    | inl e ↦ subst (λ k. touched_for new k ≡ None) (sym e) (itself.came_up (subst (λ k. is_established run k ≡ false) e down) (subst (λ k. is_established (move ∷ run) k ≡ true) e up))
    | inr ne ↦ absurd (false≢true (sym down ∙ sym (still_up move d run config (same d ne)) ∙ up))
  ];
  kept = λ d lt was up. elim (equal_or d c) [
    | inl e ↦ subst (λ k. TouchesBehind move run k (touched_for old k) (touched_for new k)) (sym e)
        (nothing (touched_for old c) (touched_for new c) (itself.kept (subst (λ k. is_established run k ≡ true) e was) (subst (λ k. is_established (move ∷ run) k ≡ true) e up)))
    | inr ne ↦ others d lt ne was
  ];
}

-- after it the client is not Established
down_itself : (move : Move) (c : ℕ) (run : List Move) (old new : Core) → is_established (move ∷ run) c ≡ false → TouchesItself move c run old new
down_itself move c run old new down = record { came_up = λ _ up. absurd (false≢true (sym down ∙ up)); kept = λ _ up. absurd (false≢true (sym down ∙ up)) }

-- what a client's move touches for another
by_others : (Holds : Prefix → Type 0) (c d : ℕ) (old new : Option Prefixes) → d ≢ c → TouchesWhere Holds old new → TouchesWhere (λ p. (c ≢ d) × Holds p) old new
by_others Holds c d old new ne h = touches_as Holds (λ p. (c ≢ d) × Holds p) old new (λ p x. ((λ e. ne (sym e)), x)) (λ p x. x.1) h

-- and for itself, nothing
by_itself : (Holds : Prefix → Type 0) (c : ℕ) (old new : Option Prefixes) → new ≡ old → TouchesWhere (λ p. (c ≢ c) × Holds p) old new
by_itself Holds c old new same = touches_nothing (λ p. (c ≢ c) × Holds p) old new same (λ p x. x.0 refl)

pub came_agrees : (c : ℕ) (old new : Core) (run : List Move) → new.count ≡ old.count → ((d : ℕ) → d ≢ c → hearing d (Came c ∷ run) ≡ hearing d run) → is_established (Came c ∷ run) c ≡ false → KeepsTouched run old new
    → KeepsAnswers old.ribs new.ribs → Agrees old run → AgreesOnClients new (Came c ∷ run) → Agrees new (Came c ∷ run)
unfolding client_count
came_agrees c old new run count same down kept answers h on = grown_by (Came c) old new run count h on
    (of_one (Came c) c old new run refl same (λ d lt ne up. touches_nothing (λ p. ⊥) (touched_for old d) (touched_for new d) (kept.each d lt up) (λ p x. x))
    (λ before behind e. touches_nothing (λ p. ⊥) before behind e (λ p x. x)) (down_itself (Came c) c run old new down)) (last_still old new run count answers h)

pub heard_agrees : (c : ℕ) (octets : List ℕ) (old new : Core) (run : List Move) → new.count ≡ old.count → ((d : ℕ) → d ≢ c → hearing d (Heard c octets ∷ run) ≡ hearing d run)
    → TouchesOthersWhere (IsAlteredBy (config_in run) c octets (hearing c run)) c run old new → TouchesItself (Heard c octets) c run old new
    → KeepsAnswers old.ribs new.ribs → Agrees old run → AgreesOnClients new (Heard c octets ∷ run) → Agrees new (Heard c octets ∷ run)
unfolding client_count
heard_agrees c octets old new run count same others itself answers h on = grown_by (Heard c octets) old new run count h on
    (of_one (Heard c octets) c old new run refl same
    (λ d lt ne up. by_others (IsAlteredBy (config_in run) c octets (hearing c run)) c d (touched_for old d) (touched_for new d) ne (others.others d lt ne up))
    (λ before behind e. by_itself (IsAlteredBy (config_in run) c octets (hearing c run)) c before behind e) itself) (last_still old new run count answers h)

pub left_agrees : (c : ℕ) (old new : Core) (run : List Move) → new.count ≡ old.count → ((d : ℕ) → d ≢ c → hearing d (Left c ∷ run) ≡ hearing d run) → is_established (Left c ∷ run) c ≡ false
    → TouchesOthersWhere (IsChangedBy (Left c) run c) c run old new → KeepsAnswers old.ribs new.ribs → Agrees old run → AgreesOnClients new (Left c ∷ run) → Agrees new (Left c ∷ run)
unfolding client_count
left_agrees c old new run count same down others answers h on = grown_by (Left c) old new run count h on
    (of_one (Left c) c old new run refl same
    (λ d lt ne up. by_others (IsChangedBy (Left c) run c) c d (touched_for old d) (touched_for new d) ne (others.others d lt ne up))
    (λ before behind e. by_itself (IsChangedBy (Left c) run c) c before behind e) (down_itself (Left c) c run old new down)) (last_still old new run count answers h)

pub commanded_agrees : (c : ℕ) (command : Command) (old new : Core) (run : List Move) → new.count ≡ old.count → ((d : ℕ) → d ≢ c → hearing d (Commanded c command ∷ run) ≡ hearing d run)
    → TouchesOthersWhere (IsChangedBy (Commanded c command) run c) c run old new → TouchesItself (Commanded c command) c run old new → KeepsAnswers old.ribs new.ribs → Agrees old run → AgreesOnClients new (Commanded c command ∷ run)
    → Agrees new (Commanded c command ∷ run)
unfolding client_count
commanded_agrees c command old new run count same others itself answers h on = grown_by (Commanded c command) old new run count h on
    (of_one (Commanded c command) c old new run refl same
    (λ d lt ne up. by_others (IsChangedBy (Commanded c command) run c) c d (touched_for old d) (touched_for new d) ne (others.others d lt ne up))
    (λ before behind e. by_itself (IsChangedBy (Commanded c command) run c) c before behind e) itself) (last_still old new run count answers h)

-- octets for which memory was refused
may_alter : (c d : ℕ) (octets : List ℕ) (run : List Move) (p : Prefix) → d ≢ c → MayBeChangedBy octets run c p → MayAlter (Dropped c octets) run d p
may_alter c d octets run p ne (inl changed) = inl ((λ e. ne (sym e)), changed)
may_alter c d octets run p ne (inr altered) = inr (c, octets, refl, (λ e. ne (sym e)), altered)

pub dropped_agrees : (c : ℕ) (octets : List ℕ) (old new : Core) (run : List Move) → new.count ≡ old.count → ((d : ℕ) → d ≢ c → hearing d (Dropped c octets ∷ run) ≡ hearing d run) → is_established (Dropped c octets ∷ run) c ≡ false
    → TouchesOthersBetween (IsChangedBy (Dropped c octets) run c) (MayBeChangedBy octets run c) c run old new → KeepsAnswers old.ribs new.ribs → Agrees old run → AgreesOnClients new (Dropped c octets ∷ run) → Agrees new (Dropped c octets ∷ run)
unfolding client_count
dropped_agrees c octets old new run count same down others answers h on = grown_by (Dropped c octets) old new run count h on
    (of_one (Dropped c octets) c old new run refl same
    (λ d lt ne up. let at = others.others d lt ne up in record { prefixes = at.prefixes; all = λ p x. at.all p x.1; most = λ p has. may_alter c d octets run p ne (at.most p has); are = at.are })
    (λ before behind e. record { prefixes = []; all = λ p x. absurd (x.0 refl); most = λ p has. absurd (let lt = has.1 in omega (arith, lt)); are = e }) (down_itself (Dropped c octets) c run old new down)) (last_still old new run count answers h)

-- ---- what goes out

pub began_agrees : (c : ℕ) (old new : Core) (run : List Move) → new.count ≡ old.count → ((d : ℕ) → d < old.count → touched_for new d ≡ touched_for old d)
    → KeepsAnswers old.ribs new.ribs → Agrees old run → AgreesOnClients new (Began c ∷ run) → Agrees new (Began c ∷ run)
began_agrees c old new run count same answers h on = grown_by (Began c) old new run count h on (record {
  came_up = λ d lt down up. absurd (false≢true (sym down ∙ up));
  kept = λ d lt was up. touches_nothing (λ p. ⊥) (touched_for old d) (touched_for new d) (same d lt) (λ p x. x);
}) (last_still old new run count answers h)

took_up : (c d : ℕ) (octets : List ℕ) (run : List Move) (b : Bool) → (d == c) ≡ b → is_established (Took d octets ∷ run) c ≡ is_established run c
took_up c d octets run true e = (λ i. is_up (state_in (config_in run) c (if e i then takes octets (hearing c run) else hearing c run)))
took_up c d octets run false e = (λ i. is_up (state_in (config_in run) c (if e i then takes octets (hearing c run) else hearing c run)))

pub taken_agrees : (c : ℕ) (octets : List ℕ) (old new : Core) (run : List Move) → new.count ≡ old.count → ((d : ℕ) → d < old.count → touched_for new d ≡ touched_for old d)
    → KeepsAnswers old.ribs new.ribs → Agrees old run → AgreesOnClients new (Took c octets ∷ run) → Agrees new (Took c octets ∷ run)
taken_agrees c octets old new run count same answers h on = grown_by (Took c octets) old new run count h on (record {
  came_up = λ d lt down up. absurd (false≢true (sym down ∙ sym (took_up d c octets run (c == d) refl) ∙ up));
  kept = λ d lt was up. touches_nothing (λ p. ⊥) (touched_for old d) (touched_for new d) (same d lt) (λ p x. x);
}) (last_still old new run count answers h)

-- ---- a moment

-- it brings nobody up
no_coming_up : (b : Bool) (was more : Fate) (n : ℕ) → is_up (state_by b was n) ≡ false → is_up (state_by b (earlier was more) n) ≡ false
no_coming_up false was more n down = refl
no_coming_up true (Ends _) more n down = refl
no_coming_up true GoesOn GoesOn n down = down
no_coming_up true GoesOn (Ends _) n down = refl

pub saw_agrees : (t : ℕ) (old new : Core) (run : List Move) → new.count ≡ old.count → TouchesChanges (Saw t) run old new → KeepsAnswers old.ribs new.ribs → Agrees old run → AgreesOnClients new (Saw t ∷ run) → Agrees new (Saw t ∷ run)
unfolding client_count
saw_agrees t old new run count changes answers h on = grown_by (Saw t) old new run count h on (record {
  came_up = λ c lt down up.
      let settings = session_in (config_in run) c in
      let heard = (hearing c run).items in
      absurd (false≢true (sym (no_coming_up (is_connected heard) (fate settings heard) (item_fate settings (Moment t) heard) (message_count heard) down) ∙ up));
  kept = λ c lt was up. subst (λ n. TouchesWhere (IsChangedElsewhere n (Saw t) run c) (touched_for old c) (touched_for new c)) all (changes.each c lt was up);
}) (last_still old new run count answers h) where
  all : old.count ≡ length (config_in run).clients
  all = sym old.ribs_len ∙ sym old.ribs.clients_len ∙ ap (λ (s : Configuration). length s.clients) h.config

-- ---- of all clients

-- another configuration, in which nothing of their sessions is another
pub ruled_agrees : (config : Configuration) (old new : Core) (run : List Move) → new.count ≡ old.count → IsFixed (config_in run) config → TouchesAll run new
    → KeepsAnswers old.ribs new.ribs → Agrees old run → AgreesOnClients new (Ruled config ∷ run) → Agrees new (Ruled config ∷ run)
unfolding client_count
ruled_agrees config old new run count fixed all answers h on = grown_by (Ruled config) old new run count h on (record {
  came_up = λ c lt down up. absurd (false≢true (sym down ∙ ap (λ k. is_up (state_of k (hearing c run).items)) (session_fixed (config_in run) config c fixed) ∙ up));
  kept = λ c lt was up. all.each c (subst (λ n. c < n) (sym count) lt) was;
}) (last_still old new run count answers h)

-- a turn of all but those that are listed
pub turned_by : (refused : List ℕ) (old new : Core) (run : List Move) → new.count ≡ old.count → ((c : ℕ) → c < new.count → is_listed c refused ≡ is_refused new c) → ((c : ℕ) → c < old.count → is_refused new c ≡ true → touched_for new c ≡ touched_for old c)
    → ((c : ℕ) → c < old.count → is_established run c ≡ true → is_refused new c ≡ false → touched_for new c ≡ Some set.empty) → ((c : ℕ) → c < old.count → IsTurnAnswer refused run c (last_of new c))
    → Agrees old run → AgreesOnClients new (Turned refused ∷ run) → Agrees new (Turned refused ∷ run)
turned_by refused old new run count listed kept done answered h on = grown_by (Turned refused) old new run count h on (record {
  came_up = λ c lt down up. absurd (false≢true (sym down ∙ up));
  kept = λ c lt was up. by_list c lt was (is_listed c refused) refl;
}) (λ c lt. answered c (subst (λ n. c < n) count lt)) where
  by_list : (c : ℕ) → c < old.count → is_established run c ≡ true → (b : Bool) → is_listed c refused ≡ b → touched_for new c ≡ (if is_listed c refused then touched_for old c else Some set.empty)
  by_list c lt up true e = kept c lt (sym (listed c (subst (λ n. c < n) (sym count) lt)) ∙ e) ∙ sym (ap (λ b. if b then touched_for old c else Some set.empty) e)
  by_list c lt up false e = done c lt up (sym (listed c (subst (λ n. c < n) (sym count) lt)) ∙ e) ∙ sym (ap (λ b. if b then touched_for old c else Some set.empty) e)

-- at the start nobody is Established, and there was no turn
pub start_agrees : (core : Core) (config : Configuration) → AreBare config.top.extended core.ribs.outlets.items → AgreesOnClients core (Ruled config ∷ []) → Agrees core (Ruled config ∷ [])
start_agrees core config bare on = record {
  config = on.config;
  clients = on.clients;
  touched = λ c lt up. absurd (false≢true up);
  last = λ c lt. last_is core c lt ∙ ap (λ (v : View). v.last) (bare c nobody (subst (λ n. c < n) (sym (core.ribs.outlets_len ∙ core.ribs_len)) lt));
}
