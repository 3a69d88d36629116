-- What is kept of the round still agrees with what was done, one operation later.
use Rattle.std.proofs.Common.{◌≡◌, ◌<◌, ◌≤◌, ◌+◌, ◌==◌, inl, inr, min, ℕ, suc, List, [], ◌∷◌, length, Option, Some, None, Result, Ok, refl, sym, subst, ap, ◌∙◌, arith}
use Rattle.std.specs.Prelude.{IsSome, if◌then◌else◌}
use Rattle.std.proofs.lemmas.Bool.{cases_eq, cases_lt}
use Rattle.rs_core.specs.declared.links.Event.TheVariants.{Opened, Octets, Moment, Turn, Room, Rules}
use Rattle.rs_core.specs.Drives.Steps.{Happened, Begin, Busy}
use Rattle.rs_live.specs.declared.ports.Incoming.{Incoming}
use Rattle.rs_live.specs.declared.ports.PortFault.{PortFault}
use Rattle.rs_live.specs.declared.ports.Line.TheVariants as lines
use Rattle.rs_live.specs.declared.live_link.Phase.{Phase}
use Rattle.rs_live.specs.declared.live_link.Stage.{Stage}
use Rattle.rs_live.specs.declared.live_link.Stage.TheVariants as stages
use Rattle.rs_live.specs.declared.live_link.Stopping.{Stopping}
use Rattle.rs_live.specs.Calls.{Waited, Accepted, Read, Timed, Printed}
use Rattle.rs_live.specs.Operations.{Operation, Asked, Spared, Did}
use Rattle.rs_live.specs.Keys.{come}
use Rattle.rs_live.specs.Rounds.{HasRoom, IsSettled}
use Rattle.rs_live.specs.Orders.{HasOrdered, end_of, IsStopped}
use Rattle.rs_live.specs.Moments.{WasRead, WereRead, IsFair, OnTime, Heard, Sparing}
use Rattle.rs_live.specs.Keeping.{Held, Agrees, AreStopped, HaveAll, IsClocked, IsFairBy, IsInPhase, IsPast, HaveRoom, at, before, begun_at, change, given, had_by, held_by, key_at, key_come, nothing, passed, with_live}
use Rattle.rs_live.proofs.Changing.{at_same, at_other, no_some, past, held_set, clocked_asked, clocked_did, same_changed, phase_did, begun_with, if_begun}

-- the round goes on
pub agrees_phase : (held : List Held) (phase next : Phase) (operations : List Operation) → ((c : ℕ) → key_come c phase ≡ key_come c next) → IsInPhase held next operations → Agrees held phase operations → Agrees held next operations
agrees_phase held phase next operations same is h = record { same = h.same; fresh = λ c. h.fresh c ∙ same c; round = is }

none_where : (d c : ℕ) (x y : Option ℕ) → x ≡ (if d == c then y else None) → (if d == c then None else x) ≡ None
none_where d c x y h = elim (cases_eq d c) [
  | inl e ↦ at_same d c None x e
  | inr ne ↦ at_other d c None x ne ∙ h ∙ at_other d c y None ne
]

-- at another stage of the round
pub again : (held : List Held) (from next : Stage) (w : Phase) (operations : List Operation) → (next ≡ stages.Over → (w.told ≡ w.clock) × HaveAll (length held) w.stopping) → IsClocked held (at from w) operations → IsClocked held (at next w) operations
again held from next w operations over h = record { asked = h.asked; clock = h.clock; quiet = h.quiet; told = h.told; read = h.read; over = over }

-- the core begins with the connection that has come
pub agrees_begin : (held : List Held) (w : Phase) (c : ℕ) (incoming : Incoming) (operations : List Operation) → Agrees held (at (stages.Come c incoming) w) operations → Agrees (change c (with_live (Some incoming.key) []) held) (at stages.Accept w) (Did (Begin c) ∷ operations)
agrees_begin held w c incoming operations h = record {
  same = same_changed (with_live (Some incoming.key) []) held c operations (Did (Begin c) ∷ operations) (λ ge. absurd (omega (arith, h.round.stage))) begun h.same;
  fresh = λ d. none_where d c (come d operations) (Some incoming.key) (h.fresh d);
  round = record {
    stage = tt;
    clocked = let k = h.round.clocked in record {
      asked = k.asked;
      clock = k.clock;
      quiet = k.quiet;
      told = k.told;
      read = λ d below some. elim (cases_eq d c) [
        | inl e ↦ inl e
        | inr ne ↦ inr (k.read d below (subst (λ x. IsSome x.key) (held_set (with_live (Some incoming.key) []) held c d (λ ge. absurd (omega (arith, h.round.stage))) ∙ at_other d c (with_live (Some incoming.key) [] (held_by d held)) (held_by d held) ne) some))
      ];
      over = λ (e : stages.Accept ≡ stages.Over). cc;
    };
    stopped = h.round.stopped;
    ordered = λ s e. h.round.ordered tt e;
  };
}
  where
    begun : (d : ℕ) → had_by d (Did (Begin c) ∷ operations) ≡ (if d == c then with_live (Some incoming.key) [] (had_by d operations) else had_by d operations)
    begun d = if_begun (d == c) (come d operations) (had_by d operations) ∙ elim (cases_eq d c) [
      | inl e ↦ at_same d c (begun_with (come d operations) (had_by d operations)) (had_by d operations) e ∙ ap (λ k. begun_with k (had_by d operations)) (h.fresh d ∙ at_same d c (Some incoming.key) None e) ∙ sym (at_same d c (with_live (Some incoming.key) [] (had_by d operations)) (had_by d operations) e)
      | inr ne ↦ at_other d c (begun_with (come d operations) (had_by d operations)) (had_by d operations) ne ∙ sym (at_other d c (with_live (Some incoming.key) [] (had_by d operations)) (had_by d operations) ne)
    ]

same_none : (d c : ℕ) (x y : Option ℕ) → x ≡ y → (d ≡ c → y ≡ None) → (if d == c then None else x) ≡ y
same_none d c x y e none = elim (cases_eq d c) [
  | inl is ↦ at_same d c None x is ∙ sym (none is)
  | inr ne ↦ at_other d c None x ne ∙ e
]

-- the core begins with a client of which none has come
pub agrees_begin_none : (held : List Held) (phase : Phase) (c : ℕ) (operations : List Operation) → key_come c phase ≡ None → Agrees held phase operations → Agrees held phase (Did (Begin c) ∷ operations)
agrees_begin_none held phase c operations none h = record {
  same = λ d. begun d ∙ h.same d;
  fresh = λ d. same_none d c (come d operations) (key_come d phase) (h.fresh d) (λ e. ap (λ k. key_come k phase) e ∙ none);
  round = phase_did held phase (Begin c) operations tt h.round;
}
  where
    begun : (d : ℕ) → had_by d (Did (Begin c) ∷ operations) ≡ had_by d operations
    begun d = if_begun (d == c) (come d operations) (had_by d operations) ∙ elim (cases_eq d c) [
      | inl e ↦ at_same d c (begun_with (come d operations) (had_by d operations)) (had_by d operations) e ∙ ap (λ k. begun_with k (had_by d operations)) (h.fresh d ∙ ap (λ k. key_come k phase) e ∙ none)
      | inr ne ↦ at_other d c (begun_with (come d operations) (had_by d operations)) (had_by d operations) ne
    ]

-- the core refuses the connection that has come
pub agrees_busy : (held : List Held) (w : Phase) (c : ℕ) (incoming : Incoming) (operations : List Operation) → Agrees held (at (stages.Come c incoming) w) operations → Agrees held (at stages.Accept w) (Did (Busy c) ∷ operations)
agrees_busy held w c incoming operations h = record {
  same = h.same;
  fresh = λ d. none_where d c (come d operations) (Some incoming.key) (h.fresh d);
  round = record { stage = tt; clocked = again held (stages.Come c incoming) stages.Accept w (Did (Busy c) ∷ operations) (λ (e : stages.Accept ≡ stages.Over). cc) (clocked_did held (at (stages.Come c incoming) w) (Busy c) operations tt h.round.clocked); stopped = h.round.stopped; ordered = λ s e. h.round.ordered tt e };
}

-- the core refuses a client of which none has come
pub agrees_busy_none : (held : List Held) (phase : Phase) (c : ℕ) (operations : List Operation) → key_come c phase ≡ None → Agrees held phase operations → Agrees held phase (Did (Busy c) ∷ operations)
agrees_busy_none held phase c operations none h = record {
  same = h.same;
  fresh = λ d. same_none d c (come d operations) (key_come d phase) (h.fresh d) (λ e. ap (λ k. key_come k phase) e ∙ none);
  round = phase_did held phase (Busy c) operations tt h.round;
}

-- a client's connection has come
pub agrees_opened : (held : List Held) (w : Phase) (c : ℕ) (octets : List ℕ) (incoming : Incoming) (operations : List Operation) → c < length held → Agrees held (at stages.Accept w) operations → Agrees held (at (stages.Come c incoming) w) (Did (Happened (Opened c) octets) ∷ Asked (Accepted (Ok (Some incoming))) ∷ operations)
agrees_opened held w c octets incoming operations below h = record {
  same = h.same;
  fresh = λ d. ap (λ k. if d == c then Some incoming.key else k) (h.fresh d);
  round = record {
    stage = below;
    clocked = again held stages.Accept (stages.Come c incoming) w (Did (Happened (Opened c) octets) ∷ Asked (Accepted (Ok (Some incoming))) ∷ operations) (λ (e : stages.Come c incoming ≡ stages.Over). cc)
        (clocked_did held (at stages.Accept w) (Happened (Opened c) octets) (Asked (Accepted (Ok (Some incoming))) ∷ operations) tt (clocked_asked held (at stages.Accept w) (Accepted (Ok (Some incoming))) operations tt h.round.clocked));
    stopped = h.round.stopped;
    ordered = λ s e. h.round.ordered tt e;
  };
}

-- a connection is refused as a stranger's
pub agrees_stranger : (held : List Held) (phase : Phase) (operations : List Operation) → IsPast phase.stage → Agrees held phase operations → Agrees held (at stages.Accept phase) (Asked (Printed lines.Stranger) ∷ operations)
agrees_stranger held phase operations late h = record {
  same = h.same;
  fresh = λ c. refl;
  round = record { stage = tt; clocked = let k = h.round.clocked in record { asked = k.asked; clock = k.clock; quiet = k.quiet; told = k.told; read = k.read; over = λ (e : stages.Accept ≡ stages.Over). cc }; stopped = h.round.stopped; ordered = λ s e. h.round.ordered late e };
}

-- where a client was read, or has no connection
clocked_passed : (held : List Held) (w : Phase) (c : ℕ) (operations : List Operation) → (IsSome (held_by c held).key → WasRead c operations) → IsClocked held w operations → IsClocked held (passed c w) operations
clocked_passed held w c operations this h = record {
  asked = h.asked;
  clock = h.clock;
  quiet = h.quiet;
  told = h.told;
  read = λ d below some. elim (cases_eq c w.read_to) [
    | inl e ↦ let lt : d < min (c + 1) 18446744073709551615 = subst (λ n. d < n) (at_same c w.read_to (min (c + 1) 18446744073709551615) w.read_to e) below in elim (cases_eq d c) [
      | inl is ↦ subst (λ k. WasRead k operations) (sym is) (this (subst (λ k. IsSome (held_by k held).key) is some))
      | inr ne ↦ h.read d (omega (arith, lt, e, ne)) some
    ]
    | inr ne ↦ h.read d (subst (λ n. d < n) (at_other c w.read_to (min (c + 1) 18446744073709551615) w.read_to ne) below) some
  ];
  over = h.over;
}

-- a client without a connection is passed over
pub agrees_passed : (held : List Held) (w : Phase) (c : ℕ) (operations : List Operation) → (held_by c held).key ≡ None → Agrees held (at stages.Read w) operations → Agrees held (at stages.Read (passed c w)) operations
agrees_passed held w c operations none h = record {
  same = h.same;
  fresh = h.fresh;
  round = record { stage = tt; clocked = clocked_passed held (at stages.Read w) c operations (λ some. absurd (no_some ((held_by c held).key) none some)) h.round.clocked; stopped = h.round.stopped; ordered = λ s e. h.round.ordered tt e };
}

-- a client's connection is read
pub agrees_read : (held : List Held) (w : Phase) (c key : ℕ) (piece : List ℕ) (answer : Result (Option ℕ) PortFault) (operations : List Operation) → (held_by c held).key ≡ Some key → Agrees held (at stages.Read w) operations → Agrees held (at stages.Read (passed c w)) (Asked (Read key piece answer) ∷ operations)
agrees_read held w c key piece answer operations of h = record {
  same = h.same;
  fresh = h.fresh;
  round = record { stage = tt; clocked = clocked_passed held (at stages.Read w) c (Asked (Read key piece answer) ∷ operations) (λ some. inl (ap (λ x. x.key) (h.same c) ∙ of)) (clocked_asked held (at stages.Read w) (Read key piece answer) operations tt h.round.clocked); stopped = h.round.stopped; ordered = λ s e. h.round.ordered tt e };
}

-- the core is given octets
pub agrees_octets : (held : List Held) (w : Phase) (c n : ℕ) (octets : List ℕ) (operations : List Operation) → Agrees held (at stages.Read w) operations → Agrees held (at stages.Read w) (Did (Happened (Octets c n) octets) ∷ operations)
agrees_octets held w c n octets operations h = record { same = h.same; fresh = h.fresh; round = record { stage = tt; clocked = clocked_did held (at stages.Read w) (Happened (Octets c n) octets) operations tt h.round.clocked; stopped = h.round.stopped; ordered = λ s e. h.round.ordered tt e } }

clocked_given : (held : List Held) (from next : Stage) (w : Phase) (t : ℕ) (octets : List ℕ) (operations : List Operation) → (next ≡ stages.Over → ⊥) → IsClocked held (at from w) operations → IsClocked held (given next t w) (Did (Happened (Moment t) octets) ∷ operations)
clocked_given held from next w t octets operations not h = record { asked = h.asked; clock = h.clock; quiet = h.quiet; told = refl; read = h.read; over = λ e. absurd (not e) }

-- the core is given the first moment of a round
pub agrees_start : (held : List Held) (w : Phase) (t : ℕ) (octets : List ℕ) (operations : List Operation) → Agrees held (at stages.Start w) operations → Agrees held (given (stages.Orders 0) t w) (Did (Happened (Moment t) octets) ∷ operations)
agrees_start held w t octets operations h = record { same = h.same; fresh = h.fresh; round = record { stage = λ lt. absurd (omega (arith, lt)); clocked = clocked_given held stages.Start (stages.Orders 0) w t octets operations (λ (e : stages.Orders 0 ≡ stages.Over). cc) h.round.clocked; stopped = h.round.stopped; ordered = λ s. absurd s } }

-- and a later one
pub agrees_moment : (held : List Held) (w : Phase) (t : ℕ) (octets : List ℕ) (operations : List Operation) → Agrees held (at stages.Moment w) operations → Agrees held (given stages.Turn t w) (Did (Happened (Moment t) octets) ∷ operations)
agrees_moment held w t octets operations h = record { same = h.same; fresh = h.fresh; round = record { stage = tt; clocked = clocked_given held stages.Moment stages.Turn w t octets operations (λ (e : stages.Turn ≡ stages.Over). cc) h.round.clocked; stopped = h.round.stopped; ordered = λ s e. h.round.ordered tt e } }

-- it is fair
pub fair_is : (held : List Held) (w : Phase) (t : ℕ) (operations : List Operation) → IsFairBy (length held) w t → Agrees held w operations → IsFair t operations
fair_is held w t operations (inl (e, inl le)) h = OnTime (e ∙ sym h.round.clocked.clock) (subst (λ n. t ≤ n) (sym h.round.clocked.quiet) le)
fair_is held w t operations (inl (e, inr all)) h = Heard (e ∙ sym h.round.clocked.clock) read
  where
    read : WereRead operations
    read c some = let has = subst (λ x. IsSome x.key) (h.same c) some in elim (cases_lt c (length held)) [
      | inl lt ↦ h.round.clocked.read c (omega (arith, lt, all)) has
      | inr ge ↦ absurd (no_some ((held_by c held).key) (ap (λ x. x.key) (past held c ge)) has)
    ]
fair_is held w t operations (inr (e, le)) h = Sparing (e ∙ sym h.round.clocked.quiet) (subst (λ n. t ≤ n) (sym h.round.clocked.clock) le)

-- the core is given a turn
pub agrees_turn : (held : List Held) (w : Phase) (octets : List ℕ) (operations : List Operation) → Agrees held (at stages.Turn w) operations → Agrees held (at (stages.Room 0) w) (Did (Happened Turn octets) ∷ operations)
agrees_turn held w octets operations h = record {
  same = h.same;
  fresh = h.fresh;
  round = record {
    stage = (h.round.stage, λ c below some. absurd (omega arith));
    clocked = again held stages.Turn (stages.Room 0) w (Did (Happened Turn octets) ∷ operations) (λ (e : stages.Room 0 ≡ stages.Over). cc) (clocked_did held (at stages.Turn w) (Happened Turn octets) operations tt h.round.clocked);
    stopped = h.round.stopped;
    ordered = λ s e. h.round.ordered tt e;
  };
}

-- a client is given room
pub agrees_room : (held : List Held) (w : Phase) (from c : ℕ) (octets : List ℕ) (operations : List Operation) → ((d : ℕ) → from ≤ d → d < c → (held_by d held).key ≡ None) → Agrees held (at (stages.Room from) w) operations → Agrees held (at (stages.Handed c) w) (Did (Happened (Room c 18446744073709551615) octets) ∷ operations)
agrees_room held w from c octets operations none h = record {
  same = h.same;
  fresh = h.fresh;
  round = record {
    stage = (h.round.stage.0, roomy);
    clocked = again held (stages.Room from) (stages.Handed c) w (Did (Happened (Room c 18446744073709551615) octets) ∷ operations) (λ (e : stages.Handed c ≡ stages.Over). cc) (clocked_did held (at (stages.Room from) w) (Happened (Room c 18446744073709551615) octets) operations tt h.round.clocked);
    stopped = h.round.stopped;
    ordered = λ s e. h.round.ordered tt e;
  };
}
  where
    roomy : HaveRoom (suc c) held (Did (Happened (Room c 18446744073709551615) octets) ∷ operations)
    roomy d below some = elim (cases_eq d c) [
      | inl e ↦ inl (e, refl)
      | inr ne ↦ elim (cases_lt d from) [
        | inl lt ↦ inr (h.round.stage.1 d lt some)
        | inr ge ↦ absurd (no_some ((held_by d held).key) (none d ge (omega arith)) some)
      ]
    ]

-- and is done with
pub agrees_handed : (held : List Held) (w : Phase) (c from : ℕ) (operations : List Operation) → from ≤ c + 1 → Agrees held (at (stages.Handed c) w) operations → Agrees held (at (stages.Room from) w) operations
agrees_handed held w c from operations within h = record {
  same = h.same;
  fresh = h.fresh;
  round = record { stage = (h.round.stage.0, λ d below some. h.round.stage.1 d (omega arith) some); clocked = again held (stages.Handed c) (stages.Room from) w operations (λ (e : stages.Room from ≡ stages.Over). cc) h.round.clocked; stopped = h.round.stopped; ordered = λ s e. h.round.ordered tt e };
}

-- all clients are done with, stopped where they are to be, and what the clock answered was given
pub agrees_over : (held : List Held) (w : Phase) (from : ℕ) (operations : List Operation) → ((d : ℕ) → from ≤ d → (held_by d held).key ≡ None) → HaveAll (length held) w.stopping → w.told ≡ w.clock → Agrees held (at (stages.Room from) w) operations → Agrees held (at stages.Over w) operations
agrees_over held w from operations none all on_time h = record {
  same = h.same;
  fresh = h.fresh;
  round = record { stage = (h.round.stage.0, roomy); clocked = again held (stages.Room from) stages.Over w operations (λ e. (on_time, all)) h.round.clocked; stopped = h.round.stopped; ordered = λ s e. h.round.ordered tt e };
}
  where
    roomy : (d : ℕ) → IsSome ((held_by d held).key) → HasRoom d operations
    roomy d some = elim (cases_lt d from) [
      | inl lt ↦ h.round.stage.1 d lt some
      | inr ge ↦ absurd (no_some ((held_by d held).key) (none d ge) some)
    ]

-- a client that has a connection was stopped, where all were
all_stopped_by : (held : List Held) (stopping : Option Stopping) (c : ℕ) (operations : List Operation) → HaveAll (length held) stopping → IsSome (held_by c held).key → AreStopped stopping operations → IsStopped c operations
all_stopped_by held None c operations all some h = h.0 refl c
all_stopped_by held (Some s) c operations all some h = elim (cases_lt c (length held)) [
  | inl lt ↦ (h.1 s refl).1 c (omega (arith, lt, all))
  | inr ge ↦ absurd (no_some ((held_by c held).key) (ap (λ x. x.key) (past held c ge)) some)
]

-- the ports were asked for an order, where the server is not to end
ordered_by : (stopping : Option Stopping) (operations : List Operation) → AreStopped stopping operations → (stopping ≡ None → HasOrdered operations) → end_of operations ≡ None → HasOrdered operations
ordered_by None operations h o e = o refl
ordered_by (Some s) operations h o e = let i : Some s.since ≡ None = sym (h.1 s refl).0 ∙ e in cc

all_stopped : (held : List Held) (w : Phase) (c : ℕ) (operations : List Operation) → HaveAll (length held) w.stopping → IsSome (held_by c held).key → AreStopped w.stopping operations → IsStopped c operations
all_stopped held w c operations all some h = all_stopped_by held w.stopping c operations all some h

-- a round that is over may end
pub settled : (held : List Held) (w : Phase) (operations : List Operation) → Agrees held (at stages.Over w) operations → IsSettled operations
settled held w operations h = record {
  turned = h.round.stage.0;
  rooms = λ c some. h.round.stage.1 c (subst (λ x. IsSome x.key) (h.same c) some);
  on_time = let k = h.round.clocked in record { asked = k.asked; told = k.told ∙ (k.over refl).0 ∙ sym k.clock };
  answered = h.fresh;
  ordered = λ e. ordered_by w.stopping operations h.round.stopped (λ none. h.round.ordered tt none) e;
  stopped = λ c some. all_stopped held w c operations (h.round.clocked.over refl).1 (subst (λ x. IsSome x.key) (h.same c) some) h.round.stopped;
}

-- the next begins
pub agrees_waited : (held : List Held) (w : Phase) (clock quiet : ℕ) (operations : List Operation) → Agrees held (at stages.Over w) operations → Agrees held (begun_at clock quiet w) (Spared quiet ∷ Asked (Timed clock) ∷ Asked (Waited (Ok tt)) ∷ operations)
agrees_waited held w clock quiet operations h = record {
  same = h.same;
  fresh = h.fresh;
  round = record { stage = tt; clocked = record { asked = tt; clock = refl; quiet = refl; told = h.round.clocked.told; read = λ c below some. absurd (omega (arith, below)); over = λ (e : stages.Start ≡ stages.Over). cc }; stopped = h.round.stopped; ordered = λ s. absurd s };
}

-- nothing was done
pub agrees_begun : (held : List Held) → ((c : ℕ) → held_by c held ≡ nothing) → Agrees held before []
agrees_begun held none = record {
  same = λ c. sym (none c);
  fresh = λ c. refl;
  round = record {
    stage = (tt, λ c some. absurd (no_some (held_by c held).key (ap (λ h. h.key) (none c)) some));
    clocked = record { asked = tt; clock = refl; quiet = refl; told = refl; read = λ c below some. absurd (omega (arith, below)); over = λ e. (refl, tt) };
    stopped = (λ e c. tt, λ s (e : None ≡ Some s). cc);
    ordered = λ s e. tt;
  };
}

-- whose connection has come
come_at_stage : (c key : ℕ) (stage : Stage) → key_at c stage ≡ Some key → (incoming : Incoming) × (stage ≡ stages.Come c incoming) × (incoming.key ≡ key)
come_at_stage c key stages.Rules e = cc
come_at_stage c key stages.Start e = cc
come_at_stage c key (stages.Orders n) e = cc
come_at_stage c key stages.Accept e = cc
come_at_stage c key (stages.Come d incoming) e = elim (cases_eq c d) [
  | inl same ↦ (incoming, ap (λ k. stages.Come k incoming) (sym same), (let i : Some incoming.key ≡ Some key = sym (at_same c d (Some incoming.key) None same) ∙ e in cc))
  | inr ne ↦ let i : None ≡ Some key = sym (at_other c d (Some incoming.key) None ne) ∙ e in cc
]
come_at_stage c key stages.Read e = cc
come_at_stage c key stages.Moment e = cc
come_at_stage c key stages.Turn e = cc
come_at_stage c key (stages.Room from) e = cc
come_at_stage c key (stages.Handed d) e = cc
come_at_stage c key stages.Over e = cc

pub come_is : (c key : ℕ) (phase : Phase) → key_come c phase ≡ Some key → (incoming : Incoming) × (phase.stage ≡ stages.Come c incoming) × (incoming.key ≡ key)
come_is c key phase e = come_at_stage c key phase.stage e
