-- A turn and the room after it lead to where nothing is touched and nothing is owed, and there a client was told what is due to it.
use Rattle.std.proofs.Common.{◌≡◌, ◌≢◌, ◌<◌, ◌≤◌, ◌-◌, ◌&&◌, not, ℕ, zero, suc, Bool, true, false, List, [], ◌∷◌, length, take, refl, sym, ◌∙◌, ap, subst, arith, inl, inr, ◌⊎◌}
use Rattle.std.specs.Prelude.{Option, Some, None, slice_get, if◌then◌else◌}
use Rattle.std.specs.FinMap as fin
use Rattle.std.specs.FinSet as set
use Rattle.std.proofs.lemmas.Bool.{false≢true}
use Rattle.std.proofs.lemmas.List.{length-take}
use Rattle.rs_octets.specs.Prefixes.{Prefix, prefix_order}
use Rattle.rs_attrs.specs.Meaning.{Attribute}
use Rattle.rs_attrs.specs.Comparing.{same_attributes}
use Rattle.rs_attrs.specs.ComparisonLaws.{attributes_decides}
use Rattle.rs_outlet.specs.Views.{View, Prefixes, waits_at}
use Rattle.rs_core.specs.Run.Moves.{Move, Left, Turned, Began, Took, config_in}
use Rattle.rs_core.specs.Session.Hearing.{Hearing, state_in, is_up, is_closing, leaves}
use Rattle.rs_core.specs.Run.Meaning.{hearing, is_established, is_listed, IsServed, table}
use Rattle.rs_core.specs.Core.{client_count, is_decided, is_refused, is_refusal, refusal_in, last_in, last_of, lent_octets, owed}
use Rattle.std.specs.List.{Contains}
use Rattle.rs_attrs.specs.Effects.{table_since}
use Rattle.rs_core.specs.Touched.ByRun.{TouchesWhere, with_touches}
use Rattle.rs_core.specs.Touched.ByMoves.{Alters, IsTouchedBehind, TouchesBehind}
use Rattle.rs_core.specs.Run.Agreeing.{Agrees}
use Rattle.rs_core.specs.Ribs.{outlet_in}
use Rattle.rs_core.specs.Drives.Steps.{Step, Happened, Offer}
use Rattle.rs_core.specs.Owed.Sending.{HasLent, HasTaken}
use Rattle.rs_core.specs.Drives.Courses.{Course, called, began, took}
use Rattle.rs_core.specs.Drives.Answers.{is_passed_over, closes, Offers, Nothing, Fails, Takes, Gives, Used, Stopped, Goes_on, Answers, Passes, Begins, Declines, Hears, Drops, Sees, Commands, Turns, Fills, Loses, Rules, Keeps, Ended, Lasts, Owes, Closes, Ends}
use Rattle.rs_core.specs.Owed.Draining.{IsDrained, TakesWhole, TakesAll, TurnsFor, RoomFor, Rooms, NoRoom, MoreRoom, RoomDrains}
use Rattle.rs_core.specs.declared.links.Event.{Event}
use Rattle.rs_core.specs.declared.links.Event.TheVariants as events
use Rattle.rs_core.specs.declared.endings.Ending.TheVariants as reasons
use Rattle.rs_core.specs.declared.route_server.Core.{Core}
use Rattle.rs_session.specs.declared.act.State.{State}
use Rattle.rs_session.specs.declared.act.State.TheVariants as states
use Rattle.rs_core.proofs.Run.Clients.{equal_or}
use Rattle.rs_core.proofs.Run.Lists.{own, other}
use Rattle.rs_core.proofs.Owed.Sending.{nobody, owed_is, decided_is, touched_is}
use Rattle.rs_core.proofs.Owed.Drained.{established_spoken, owed_left, none_touched, touched_none}
use Rattle.rs_core.proofs.Told.Serving.{done_is_served}
use Rattle.rs_core.proofs.Owed.Sent.{took_up}
use Rattle.rs_core.proofs.Told.BySession.{up_live}

-- ---- nothing owed

told_at : (loc told : Option (List Attribute)) (marked : Bool) → waits_at loc told marked ≡ None → told ≡ loc
told_at None None marked e = refl
told_at None (Some n) marked e = absurd (let f : ◌≡◌ {A = Option Bool} (Some true) None = e in cc)
told_at (Some m) None marked e = absurd (let f : ◌≡◌ {A = Option Bool} (Some false) None = e in cc)
told_at (Some m) (Some n) marked e = by_test (same_attributes m n) refl e where
  by_test : (b : Bool) → same_attributes m n ≡ b → (if b && not marked then None else Some false) ≡ None → ◌≡◌ {A = Option (List Attribute)} (Some n) (Some m)
  by_test true same none = ap (λ l. Some l) (sym ((attributes_decides m n).0 same))
  by_test false same none = absurd (let f : ◌≡◌ {A = Option Bool} (Some false) None = none in cc)

none_owed_served : (core : Core) (run : List Move) (c : ℕ) → Agrees core run → c < core.count → is_established run c ≡ true → is_decided core c ≡ true → owed core c ≡ 0 → IsServed run c
none_owed_served core run c h lt up decided none =
    let v : View = outlet_in core.ribs c nobody in
    let at = (h.clients c lt).knows.outlet h.config nobody in
    let heard = established_spoken run c up in
    let untouched = touched_none v.touched (sym (decided_is core c lt) ∙ decided) in
    let left = owed_left v heard.0 (at.quiet (up_live (config_in run) c (hearing c run) up)) (at.speech ∙ heard.1) untouched (sym (owed_is core c lt) ∙ none) in
    done_is_served core run c nobody lt (record {
      up = left.up;
      untouched = untouched;
      told = λ p. told_at (fin.get v.loc p) (fin.get v.told p) (set.contains v.marked p) (sym (at.order.exact p) ∙ ap (λ w. fin.get w p) left.waits ∙ fin.get-empty prefix_order p);
      flight = left.flight;
    }) h

pub drained_served : (x : Course) (c : ℕ) → IsDrained x c → IsServed x.run c
unfolding client_count
drained_served x c drained = none_owed_served x.core x.run c x.agrees drained.client drained.established drained.decided drained.none_owed

-- ---- nothing touched, by the run

-- whatever is touched for client c after this run, it is nothing
abbrev pub Settled : List Move → ℕ → Type 0
Settled run c = (touched : Option Prefixes) → IsTouchedBehind run c touched → touched ≡ Some set.empty

nothing_new : (Holds : Prefix → Type 0) (old new : Option Prefixes) → ((p : Prefix) → Holds p → ⊥) → TouchesWhere Holds old new → new ≡ old
nothing_new Holds old new none t = by_list t.prefixes (λ p. (t.just p).0) t.are where
  by_list : (ps : List Prefix) → ((p : Prefix) → Contains ps p → Holds p) → new ≡ with_touches ps old → new ≡ old
  by_list [] just are = are
  by_list (p ∷ ps) just are = absurd (none p (just p (0, omega arith, refl)))

-- a move that alters nothing leaves it so
settled_on : (move : Move) (run : List Move) (c : ℕ) → ((before new : Option Prefixes) → TouchesBehind move run c before new → new ≡ before) → is_established run c ≡ true → Settled run c → Settled (move ∷ run) c
settled_on move run c still up settled = λ touched h. let was = h.1 up in still was.0 touched was.2 ∙ settled was.0 was.1

settled_turn : (refused : List ℕ) (run : List Move) (c : ℕ) → is_established run c ≡ true → is_listed c refused ≡ false → Settled (Turned refused ∷ run) c
settled_turn refused run c up not_listed = λ touched h. let was = h.1 up in was.2 ∙ ap (λ b. if b then was.0 else Some set.empty) not_listed

settled_began : (d : ℕ) (run : List Move) (c : ℕ) → is_established run c ≡ true → Settled run c → Settled (Began d ∷ run) c
settled_began d run c up settled = settled_on (Began d) run c (λ before new t. nothing_new (Alters (Began d) run c) before new (λ p none. none) t) up settled

settled_took : (d : ℕ) (octets : List ℕ) (run : List Move) (c : ℕ) → is_established run c ≡ true → Settled run c → Settled (Took d octets ∷ run) c
settled_took d octets run c up settled = settled_on (Took d octets) run c (λ before new t. nothing_new (Alters (Took d octets) run c) before new (λ p none. none) t) up settled

-- a client that is closing holds nothing, and its loss alters nothing
closing_down : (state : State) → is_closing state ≡ true → is_up state ≡ false
closing_down states.Idle e = refl
closing_down states.OpenSent e = refl
closing_down states.OpenConfirm e = refl
closing_down states.Established e = absurd (false≢true e)
closing_down states.Closing e = refl

no_table : (run : List Move) (d : ℕ) (p : Prefix) → is_established run d ≡ false → table run d p ≡ None
no_table run d p down = ap (λ b. if b then table_since (hearing d run).changes p else None) down

settled_left : (d : ℕ) (run : List Move) (c : ℕ) → is_established run d ≡ false → is_established run c ≡ true → Settled run c → Settled (Left d ∷ run) c
settled_left d run c down up settled =
    settled_on (Left d) run c (λ before new t. nothing_new (Alters (Left d) run c) before new (λ p alters. alters.1 (no_table (Left d ∷ run) d p gone ∙ sym (no_table run d p down))) t) up settled where
      gone : is_established (Left d ∷ run) d ≡ false
      gone = ap (λ (h : Hearing). is_up (state_in (config_in run) d h)) (own d (leaves (config_in run) d reasons.Lost (hearing d run)) (hearing d run))

-- ---- one client, at a course

-- client c is Established, nothing is touched for it by the run, and so much is owed to it at most
pub record IsSettled (x : Course) (c most : ℕ) : Type 0 where
  pub client : c < client_count x.core
  pub up : is_established x.run c ≡ true
  pub settled : Settled x.run c
  pub owes : owed x.core c ≤ most

settled_drained : (x : Course) (c : ℕ) → IsSettled x c 0 → IsDrained x c
unfolding client_count
settled_drained x c s = record {
  client = s.client;
  established = s.up;
  decided = decided_is x.core c s.client ∙ none_touched (outlet_in x.core.ribs c nobody).touched (sym (touched_is x.core c s.client) ∙ s.settled _ (x.agrees.touched c s.client s.up));
  none_owed = omega (arith, s.owes);
}

-- ---- offers

some_taken : (room k : ℕ) (octets : List ℕ) → 0 < room → octets ≢ [] → k ≡ length (take room octets) → k ≢ 0
some_taken room k [] some not_empty is none = absurd (not_empty refl)
some_taken room k (x ∷ xs) some not_empty is none = absurd (let e = length-take room (x ∷ xs) in omega (arith, e, is, none))

weaker : (x : Course) (c most more : ℕ) → most ≤ more → IsSettled x c most → IsSettled x c more
weaker x c most more le s = record { client = s.client; up = s.up; settled = s.settled; owes = omega (arith, le, s.owes) }

called_settled : (step : Step) (x : Course) (c most : ℕ) → IsSettled x c most → IsSettled (called step x) c most
called_settled step x c most s = record { client = s.client; up = s.up; settled = s.settled; owes = s.owes }

-- a message to any client began
began_settled : (c d most : ℕ) (x : Course) (core : Core) (lent : HasLent d x.core (lent_octets core d) core) → IsSettled x c most → IsSettled (began d x core lent) c most
began_settled c d most x core lent s = record {
  client = subst (λ n. c < n) (sym lent.count) s.client;
  up = s.up;
  settled = settled_began d x.run c s.up s.settled;
  owes = by_client (equal_or d c);
} where
  by_client : (d ≡ c) ⊎ (d ≢ c) → owed core c ≤ most
  by_client (inl same) =
      let le : owed core c ≤ owed x.core c = subst (λ i. owed core i ≤ owed x.core i) same (lent.owes.owing x.run x.agrees (subst (λ i. is_established x.run i ≡ true) (sym same) s.up)) in
      omega (arith, le, s.owes)
  by_client (inr ne) = let e = lent.owes.spares.others c s.client (λ same. ne (sym same)) in omega (arith, e, s.owes)

-- octets of client d's were taken
own_taken : (c k most : ℕ) (x : Course) (core : Core) (taken : HasTaken c k x.core core) → IsSettled x c most → IsSettled (took c k x core taken) c (most - k)
own_taken c k most x core taken s = record {
  client = subst (λ n. c < n) (sym taken.count) s.client;
  up = took_up x.run c c (take k (lent_octets x.core c)) ∙ s.up;
  settled = settled_took c (take k (lent_octets x.core c)) x.run c s.up s.settled;
  owes = let e = taken.owes.owing in omega (arith, e, s.owes);
}

other_taken : (c d k most : ℕ) (x : Course) (core : Core) (taken : HasTaken d k x.core core) → d ≢ c → IsSettled x c most → IsSettled (took d k x core taken) c most
other_taken c d k most x core taken ne s = record {
  client = subst (λ n. c < n) (sym taken.count) s.client;
  up = took_up x.run c d (take k (lent_octets x.core d)) ∙ s.up;
  settled = settled_took d (take k (lent_octets x.core d)) x.run c s.up s.settled;
  owes = let e = taken.owes.spares.others c s.client (λ same. ne (sym same)) in omega (arith, e, s.owes);
}

-- an offer to client c: so much less is owed, and nothing where nothing was taken
own_offer : (c room k most : ℕ) (x y : Course) (o : Offers c room k x y) → TakesWhole c room k x y o → 0 < room → IsSettled x c most → IsSettled y c (most - k) × (k ≡ 0 → IsSettled y c 0)
own_offer c room k most x y (Nothing u core lent none empty) whole some s =
    let there = began_settled c c most u core lent s in
    let nothing = began_settled c c 0 u core lent (record { client = s.client; up = s.up; settled = s.settled; owes = omega (arith, none) }) in
    (weaker (began c u core lent) c 0 (most - 0) (omega arith) nothing, λ e. nothing)
own_offer c room k most x y (Fails u core after lent not_empty lost) whole some s = absurd whole
own_offer c room k most x y (Takes j u core after lent not_empty within taken) whole some s =
    let begun = began_settled c c most u core lent s in
    let mid = called (Offer c (take room (lent_octets core c)) (Some j)) (began c u core lent) in (
      own_taken c j most mid after taken (called_settled (Offer c (take room (lent_octets core c)) (Some j)) (began c u core lent) c most begun),
      λ e. absurd (some_taken room j (lent_octets core c) some not_empty whole e),
    )

-- an offer to another
other_offer : (c d room k most : ℕ) (x y : Course) (o : Offers d room k x y) → TakesWhole d room k x y o → d ≢ c → IsSettled x c most → IsSettled y c most
other_offer c d room k most x y (Nothing u core lent none empty) whole ne s = began_settled c d most u core lent s
other_offer c d room k most x y (Fails u core after lent not_empty lost) whole ne s = absurd whole
other_offer c d room k most x y (Takes j u core after lent not_empty within taken) whole ne s =
    let begun = began_settled c d most u core lent s in
    let mid = called (Offer d (take room (lent_octets core d)) (Some j)) (began d u core lent) in
    other_taken c d j most mid after taken ne (called_settled (Offer d (take room (lent_octets core d)) (Some j)) (began d u core lent) c most begun)

-- room for all that is owed to client c
own_room : (c room most : ℕ) (x y : Course) (g : Gives c room x y) → TakesAll c room x y g → most ≤ room → IsSettled x c most → IsSettled y c 0
own_room c room most x y (Used u) all enough s = weaker u c most 0 enough s
own_room c room most x y (Stopped r u v some offers) all enough s = (own_offer c r 0 most u v offers all some s).1 refl
own_room c room most x y (Goes_on r k u v w some within offers rest) all enough s =
    own_room c (r - k) (most - k) v w rest all.1 (omega (arith, enough)) (own_offer c r k most u v offers all.0 (omega (arith, some, within)) s).0

-- any room
own_less : (c room most : ℕ) (x y : Course) (g : Gives c room x y) → TakesAll c room x y g → IsSettled x c most → IsSettled y c most
own_less c room most x y (Used u) all s = s
own_less c room most x y (Stopped r u v some offers) all s = weaker v c (most - 0) most (omega arith) (own_offer c r 0 most u v offers all some s).0
own_less c room most x y (Goes_on r k u v w some within offers rest) all s =
    own_less c (r - k) most v w rest all.1 (weaker v c (most - k) most (omega arith) (own_offer c r k most u v offers all.0 (omega (arith, some, within)) s).0)

other_less : (c d room most : ℕ) (x y : Course) (g : Gives d room x y) → TakesAll d room x y g → d ≢ c → IsSettled x c most → IsSettled y c most
other_less c d room most x y (Used u) all ne s = s
other_less c d room most x y (Stopped r u v some offers) all ne s = other_offer c d r 0 most u v offers all ne s
other_less c d room most x y (Goes_on r k u v w some within offers rest) all ne s = other_less c d (r - k) most v w rest all.1 ne (other_offer c d r k most u v offers all.0 ne s)

any_less : (c d room most : ℕ) (x y : Course) (g : Gives d room x y) → TakesAll d room x y g → IsSettled x c most → IsSettled y c most
any_less c d room most x y g all s = by_client (equal_or c d) where
  by_client : (c ≡ d) ⊎ (c ≢ d) → IsSettled y c most
  by_client (inl same) = subst (λ i. IsSettled y i most) (sym same) (own_less d room most x y g all (subst (λ i. IsSettled x i most) same s))
  by_client (inr ne) = other_less c d room most x y g all (λ same. ne (sym same)) s

-- ---- ends

not_both : (run : List Move) (c d : ℕ) → closes run d ≡ true → is_established run c ≡ true → d ≢ c
not_both run c d closing up same = false≢true (sym (closing_down (state_in (config_in run) c (hearing c run)) (subst (λ i. closes run i ≡ true) same closing)) ∙ up)

left_up : (run : List Move) (c d : ℕ) → d ≢ c → is_established (Left d ∷ run) c ≡ is_established run c
left_up run c d ne = ap (λ (h : Hearing). is_up (state_in (config_in run) c h)) (other d c (leaves (config_in run) c reasons.Lost (hearing c run)) (hearing c run) (λ e. ne (sym e)))

ended_settled : (c d most : ℕ) (x y : Course) → Ended d x y → IsSettled x c most → IsSettled y c most
ended_settled c d most x y (Lasts u not_closing) s = s
ended_settled c d most x y (Owes u core lent closing some) s = began_settled c d most u core lent s
ended_settled c d most x y (Closes u core after lent closing none lost) s =
    let ne = not_both u.run c d closing s.up in
    let begun = began_settled c d most u core lent s in
    let same = lost.owed.others c begun.client (λ e. ne (sym e)) in
    record {
      client = subst (λ n. c < n) (sym lost.becomes.count) begun.client;
      up = left_up (Began d ∷ u.run) c d ne ∙ begun.up;
      settled = settled_left d (Began d ∷ u.run) c (closing_down (state_in (config_in u.run) d (hearing d u.run)) closing) begun.up begun.settled;
      owes = omega (arith, same, begun.owes);
    }

ends_settled : (k c most : ℕ) (x y : Course) → Ends k x y → IsSettled x c most → IsSettled y c most
ends_settled zero c most x y ends s = subst (λ (z : Course). IsSettled z c most) ends s
ends_settled (suc k) c most x y ends s = ended_settled c k most ends.0 y ends.2 (ends_settled k c most x ends.0 ends.1 s)

-- ---- a turn

refused_by : (o : Option View) → refusal_in o ≡ is_refusal (last_in o)
refused_by None = refl
refused_by (Some v) = refl

refused_last : (core : Core) (c : ℕ) → is_refused core c ≡ is_refusal (last_of core c)
unfolding is_refused last_of
refused_last core c = refused_by (slice_get core.ribs.outlets.items c)

not_listed : (core : Core) (run : List Move) (refused : List ℕ) (c : ℕ) → Agrees core (Turned refused ∷ run) → c < core.count → is_refused core c ≡ false → is_listed c refused ≡ false
not_listed core run refused c h lt done = by_test (is_listed c refused) refl where
  by_test : (b : Bool) → is_listed c refused ≡ b → b ≡ false
  by_test false e = refl
  by_test true e = absurd (false≢true (sym done ∙ refused_last core c ∙ ap is_refusal ((h.last c lt).refusal e).1))

turn_settled : (octets : List ℕ) (event : Event) (c : ℕ) (x y : Course) → Answers octets event x y → event ≡ events.Turn → c < client_count x.core → is_established x.run c ≡ true → is_refused y.core c ≡ false
    → IsSettled y c (owed y.core c)
unfolding client_count
turn_settled octets event c x y (Passes e u over) is lt up done = absurd (false≢true (sym (ap (is_passed_over (client_count u.core)) is) ∙ over))
turn_settled octets event c x y (Turns refused u core turned established) is lt up done =
    let there : c < core.count = subst (λ n. c < n) (sym turned.count) lt in
    record {
      client = there;
      up = up;
      settled = settled_turn refused u.run c up (not_listed core u.run refused c turned.agrees there done);
      owes = omega arith;
    }
turn_settled octets event c x y (Begins d u core came lt1 idle) is lt up done = absurd (let f : ◌≡◌ {A = Event} (events.Opened d) events.Turn = is in cc)
turn_settled octets event c x y (Declines d u lt1 busy) is lt up done = absurd (let f : ◌≡◌ {A = Event} (events.Opened d) events.Turn = is in cc)
turn_settled octets event c x y (Hears d len u core heard lt1 le) is lt up done = absurd (let f : ◌≡◌ {A = Event} (events.Octets d len) events.Turn = is in cc)
turn_settled octets event c x y (Drops d len u core dropped lt1 le) is lt up done = absurd (let f : ◌≡◌ {A = Event} (events.Octets d len) events.Turn = is in cc)
turn_settled octets event c x y (Sees t u core saw) is lt up done = absurd (let f : ◌≡◌ {A = Event} (events.Moment t) events.Turn = is in cc)
turn_settled octets event c x y (Commands d command u core became lt1) is lt up done = absurd (let f : ◌≡◌ {A = Event} (events.Commanded d command) events.Turn = is in cc)
turn_settled octets event c x y (Fills d room u v lt1 gives) is lt up done = absurd (let f : ◌≡◌ {A = Event} (events.Room d room) events.Turn = is in cc)
turn_settled octets event c x y (Loses d u core lost lt1) is lt up done = absurd (let f : ◌≡◌ {A = Event} (events.Lost d) events.Turn = is in cc)
turn_settled octets event c x y (Rules config u core ruled replaces) is lt up done = absurd (let f : ◌≡◌ {A = Event} events.Rules events.Turn = is in cc)
turn_settled octets event c x y (Keeps fault u refuses) is lt up done = absurd (let f : ◌≡◌ {A = Event} events.Rules events.Turn = is in cc)

turn_leaves : (c : ℕ) (x y : Course) → c < client_count x.core → is_established x.run c ≡ true → (t : TurnsFor c x y) → IsSettled y c (owed t.turned.core c)
turn_leaves c x y lt up t =
    ends_settled (client_count t.turned.core) c (owed t.turned.core c) t.turned y t.ends (turn_settled t.octets events.Turn c (called (Happened events.Turn t.octets) x) t.turned t.answers refl lt up t.done)

-- ---- rooms

room_leaves : (c d room most : ℕ) (x y : Course) → RoomFor d room x y → IsSettled x c most → IsSettled y c most
room_leaves c d room most x y r s =
    ends_settled (client_count r.given.core) c most r.given y r.ends
    (any_less c d room most (called (Happened (events.Room d room) r.octets) x) r.given r.gives r.takes (called_settled (Happened (events.Room d room) r.octets) x c most s))

rooms_leave : (c most : ℕ) (x y : Course) → Rooms x y → IsSettled x c most → IsSettled y c most
rooms_leave c most x y NoRoom s = s
rooms_leave c most x y (MoreRoom d room v w rooms one) s = room_leaves c d room most v w one (rooms_leave c most x v rooms s)

room_settles : (c room : ℕ) (x y : Course) → RoomFor c room x y → IsSettled x c room → IsSettled y c 0
room_settles c room x y r s =
    ends_settled (client_count r.given.core) c 0 r.given y r.ends
    (own_room c room room (called (Happened (events.Room c room) r.octets) x) r.given r.gives r.takes (omega arith) (called_settled (Happened (events.Room c room) r.octets) x c room s))

pub room_drains : RoomDrains
room_drains c room w x y z lt up turn rooms enough one =
    let before = rooms_leave c (owed turn.turned.core c) x y rooms (turn_leaves c w x lt up turn) in
    let drained = settled_drained z c (room_settles c room y z one (record { client = before.client; up = before.up; settled = before.settled; owes = enough })) in
    record { drained = drained; served = drained_served z c drained }
