-- What goes out to clients leaves what was heard of them.
use Rattle.std.proofs.Common.{◌≡◌, ◌<◌, ℕ, Bool, not, ◌&&◌, List, ◌∷◌, ◌++◌, length, take, drop, refl, sym, ◌∙◌, ap, subst}
use Rattle.std.specs.Prelude.{Option, Some, is_some, slice_get, slice_index_or}
use Rattle.std.specs.FinMap as fin
use Rattle.std.specs.FinSet as set
use Rattle.std.specs.Global.{Vec}
use Rattle.std.proofs.lemmas.Option.{slice_get_read}
use Rattle.rs_octets.specs.Prefixes.{Prefix, prefix_order}
use Rattle.rs_attrs.specs.Meaning.{Attribute}
use Rattle.rs_adjin.specs.AdjIns.{held_of, identifier_of, Same}
use Rattle.rs_policy.specs.Configuration.{Configuration}
use Rattle.rs_outlet.specs.declared.answers.Speech.{Speech}
use Rattle.rs_outlet.specs.Views.{View, is_touched}
use Rattle.rs_core.specs.Run.Moves.{Move, Turned, Began, Took, config_in}
use Rattle.rs_core.specs.Session.Hearing.{Hearing, state_in, is_up, takes, offers, decides}
use Rattle.rs_core.specs.Session.Keepalives.{KeepaliveMove, Begun}
use Rattle.rs_core.specs.Told.Points.{Point, Offered}
use Rattle.rs_core.specs.Run.Meaning.{hearing, due, is_listed}
use Rattle.rs_core.specs.Core.{is_refusal}
use Rattle.rs_core.specs.Told.Order.{IsOrdered}
use Rattle.rs_core.specs.Ribs.{outlet_in, flight_in, lent_by, ChangesAll, ChangesOwn, KeepsSettings}
use Rattle.rs_core.specs.Touched.Turns.{IsDone, IsTurn}
use Rattle.rs_outlet.specs.Message.Begun.{HasBegun}
use Rattle.rs_core.specs.Told.Outlets.{SpeaksTo}
use Rattle.rs_core.specs.Run.Agreeing.{Agrees, AgreesAt, Spares}
use Rattle.rs_core.specs.declared.ribs.Ribs.{Ribs}
use Rattle.rs_core.specs.declared.route_server.Core.{Core}
use Rattle.rs_core.proofs.Run.Lists.{own, other}
use Rattle.rs_core.proofs.Run.Agreeing.{AgreesOnClients, grown}
use Rattle.rs_core.proofs.Run.Around.{own_acts_on_outlet}
use Rattle.rs_core.proofs.Touched.KeptAnswers.{own_answers}
use Rattle.rs_core.proofs.Run.Loops.{default_same}
use Rattle.rs_core.proofs.Told.Delivering.{begun_spoken, took_spoken, turned_spoken}
use Rattle.rs_core.proofs.Session.OperatorRecords.{watched_still}
use Rattle.rs_core.proofs.Told.Ordering.{took_ordered, turned_ordered}
use Rattle.rs_core.proofs.Told.NextMessage.{begun_ordered}
use Rattle.rs_core.proofs.Told.Serving.{due_is, due_spoken}
use Rattle.rs_core.proofs.Touched.Turned.{done_decided, is_current}
use Rattle.rs_core.proofs.Run.Clients.{is_own, is_other}

-- nothing but the outlet of one client has changed
pub record MovesOutlet (c : ℕ) (Is : View → View → Type 0) (old new : Core) : Type 0 where
  pub count : new.count ≡ old.count
  pub sessions : new.sessions ≡ old.sessions
  pub buffers : new.buffers ≡ old.buffers
  pub watched : new.watched ≡ old.watched
  pub settings : KeepsSettings old.ribs new.ribs
  pub tables : new.ribs.tables ≡ old.ribs.tables
  pub outlet : ChangesOwn c Is old.ribs new.ribs

moved_spares : (c : ℕ) (Is : View → View → Type 0) (old new : Core) → MovesOutlet c Is old new → ((v w : View) → Is v w → w.last ≡ v.last) → Spares c old new
moved_spares c Is old new m answered = record {
  count = m.count;
  config = m.settings.config;
  sessions = λ d ne. ap (λ v. slice_get v.items d) m.sessions;
  buffers = λ d ne. ap (λ v. slice_get v.items d) m.buffers;
  held = λ d p ne. ap (λ t. held_of t d p) m.tables;
  identifiers = λ d ne. ap (λ t. identifier_of t d) m.tables;
  others_alone = own_acts_on_outlet c Is old.ribs new.ribs m.outlet;
  watched = λ d ne. ap (λ v. slice_get v.items d) m.watched;
  answers = own_answers c Is old.ribs new.ribs m.outlet answered;
}

-- what was heard is the same, but for what was taken and offered
abbrev heard_still : List ℕ → List Point → List KeepaliveMove → Hearing → Hearing
heard_still taken points keepalives h = record { octets = h.octets; items = h.items; changes = h.changes; taken = taken; points = points; keepalives = keepalives; endings = h.endings; faults = h.faults }

moved_at : (c : ℕ) (taken : List ℕ) (points : List Point) (keepalives : List KeepaliveMove) (Is : View → View → Type 0) (old new : Core) (s : Configuration) (h : Hearing) → MovesOutlet c Is old new
    → (new.ribs.config ≡ s → (none : View) → SpeaksTo s c (heard_still taken points keepalives h) (outlet_in new.ribs c none))
    → (new.ribs.config ≡ s → (none : View) → IsOrdered s c (heard_still taken points keepalives h) (outlet_in new.ribs c none)) → AgreesAt old s c h → AgreesAt new s c (heard_still taken points keepalives h)
moved_at c taken points keepalives Is old new s h m outlet ordered at = record {
  knows = record {
    session = λ x e. at.knows.session x (ap (λ v. slice_get v.items c) (sym m.sessions) ∙ e);
    table = λ p. ap (λ t. held_of t c p) m.tables ∙ at.knows.table p;
    identifier = ap (λ t. identifier_of t c) m.tables ∙ at.knows.identifier;
    outlet = outlet;
    ordered = ordered;
    watched = watched_still old.watched.items new.watched.items c h.endings h.faults (ap (λ v. v.items) m.watched) at.knows.watched;
  };
  waits = λ x e. let w = at.waits x (ap (λ v. slice_get v.items c) (sym m.buffers) ∙ e) in record { rest = w.rest; good = w.good };
}

-- the client is spoken to as before
decided_says : (s : Configuration) (c : ℕ) (h : Hearing) (turned : Bool) (due : Prefix → Option (List Attribute)) (v : View) → SpeaksTo s c h v → SpeaksTo s c (decides turned due h) v
decided_says s c h turned due v at = record { speech = at.speech; quiet = at.quiet; before = at.before; since = at.since; order = at.order; talk = record { messages = at.talk.messages; keepalives = at.talk.keepalives } }

pub within : (old : Core) (c : ℕ) → c < old.count → c < old.ribs.count
within old c lt = subst (λ n. c < n) (sym old.ribs_len) lt

-- no message is a turn
pub begun_last : (v w : View) → HasBegun v w → w.last ≡ v.last
begun_last v w b = ap (λ (x : View). x.last) b.rest

-- the next message was begun
pub begun_agrees : (c : ℕ) (old new : Core) (run : List Move) → c < old.count → MovesOutlet c HasBegun old new → Agrees old run → AgreesOnClients new (Began c ∷ run)
begun_agrees c old new run lt m h =
    let it = hearing c run in
    grown old new c run (Began c ∷ run) refl (λ d ne. ap (λ b. offers b (hearing d run)) (is_other c d (λ e. ne (sym e)))) h (moved_spares c HasBegun old new m begun_last)
    (subst (λ k. AgreesAt new (config_in run) c k) (sym (ap (λ b. offers b it) (is_own c)))
    (moved_at c it.taken (Offered it.taken ∷ it.points) (Begun it.taken ∷ it.keepalives) HasBegun old new (config_in run) it m
    (λ config none. begun_spoken (config_in run) c it old.ribs.tables (outlet_in old.ribs c none) (outlet_in new.ribs c none) (old.numbered.each c none (within old c lt)) (m.outlet.own none (within old c lt))
    ((h.clients c lt).knows.outlet h.config none))
    (λ config none. begun_ordered (config_in run) c it old.ribs.tables (outlet_in old.ribs c none) (outlet_in new.ribs c none) (old.numbered.each c none (within old c lt)) (m.outlet.own none (within old c lt))
    ((h.clients c lt).knows.outlet h.config none) ((h.clients c lt).knows.ordered h.config none)) (h.clients c lt)))

abbrev pub IsTakenFrom : ℕ → View → View → Type 0
IsTakenFrom n v w = w ≡ record v { flight = drop n v.flight }

pub taken_last : (n : ℕ) (v w : View) → IsTakenFrom n v w → w.last ≡ v.last
taken_last n v w e = ap (λ (x : View). x.last) e

-- what is lent is what is in flight
pub lent_is : (core : Core) (c : ℕ) (none : View) → c < core.count → lent_by core.ribs c ≡ (outlet_in core.ribs c none).flight
lent_is core c none lt =
    let xs : List View = core.ribs.outlets.items in
    let there : c < length xs = subst (λ n. c < n) (sym (core.ribs.outlets_len ∙ core.ribs_len)) lt in
    ap flight_in (slice_get_read xs (length xs) c (outlet_in core.ribs c none) refl there (default_same xs c none (outlet_in core.ribs c none) there))

-- octets of it were taken
pub took_agrees : (c n : ℕ) (old new : Core) (run : List Move) (octets : List ℕ) → c < old.count → ((none : View) → octets ≡ take n (outlet_in old.ribs c none).flight) → MovesOutlet c (IsTakenFrom n) old new → Agrees old run
    → AgreesOnClients new (Took c octets ∷ run)
took_agrees c n old new run octets lt are m h =
    grown old new c run (Took c octets ∷ run) refl (λ d ne. other c d (takes octets (hearing d run)) (hearing d run) ne) h (moved_spares c (IsTakenFrom n) old new m (taken_last n))
    (subst (λ k. AgreesAt new (config_in run) c k) (sym (own c (takes octets (hearing c run)) (hearing c run)))
    (moved_at c ((hearing c run).taken ++ octets) (hearing c run).points (hearing c run).keepalives (IsTakenFrom n) old new (config_in run) (hearing c run) m
    (λ config none. took_spoken (config_in run) c n (hearing c run) (takes octets (hearing c run)) (outlet_in old.ribs c none) (outlet_in new.ribs c none) (m.outlet.own none (within old c lt)) refl
    (ap (λ o. (hearing c run).taken ++ o) (are none)) refl ((h.clients c lt).knows.outlet h.config none))
    (λ config none. took_ordered (config_in run) c n (hearing c run) (takes octets (hearing c run)) (outlet_in old.ribs c none) (outlet_in new.ribs c none) (m.outlet.own none (within old c lt)) refl
    (ap (λ o. (hearing c run).taken ++ o) (are none)) refl ((h.clients c lt).knows.ordered h.config none)) (h.clients c lt)))

-- ---- a turn

-- what a turn that was not refused leaves in the Loc-RIB is what was due by the run
turned_loc : (old : Core) (run : List Move) (d : ℕ) (none w : View) → d < old.count → Agrees old run → IsDone old.ribs.config old.ribs.tables (outlet_in old.ribs d none) w
    → (speech : Speech) → w.speech ≡ Some speech → (p : Prefix) → fin.get w.loc p ≡ due run d p
turned_loc old run d none w lt h done speech is p =
    let v : View = outlet_in old.ribs d none in
    let there : d < old.ribs.count = within old d lt in
    let turned = done.decided (old.numbered.each d none there) (is_current old.ribs d none there old.fresh) in
    let spoken : w.speech ≡ v.speech = ap (λ (x : View). x.speech) done.rest in
    let up : v.speech ≡ Some speech = sym spoken ∙ is in
    let decided = done_decided old.ribs.config old.ribs.tables d v w done.turned ((old.ribs.kept d none (subst (λ n. d < n) (sym old.ribs.outlets_len) there)).client) spoken turned (old.fresh.each d none there) in
    decided.at speech p is (ap (λ t. is_touched t p) (turned.stale (ap is_some up)) ∙ set.contains-empty prefix_order p)
    ∙ due_is old run d speech p h
    ∙ sym (due_spoken run d speech p (sym (((h.clients d lt).knows.outlet h.config none).speech) ∙ up))

-- a turn of all, and then some numbers were given up
pub turned_agrees : (old new : Core) (mid : Ribs) (run : List Move) (refused : List ℕ) → new.count ≡ old.count → new.sessions ≡ old.sessions → new.buffers ≡ old.buffers → new.watched ≡ old.watched
    → KeepsSettings old.ribs mid → mid.tables ≡ old.ribs.tables → ChangesAll (λ c. IsTurn old.ribs.config old.ribs.tables) old.ribs mid
    → KeepsSettings mid new.ribs → Same mid.tables new.ribs.tables → new.ribs.outlets ≡ mid.outlets
    → ((d : ℕ) (none : View) → d < new.count → is_listed d refused ≡ is_refusal (outlet_in new.ribs d none).last) → Agrees old run → AgreesOnClients new (Turned refused ∷ run)
turned_agrees old new mid run refused count sessions buffers watched settings tables turned after same outlets listed h = record {
  config = after.config ∙ settings.config ∙ h.config;
  clients = λ d lt.
      let there = subst (λ n. d < n) count lt in
      let at = h.clients d there in
      let it = hearing d run in
      let is_turned : Bool = is_up (state_in (config_in run) d it) && not (is_listed d refused) in
      let outlet : (none : View) → outlet_in new.ribs d none ≡ outlet_in mid d none = λ none. ap (λ (v : Vec View). slice_index_or v.items d none) outlets in
      record {
        knows = record {
          session = λ x e. at.knows.session x (ap (λ v. slice_get v.items d) (sym sessions) ∙ e);
          table = λ p. same.held d p ∙ ap (λ t. held_of t d p) tables ∙ at.knows.table p;
          identifier = same.identifiers d ∙ ap (λ t. identifier_of t d) tables ∙ at.knows.identifier;
          outlet = λ config none. decided_says (config_in run) d it is_turned (due run d) (outlet_in new.ribs d none) (subst (λ v. SpeaksTo (config_in run) d it v) (sym (outlet none))
              (turned_spoken (config_in run) d it old.ribs.config old.ribs.tables (outlet_in old.ribs d none) (outlet_in mid d none) (old.numbered.each d none (within old d there)) (is_current old.ribs d none (within old d there) old.fresh)
              (turned.each d none (within old d there)) (at.knows.outlet h.config none)));
          ordered = λ config none. subst (λ v. IsOrdered (config_in run) d (decides is_turned (due run d) it) v) (sym (outlet none))
              (turned_ordered (config_in run) d it (due run d) old.ribs.config old.ribs.tables (outlet_in old.ribs d none) (outlet_in mid d none) (is_listed d refused) (old.numbered.each d none (within old d there)) (is_current old.ribs d none (within old d there) old.fresh)
              (at.knows.outlet h.config none) (listed d none lt ∙ ap (λ (v : View). is_refusal v.last) (outlet none)) (λ done. turned_loc old run d none (outlet_in mid d none) there h done)
              (turned.each d none (within old d there)) (at.knows.ordered h.config none));
          watched = watched_still old.watched.items new.watched.items d it.endings it.faults (ap (λ v. v.items) watched) at.knows.watched;
        };
        waits = λ x e. let w = at.waits x (ap (λ v. slice_get v.items d) (sym buffers) ∙ e) in record { rest = w.rest; good = w.good };
      };
}
