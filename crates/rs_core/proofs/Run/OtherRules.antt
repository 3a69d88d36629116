-- Another configuration: what is known of each client stays.
use Rattle.std.proofs.Common.{◌≡◌, ◌<◌, ℕ, Bool, List, [], ◌∷◌, ◌++◌, refl, sym, ◌∙◌, ap, subst}
use Rattle.std.specs.Prelude.{None, slice_get, if◌then◌else◌}
use Rattle.rs_octets.specs.Messages.{rest_of, header_fault_of}
use Rattle.rs_octets.specs.Prefixes.{Prefix}
use Rattle.rs_attrs.specs.Effects.{table_since}
use Rattle.rs_session.specs.declared.settings.Settings.{Settings}
use Rattle.rs_session.specs.Sessions.{state_of, is_live, agreed_of, agreed_identifier}
use Rattle.rs_session.specs.Hearing.{HasHeard}
use Rattle.rs_adjin.specs.AdjIns.{held_of, identifier_of, Same}
use Rattle.rs_policy.specs.Configuration.{Configuration}
use Rattle.rs_policy.specs.Replacing.{IsFixed}
use Rattle.rs_core.specs.Run.Moves.{Move, Ruled, config_in}
use Rattle.rs_outlet.specs.Views.{View}
use Rattle.rs_outlet.specs.declared.answers.Last.TheVariants as lasts
use Rattle.rs_core.specs.Session.Hearing.{Hearing, silence, allowed_in, session_in, is_up}
use Rattle.rs_core.specs.Run.Keeping.{AreBare}
use Rattle.rs_core.specs.Run.Meaning.{hearing, speech_by, speech_in}
use Rattle.rs_core.specs.Ribs.{outlet_in, ChangesAll}
use Rattle.rs_core.specs.Touched.Turns.{IsMarked}
use Rattle.rs_core.specs.Session.Keepalives.{AreKeepalives}
use Rattle.rs_core.specs.Session.Conversations.{Converses, outgoing_of, own_open, update_speech}
use Rattle.rs_core.specs.Told.Telling.{limit_to}
use Rattle.rs_core.specs.Told.Outlets.{IsLeftAlone, SpeaksTo, Talks}
use Rattle.rs_core.specs.Run.Parts.{HaveHeardNothing}
use Rattle.rs_core.specs.Run.Agreeing.{Knows, Waits}
use Rattle.rs_core.specs.declared.ribs.Ribs.{Ribs}
use Rattle.rs_core.specs.declared.route_server.Core.{Core}
use Rattle.rs_core.proofs.Run.Agreeing.{AgreesOnClients}
use Rattle.rs_core.proofs.Session.Proceeding.{nothing_converses}
use Rattle.rs_core.proofs.Told.Alike.{bare_out, bare_silent, marked_alone, marked_same, same_again}
use Rattle.rs_core.proofs.Told.BySession.{spoken_on, spoken_over}
use Rattle.rs_core.proofs.Told.Ordering.{ordered_on, over_ordered}
use Rattle.rs_core.specs.Told.Order.{IsOrdered}
use Rattle.rs_core.specs.Session.OperatorRecords.{IsWatched}
use Rattle.rs_core.proofs.Session.OperatorRecords.{watched_still}

pub session_fixed : (s t : Configuration) (c : ℕ) → IsFixed s t → session_in s c ≡ session_in t c
session_fixed s t c h = sym (λ i. record { peer_as = (h.clients c).client_as i; hold = h.hold i; extended = h.extended i })

allowed_fixed : (s t : Configuration) → IsFixed s t → allowed_in s ≡ allowed_in t
allowed_fixed s t h = sym (λ i. record { long = h.extended i; refresh = h.refresh i })

-- a configuration is looked at for two things
live_by : Settings → Hearing → Bool
live_by k h = is_live (state_of k h.items)

waits_by : (s t : Configuration) (c : ℕ) (buffer : List ℕ) (h : Hearing) → session_in s c ≡ session_in t c → allowed_in s ≡ allowed_in t → Waits s c buffer h → Waits t c buffer h
waits_by s t c buffer h session allowed w = record {
  rest = λ live. w.rest (ap (λ k. is_live (state_of k h.items)) session ∙ live) ∙ ap (λ a. rest_of a h.octets) allowed;
  good = λ live. ap (λ a. header_fault_of a (rest_of a h.octets)) (sym allowed) ∙ w.good (ap (λ k. is_live (state_of k h.items)) session ∙ live);
}

pub knows_by : (old new : Core) (s t : Configuration) (c : ℕ) (h : Hearing) → session_in s c ≡ session_in t c
    → new.sessions ≡ old.sessions → Same old.ribs.tables new.ribs.tables → (new.ribs.config ≡ t → (none : View) → SpeaksTo t c h (outlet_in new.ribs c none))
    → (new.ribs.config ≡ t → (none : View) → IsOrdered t c h (outlet_in new.ribs c none)) → new.watched ≡ old.watched → Knows old s c h → Knows new t c h
knows_by old new s t c h session sessions tables outlet ordered watched w = record {
  session = λ x e. subst (λ k. HasHeard x k h.items) session (w.session x (ap (λ v. slice_get v.items c) (sym sessions) ∙ e));
  table = λ p. tables.held c p ∙ w.table p ∙ ap (λ k. if is_up (state_of k h.items) then table_since h.changes p else None) session;
  identifier = tables.identifiers c ∙ w.identifier ∙ ap (λ k. if is_up (state_of k h.items) then agreed_identifier k h.items else 0) session;
  outlet = outlet;
  ordered = ordered;
  watched = watched_still old.watched.items new.watched.items c h.endings h.faults (ap (λ v. v.items) watched) w.watched;
}

-- where nothing but what waits has changed, what is known is known
pub unmoved : (old new : Core) (s : Configuration) (c : ℕ) (h : Hearing) → new.sessions ≡ old.sessions → new.ribs ≡ old.ribs → new.watched ≡ old.watched → Knows old s c h → Knows new s c h
unmoved old new s c h sessions ribs watched w = knows_by old new s s c h refl sessions (subst (λ (r : Ribs). Same old.ribs.tables r.tables) (sym ribs) (record { count = refl; identifiers = λ d. refl; held = λ d q. refl }))
    (λ config none. subst (λ r. SpeaksTo s c h (outlet_in r c none)) (sym ribs) (w.outlet (sym (ap (λ (r : Ribs). r.config) ribs) ∙ config) none))
    (λ config none. subst (λ r. IsOrdered s c h (outlet_in r c none)) (sym ribs) (w.ordered (sym (ap (λ (r : Ribs). r.config) ribs) ∙ config) none)) watched w

speech_fixed : (s t : Configuration) (c : ℕ) (h : Hearing) → session_in s c ≡ session_in t c → speech_in t c h ≡ speech_in s c h
speech_fixed s t c h e = sym (ap (λ (k : Settings). if is_up (state_of k h.items) then speech_by k.extended (agreed_of k h.items) else None) e)

open_fixed : (s t : Configuration) → IsFixed s t → own_open s ≡ own_open t
open_fixed s t h = sym (λ i. record { server_as = h.server_as i; hold = h.hold i; identifier = h.identifier i; multiprotocol = h.multiprotocol i; extended = h.extended i; refresh = h.refresh i })

talks_fixed : (s t : Configuration) (c : ℕ) (h : Hearing) (v w : View) → session_in s c ≡ session_in t c → own_open s ≡ own_open t → IsLeftAlone v w → Talks s c h v → Talks t c h w
talks_fixed s t c h v w session opening alone talk = record {
  messages = subst (λ k. Converses k (own_open t) h.items h.taken (outgoing_of w)) session
      (subst (λ o. Converses (session_in s c) o h.items h.taken (outgoing_of w)) opening
      (subst (λ o. Converses (session_in s c) (own_open s) h.items h.taken o) (sym (ap outgoing_of alone.is)) talk.messages));
  keepalives = λ live. subst (λ k. AreKeepalives (own_open t) (limit_to (update_speech k h.items)) h.keepalives (h.taken ++ w.flight) w.keepalive_due) session
      (subst (λ o. AreKeepalives o (limit_to (update_speech (session_in s c) h.items)) h.keepalives (h.taken ++ w.flight) w.keepalive_due) opening
      (subst (λ (o : View). AreKeepalives (own_open s) (limit_to (update_speech (session_in s c) h.items)) h.keepalives (h.taken ++ o.flight) o.keepalive_due) (sym alone.is)
      (talk.keepalives (ap (λ k. is_live (state_of k h.items)) session ∙ live))));
}

-- another configuration that leaves as it is what has to stay
pub ruled : (old new : Core) (run : List Move) (config : Configuration) → IsFixed (config_in run) config
    → new.count ≡ old.count → new.ribs.config ≡ config → new.sessions ≡ old.sessions → new.buffers ≡ old.buffers → new.watched ≡ old.watched → Same old.ribs.tables new.ribs.tables
    → ChangesAll (λ c. IsMarked new.ribs.tables) old.ribs new.ribs → AgreesOnClients old run → AgreesOnClients new (Ruled config ∷ run)
ruled old new run config fixed count is sessions buffers watched tables marked h = record {
  config = is;
  clients = λ c lt.
      let there = subst (λ n. c < n) count lt in
      let at = h.clients c there in
      let session = session_fixed (config_in run) config c fixed in
      record {
        knows = knows_by old new (config_in run) config c (hearing c run) session sessions tables
            (λ _ none. spoken_on (config_in run) config c (hearing c run) (hearing c run) (outlet_in old.ribs c none) (outlet_in new.ribs c none) (speech_fixed (config_in run) config c (hearing c run) session)
            (λ l. ap (λ k. is_live (state_of k (hearing c run).items)) session ∙ l) refl
            (same_again _ _ (marked_same new.ribs.tables _ _ (marked.each c none (subst (λ n. c < n) (sym old.ribs_len) there))))
            (talks_fixed (config_in run) config c (hearing c run) (outlet_in old.ribs c none) (outlet_in new.ribs c none) session (open_fixed (config_in run) config fixed)
            (marked_alone new.ribs.tables _ _ (marked.each c none (subst (λ n. c < n) (sym old.ribs_len) there))) (at.knows.outlet h.config none).talk) (at.knows.outlet h.config none))
            (λ _ none. let same = marked_same new.ribs.tables _ _ (marked.each c none (subst (λ n. c < n) (sym old.ribs_len) there)) in
            let v = outlet_in old.ribs c none in
            ordered_on (config_in run) config c (hearing c run) (hearing c run) v (outlet_in new.ribs c none) refl
            (ap (λ (x : View). (hearing c run).taken ++ x.flight) same.is) (ap (λ (x : View). x.speech) same.is) (ap (λ (x : View). x.loc) same.is) (ap (λ (x : View). x.told) same.is) (ap (λ (x : View). x.marked) same.is)
            (λ l d. (ap (λ k. is_live (state_of k (hearing c run).items)) session ∙ l, ap (λ k. is_up (state_of k (hearing c run).items)) session ∙ d)) (at.knows.ordered h.config none)) watched at.knows;
        waits = λ x e. waits_by (config_in run) config c x.items (hearing c run) session (allowed_fixed (config_in run) config fixed) (at.waits x (ap (λ v. slice_get v.items c) (sym buffers) ∙ e));
      };
}

-- at the start
pub begun : (core : Core) (config : Configuration) → core.ribs.config ≡ config → HaveHeardNothing config core.sessions.items
    → ((c : ℕ) (p : Prefix) → held_of core.ribs.tables c p ≡ None) → ((c : ℕ) → identifier_of core.ribs.tables c ≡ 0) → AreBare config.top.extended core.ribs.outlets.items
    → ((c : ℕ) → IsWatched core.watched.items c [] []) → AgreesOnClients core (Ruled config ∷ [])
begun core config is sessions held identifiers bare watched = record {
  config = is;
  clients = λ c lt. record {
    knows = record {
      session = sessions c;
      table = held c;
      identifier = identifiers c;
      outlet = λ _ none. let is = bare c none (subst (λ n. c < n) (sym (core.ribs.outlets_len ∙ core.ribs_len)) lt) in
          let silent = bare_silent c config.top.extended lasts.Never (outlet_in core.ribs c none) is in
          spoken_over config c silence (outlet_in core.ribs c none) refl refl silent.speech silent.order
          (record {
            messages = nothing_converses (session_in config c) (own_open config) [] (outgoing_of (outlet_in core.ribs c none)) refl (bare_out c config.top.extended lasts.Never (outlet_in core.ribs c none) is);
            keepalives = λ live. absurd (let f = live in cc);
          });
      ordered = λ _ none. over_ordered config c silence (outlet_in core.ribs c none) refl
          (bare_silent c config.top.extended lasts.Never (outlet_in core.ribs c none) (bare c none (subst (λ n. c < n) (sym (core.ribs.outlets_len ∙ core.ribs_len)) lt))).speech;
      watched = watched c;
    };
    waits = λ x e. record { rest = λ live. absurd (let f = live in cc); good = λ live. absurd (let f = live in cc) };
  };
}
