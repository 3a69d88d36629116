-- What a session asks for is done: what is known of its client then.
use Rattle.std.proofs.Common.{◌≡◌, ◌<◌, ℕ, zero, suc, Bool, true, false, ◌&&◌, List, [], ◌∷◌, length, get_or, refl, sym, ◌∙◌, ap, subst}
use Rattle.std.specs.Prelude.{Option, Some, None, slice_get, slice_set, if◌then◌else◌}
use Rattle.std.specs.List.{cons_option}
use Rattle.std.proofs.lemmas.Bool.{false≢true}
use Rattle.std.proofs.lemmas.Option.{slice_get_read}
use Rattle.std.specs.Global.{Vec}
use Rattle.rs_open.specs.Notes.{shutdown_note}
use Rattle.rs_open.specs.declared.short.Short.TheVariants as short
use Rattle.rs_session.specs.declared.act.Act.{Act}
use Rattle.rs_session.specs.declared.act.Act.TheVariants as acts
use Rattle.rs_session.specs.declared.session.Session.{Session}
use Rattle.rs_session.specs.declared.settings.Settings.{Settings}
use Rattle.rs_session.specs.Items.{Item, Came, Message, Moment, Commanded, is_connected, message_count}
use Rattle.rs_session.specs.Endings.{Fate, GoesOn, Ends, message_fate, command_fate}
use Rattle.rs_session.specs.Sessions.{state_of, state_by, is_live, is_request, is_refresh, fate, earlier, item_fate, falls_due, message_act, moment_act, command_act, act_of}
use Rattle.rs_session.specs.Hearing.{HasHeard, Tells, RespondsTo, Opens}
use Rattle.rs_adjin.specs.AdjIns.{held_of, identifier_of}
use Rattle.rs_policy.specs.Configuration.{Configuration}
use Rattle.rs_session.specs.declared.command.Command.{Command}
use Rattle.rs_session.specs.declared.command.Command.TheVariants as commands
use Rattle.rs_session.specs.declared.heard.Heard.{Heard}
use Rattle.rs_session.specs.declared.heard.Heard.TheVariants as heard
use Rattle.rs_attrs.specs.Effects.{Change}
use Rattle.rs_core.specs.Session.Hearing.{Hearing, takes_in, with_change, session_in, state_in, is_up, begins, sees, commanded}
use Rattle.rs_core.specs.Told.Points.{asked_if}
use Rattle.rs_core.specs.Session.OperatorRecords.{expiry_by, command_ending, no_faults, watched_by, IsWatched, NotesEnding}
use Rattle.rs_attrs.specs.declared.faults.Faulted.{Faulted}
use Rattle.rs_core.specs.Core.{client_count}
use Rattle.rs_core.specs.Others.{KeepsOthers}
use Rattle.rs_core.specs.declared.endings.Ending.{Ending}
use Rattle.rs_core.specs.declared.endings.Watched.{Watched}
use Rattle.rs_core.specs.Run.Parts.{Follows, IsSpared, ActsOn}
use Rattle.rs_core.specs.Run.Agreeing.{Knows, AgreesAt, Spares}
use Rattle.rs_outlet.specs.Views.{View}
use Rattle.rs_core.specs.Ribs.{KeepsAnswers, outlet_in}
use Rattle.rs_core.specs.Session.Conversations.{outgoing_of, own_open}
use Rattle.rs_core.specs.Told.Outlets.{IsGreeting, LeavesOthersAlone, ActsOnOutlet}
use Rattle.rs_core.specs.declared.route_server.Core.{Core}
use Rattle.rs_core.proofs.Run.Lists.{get_set_same, set_at}
use Rattle.rs_core.specs.Session.Keepalives.{asks_for_keepalive, fell_if}
use Rattle.rs_core.proofs.Session.Keepalives.{first_keepalives}
use Rattle.rs_core.proofs.Session.OperatorRecords.{noted_by, watched_still}
use Rattle.rs_core.proofs.Session.Conversing.{IsHeardOrSeen}
use Rattle.rs_core.proofs.Session.Proceeding.{came_converses}
use Rattle.rs_core.proofs.Told.BySession.{acted_spoken, greeted, never_open_by_command, never_open_by_moment}
use Rattle.rs_core.proofs.Told.Ordering.{acted_ordered, greeted_ordered}
use Rattle.rs_core.proofs.Run.Holding.{Has, IsAlike, acted_has, both_down}

-- ---- a session has heard one item more, and what it asked for is done

-- the session of client c was x and is t after this item, by which it asks for act; that is done, and whether it ended so is noted
pub record HasActed (old new : Core) (c : ℕ) (item : Item) (act : Act) (x t : Session) (ending : Option Ending) : Type 0 where
  pub read : slice_get old.sessions.items c ≡ Some x
  pub here : c < length old.sessions.items
  pub sessions : new.sessions.items ≡ slice_set old.sessions.items c t
  pub buffers : new.buffers ≡ old.buffers
  pub config : new.ribs.config ≡ old.ribs.config
  pub responds : RespondsTo x t item act
  pub tables : ActsOn act c (slice_set old.sessions.items c t) old.ribs.tables new.ribs.tables
  pub own : (none : View) → ActsOnOutlet act old.ribs.extended c (slice_set old.sessions.items c t) (outlet_in old.ribs c none) (outlet_in new.ribs c none)
  pub notes : NotesEnding c ending old.watched.items new.watched.items

-- the session and what is kept for the operator were u and are w then
pub has_acted : (old new : Core) (c : ℕ) (item : Item) (act : Act) (x t : Session) (u w : Watched) (found ending : Option Ending) → c < client_count old → x ≡ get_or old.sessions.items c x → u ≡ get_or old.watched.items c u
    → RespondsTo x t item act → found ≡ ending → ((endings : List Ending) (faults : List Faulted) → u ≡ watched_by endings faults → w ≡ watched_by (cons_option found endings) faults)
    → new.sessions.items ≡ slice_set old.sessions.items c t → new.watched.items ≡ slice_set old.watched.items c w → new.buffers ≡ old.buffers → new.ribs.config ≡ old.ribs.config
    → ActsOn act c (slice_set old.sessions.items c t) old.ribs.tables new.ribs.tables
    → ((none : View) → ActsOnOutlet act old.ribs.extended c (slice_set old.sessions.items c t) (outlet_in old.ribs c none) (outlet_in new.ribs c none))
    → HasActed old new c item act x t ending
unfolding client_count
has_acted old new c item act x t u w found ending lt x_is u_is responds is by sessions watched buffers config tables own = record {
  read = slice_get_read old.sessions.items old.count c x (sym old.sessions_len) lt x_is;
  here = subst (λ n. c < n) (sym old.sessions_len) lt;
  sessions = sessions;
  buffers = buffers;
  config = config;
  responds = responds;
  tables = tables;
  own = own;
  notes = noted_by old.watched.items new.watched.items c u w found ending (slice_get_read old.watched.items old.count c u (sym old.watched_len) lt u_is) (subst (λ n. c < n) (sym old.watched_len) lt) watched is by;
}

-- the client asked for all routes again by this item, or it did not
pub record HasAskedIf (item : Item) (s : Configuration) (c : ℕ) (h next : Hearing) : Type 0 where
  pub has_asked : Bool
  pub points : next.points ≡ asked_if has_asked h.points
  pub again : act_of (session_in s c) item h.items ≡ acts.Again → has_asked ≡ true
  pub only : has_asked ≡ true → act_of (session_in s c) item h.items ≡ acts.Again

-- all is told again only where an Established client asks for it
asks_by : (b : Bool) (was now : Fate) (n : ℕ) (message : Heard) → (if is_live (state_by b was n) then message_act now n message else acts.None) ≡ acts.Again
    → (is_up (state_by b was n) && is_request message) ≡ true
asks_by false was now n message e = absurd (let f : ◌≡◌ {A = Act} acts.None acts.Again = e in cc)
asks_by true (Ends _) now n message e = absurd (let f : ◌≡◌ {A = Act} acts.None acts.Again = e in cc)
asks_by true GoesOn (Ends said) zero message e = absurd (let f : ◌≡◌ {A = Act} (acts.Down said) acts.Again = e in cc)
asks_by true GoesOn (Ends said) (suc zero) message e = absurd (let f : ◌≡◌ {A = Act} (acts.Down said) acts.Again = e in cc)
asks_by true GoesOn (Ends said) (suc (suc n)) message e = absurd (let f : ◌≡◌ {A = Act} (acts.Down said) acts.Again = e in cc)
asks_by true GoesOn GoesOn zero message e = absurd (let f : ◌≡◌ {A = Act} (acts.Say short.Keepalive) acts.Again = e in cc)
asks_by true GoesOn GoesOn (suc zero) message e = absurd (let f : ◌≡◌ {A = Act} acts.Up acts.Again = e in cc)
asks_by true GoesOn GoesOn (suc (suc n)) message e = by_test (is_request message) e where
  by_test : (r : Bool) → (if r then acts.Again else acts.None) ≡ acts.Again → r ≡ true
  by_test true e = refl
  by_test false e = absurd (let f : ◌≡◌ {A = Act} acts.None acts.Again = e in cc)

asked_is_told : (b : Bool) (was : Fate) (n peer_as : ℕ) (message : Heard) → (is_up (state_by b was n) && is_request message) ≡ true
    → (if is_live (state_by b was n) then message_act (message_fate peer_as n message) n message else acts.None) ≡ acts.Again
asked_is_told false was n peer_as message e = absurd (false≢true e)
asked_is_told true (Ends _) n peer_as message e = absurd (false≢true e)
asked_is_told true GoesOn zero peer_as message e = absurd (false≢true e)
asked_is_told true GoesOn (suc zero) peer_as message e = absurd (false≢true e)
asked_is_told true GoesOn (suc (suc n)) peer_as (heard.Refresh afi safi) e = ap (λ r. if r then acts.Again else acts.None) e
asked_is_told true GoesOn (suc (suc n)) peer_as (heard.Open read) e = absurd (false≢true e)
asked_is_told true GoesOn (suc (suc n)) peer_as (heard.Update reset) e = absurd (false≢true e)
asked_is_told true GoesOn (suc (suc n)) peer_as heard.Note e = absurd (false≢true e)
asked_is_told true GoesOn (suc (suc n)) peer_as heard.Keepalive e = absurd (false≢true e)
asked_is_told true GoesOn (suc (suc n)) peer_as (heard.Header fault) e = absurd (false≢true e)

pub asked_by_message : (s : Configuration) (c : ℕ) (message : Heard) (h next : Hearing) → next.points ≡ asked_if (is_up (state_in s c h) && is_request message) h.points → HasAskedIf (Message message) s c h next
asked_by_message s c message h next points = record {
  has_asked = is_up (state_in s c h) && is_request message;
  points = points;
  again = asks_by (is_connected h.items) (fate (session_in s c) h.items) (item_fate (session_in s c) (Message message) h.items) (message_count h.items) message;
  only = asked_is_told (is_connected h.items) (fate (session_in s c) h.items) (message_count h.items) (session_in s c).peer_as message;
}

never_again_by : (b : Bool) (f : Fate) (falls : Bool) → (if b then moment_act f falls else acts.None) ≡ acts.Again → ⊥
never_again_by false f falls e = cc
never_again_by true (Ends _) falls e = cc
never_again_by true GoesOn true e = cc
never_again_by true GoesOn false e = cc

pub asked_by_no_moment : (s : Configuration) (c t : ℕ) (h : Hearing) → HasAskedIf (Moment t) s c h (sees s c t h)
asked_by_no_moment s c t h = record {
  has_asked = false;
  points = refl;
  only = λ e. absurd (false≢true e);
  again = λ e. absurd (never_again_by (is_live (state_of (session_in s c) h.items)) (item_fate (session_in s c) (Moment t) h.items) (falls_due (session_in s c) t h.items) e);
}

-- or where the operator commands it of one that is Established
commands_by : (b : Bool) (was : Fate) (n : ℕ) (command : Command) → (if is_live (state_by b was n) then command_act (command_fate command) n else acts.None) ≡ acts.Again
    → (is_up (state_by b was n) && is_refresh command) ≡ true
commands_by false was n command e = absurd (let f : ◌≡◌ {A = Act} acts.None acts.Again = e in cc)
commands_by true (Ends _) n command e = absurd (let f : ◌≡◌ {A = Act} acts.None acts.Again = e in cc)
commands_by true GoesOn zero (commands.Stop text) e = absurd (let f : ◌≡◌ {A = Act} (acts.Down (Some (shutdown_note text))) acts.Again = e in cc)
commands_by true GoesOn (suc zero) (commands.Stop text) e = absurd (let f : ◌≡◌ {A = Act} (acts.Down (Some (shutdown_note text))) acts.Again = e in cc)
commands_by true GoesOn (suc (suc n)) (commands.Stop text) e = absurd (let f : ◌≡◌ {A = Act} (acts.Down (Some (shutdown_note text))) acts.Again = e in cc)
commands_by true GoesOn zero commands.Refresh e = absurd (let f : ◌≡◌ {A = Act} acts.None acts.Again = e in cc)
commands_by true GoesOn (suc zero) commands.Refresh e = absurd (let f : ◌≡◌ {A = Act} acts.None acts.Again = e in cc)
commands_by true GoesOn (suc (suc n)) commands.Refresh e = refl

commanded_is_told : (b : Bool) (was : Fate) (n : ℕ) (command : Command) → (is_up (state_by b was n) && is_refresh command) ≡ true
    → (if is_live (state_by b was n) then command_act (command_fate command) n else acts.None) ≡ acts.Again
commanded_is_told false was n command e = absurd (false≢true e)
commanded_is_told true (Ends _) n command e = absurd (false≢true e)
commanded_is_told true GoesOn zero command e = absurd (false≢true e)
commanded_is_told true GoesOn (suc zero) command e = absurd (false≢true e)
commanded_is_told true GoesOn (suc (suc n)) commands.Refresh e = refl
commanded_is_told true GoesOn (suc (suc n)) (commands.Stop text) e = absurd (false≢true e)

pub asked_by_command : (s : Configuration) (c : ℕ) (command : Command) (h : Hearing) → HasAskedIf (Commanded command) s c h (commanded s c command h)
asked_by_command s c command h = record {
  has_asked = is_up (state_in s c h) && is_refresh command;
  points = refl;
  again = commands_by (is_connected h.items) (fate (session_in s c) h.items) (message_count h.items) command;
  only = commanded_is_told (is_connected h.items) (fate (session_in s c) h.items) (message_count h.items) command;
}

pub acted : (old new : Core) (act : Act) (item : Item) (x t : Session) (s : Configuration) (c : ℕ) (h next : Hearing) (ending : Act → Option Ending)
    → IsHeardOrSeen item → HasActed old new c item act x t (ending act)
    → (act_of (session_in s c) item h.items ≡ acts.Say short.Open → ⊥) → next.items ≡ item ∷ h.items → next.keepalives ≡ fell_if (asks_for_keepalive (act_of (session_in s c) item h.items)) h.keepalives → next.taken ≡ h.taken → HasAskedIf item s c h next
    → (is_up (state_in s c h) ≡ false → act_of (session_in s c) item h.items ≡ acts.Up → next.changes ≡ [])
    → (is_up (state_in s c h) ≡ true → is_up (state_in s c next) ≡ true → next.changes ≡ h.changes)
    → next.endings ≡ cons_option (ending (act_of (session_in s c) item h.items)) h.endings → next.faults ≡ h.faults
    → Knows old s c h → Knows new s c next
acted old new act item x t s c h next ending is_item done never items keepalives taken asked fresh same endings faults knows =
    let it = done.responds (session_in s c) h.items (knows.session x done.read) in
    let heard : HasHeard t (session_in s c) next.items = subst (λ l. HasHeard t (session_in s c) l) (sym items) it.heard in
    let tells : Tells act (session_in s c) h.items next.items = subst (λ l. Tells act (session_in s c) h.items l) (sym items) it.tells in
    let got = get_set_same old.sessions.items c t done.here in
    let has : Has new.ribs.tables s c next =
    acted_has act old.ribs.tables new.ribs.tables (slice_set old.sessions.items c t) t s c h next done.tables got heard tells
    (λ down up. fresh down (sym it.act_is ∙ up)) same (record { table = knows.table; identifier = knows.identifier }) in
    record {
      session = λ y e. subst (λ z. HasHeard z (session_in s c) next.items) (sym ((set_at old.sessions.items c t done.here).own y (ap (λ l. slice_get l c) (sym done.sessions) ∙ e))) heard;
      table = has.table;
      identifier = has.identifier;
      outlet = λ is none. acted_spoken item act old.ribs.extended s (old.ribs.long ∙ ap (λ (k : Configuration). k.top.extended) (sym done.config ∙ is)) (slice_set old.sessions.items c t) t c h next (outlet_in old.ribs c none) (outlet_in new.ribs c none)
          is_item it.act_is items keepalives (done.own none) got heard tells
          (λ e. never (sym it.act_is ∙ e)) taken (knows.outlet (sym done.config ∙ is) none);
      ordered = λ is none. acted_ordered act old.ribs.extended (slice_set old.sessions.items c t) t s c h next (outlet_in old.ribs c none) (outlet_in new.ribs c none) asked.has_asked (knows.outlet (sym done.config ∙ is) none).order asked.points
          (λ e. asked.again (sym it.act_is ∙ e)) (λ e. it.act_is ∙ asked.only e) (done.own none) got heard tells (λ e. never (sym it.act_is ∙ e)) taken (knows.ordered (sym done.config ∙ is) none);
      watched = subst (λ fs. IsWatched new.watched.items c next.endings fs) (sym faults) (subst (λ es. IsWatched new.watched.items c es h.faults) (ap (λ a. cons_option (ending a) h.endings) it.act_is ∙ sym endings)
          (done.notes.own h.endings h.faults knows.watched));
    }

pub acted_spares : (old new : Core) (c : ℕ) (t : Session) → new.count ≡ old.count → new.ribs.config ≡ old.ribs.config → c < length old.sessions.items
    → new.sessions.items ≡ slice_set old.sessions.items c t → new.buffers ≡ old.buffers → IsSpared c old.ribs.tables new.ribs.tables → LeavesOthersAlone c old.ribs new.ribs
    → KeepsOthers c old.watched.items new.watched.items → KeepsAnswers old.ribs new.ribs → Spares c old new
acted_spares old new c t count config lt sessions buffers spared others_alone watched answers = record {
  count = count;
  config = config;
  sessions = λ d ne. ap (λ l. slice_get l d) sessions ∙ (set_at old.sessions.items c t lt).others d ne;
  buffers = λ d ne. ap (λ v. slice_get v.items d) buffers;
  held = spared.held;
  identifiers = spared.identifiers;
  others_alone = others_alone;
  watched = watched;
  answers = answers;
}

-- ---- a moment

never_up_by : (b : Bool) (f : Fate) (falls : Bool) → (if b then moment_act f falls else acts.None) ≡ acts.Up → ⊥
never_up_by false f falls e = cc
never_up_by true (Ends _) falls e = cc
never_up_by true GoesOn true e = cc
never_up_by true GoesOn false e = cc

never_up : (settings : Settings) (t : ℕ) (items : List Item) → act_of settings (Moment t) items ≡ acts.Up → ⊥
never_up settings t items e = never_up_by (is_live (state_of settings items)) (item_fate settings (Moment t) items) (falls_due settings t items) e

live_by : (b : Bool) (was more : Fate) (n : ℕ) → is_live (state_by b (earlier was more) n) ≡ true → is_live (state_by b was n) ≡ true
live_by false was more n e = absurd (cc)
live_by true (Ends _) more n e = e
live_by true GoesOn (Ends _) n e = absurd (cc)
live_by true GoesOn GoesOn n e = e

-- a session that lasts after a moment lasted before it
live_before : (settings : Settings) (t : ℕ) (items : List Item) → is_live (state_of settings (Moment t ∷ items)) ≡ true → is_live (state_of settings items) ≡ true
live_before settings t items e = live_by (is_connected items) (fate settings items) (item_fate settings (Moment t) items) (message_count items) e

pub seen : (old new : Core) (act : Act) (x after : Session) (s : Configuration) (c t : ℕ) (h : Hearing)
    → HasActed old new c (Moment t) act x after (expiry_by act) → AgreesAt old s c h → AgreesAt new s c (sees s c t h)
seen old new act x after s c t h done at = record {
  knows = acted old new act (Moment t) x after s c h (sees s c t h) expiry_by tt done (never_open_by_moment (session_in s c) t h.items) refl refl refl (asked_by_no_moment s c t h)
      (λ down up. absurd (never_up (session_in s c) t h.items up)) (λ before now. refl) refl refl at.knows;
  waits = λ y e. let w = at.waits y (ap (λ v. slice_get v.items c) (sym done.buffers) ∙ e) in record {
    rest = λ live. w.rest (live_before (session_in s c) t h.items live);
    good = λ live. w.good (live_before (session_in s c) t h.items live);
  };
}

-- ---- a command

never_up_at : (b : Bool) (f : Fate) (n : ℕ) → (if b then command_act f n else acts.None) ≡ acts.Up → ⊥
never_up_at false f n e = cc
never_up_at true (Ends _) n e = cc
never_up_at true GoesOn zero e = cc
never_up_at true GoesOn (suc zero) e = cc
never_up_at true GoesOn (suc (suc n)) e = cc

-- by a command no KEEPALIVE falls due
falls_never : (b : Bool) (f : Fate) (n : ℕ) → asks_for_keepalive (if b then command_act f n else acts.None) ≡ false
falls_never false f n = refl
falls_never true (Ends _) n = refl
falls_never true GoesOn zero = refl
falls_never true GoesOn (suc zero) = refl
falls_never true GoesOn (suc (suc n)) = refl

pub obeyed : (old new : Core) (act : Act) (x after : Session) (s : Configuration) (c : ℕ) (command : Command) (h : Hearing)
    → HasActed old new c (Commanded command) act x after (command_ending act) → AgreesAt old s c h → AgreesAt new s c (commanded s c command h)
obeyed old new act x after s c command h done at = record {
  knows = acted old new act (Commanded command) x after s c h (commanded s c command h) command_ending tt done (never_open_by_command (session_in s c) command h.items) refl none_fell refl (asked_by_command s c command h)
      (λ down up. absurd (never_up_at lasts now n up)) (λ before now. refl) refl refl at.knows;
  waits = λ y e. let w = at.waits y (ap (λ v. slice_get v.items c) (sym done.buffers) ∙ e) in record {
    rest = λ live. w.rest (before live);
    good = λ live. w.good (before live);
  };
} where
  lasts : Bool
  lasts = is_live (state_in s c h)

  now : Fate
  now = item_fate (session_in s c) (Commanded command) h.items

  n : ℕ
  n = message_count h.items

  none_fell : h.keepalives ≡ fell_if (asks_for_keepalive (act_of (session_in s c) (Commanded command) h.items)) h.keepalives
  none_fell = ap (λ b. fell_if b h.keepalives) (sym (falls_never lasts now n))

  before : is_live (state_of (session_in s c) (Commanded command ∷ h.items)) ≡ true → is_live (state_in s c h) ≡ true
  before live = live_by (is_connected h.items) (fate (session_in s c) h.items) now n live

-- ---- a connection came

pub opens_from : (settings : Settings) (items : List Item) (act : Act) → act ≡ act_of settings Came items → Tells act settings items (Came ∷ items) → Opens settings items (Came ∷ items)
opens_from settings items act e tells = subst (λ a. Tells a settings items (Came ∷ items)) e tells

pub came : (old new : Core) (act : Act) (x t : Session) (s : Configuration) (c : ℕ) (h : Hearing)
    → slice_get old.sessions.items c ≡ Some x → c < length old.sessions.items → new.sessions.items ≡ slice_set old.sessions.items c t
    → ((b : Vec ℕ) → slice_get new.buffers.items c ≡ Some b → b.items ≡ []) → new.ribs.tables ≡ old.ribs.tables → new.ribs.config ≡ old.ribs.config → ((none : View) → IsGreeting (own_open old.ribs.config) (outlet_in new.ribs c none))
    → RespondsTo x t Came act → new.watched ≡ old.watched → AgreesAt old s c h → AgreesAt new s c (begins h)
came old new act x t s c h read lt sessions emptied tables config greets responds watched at =
    let it = responds (session_in s c) h.items (at.knows.session x read) in
    let opens = opens_from (session_in s c) h.items act it.act_is it.tells in
    let alike : IsAlike s c h (begins h) = both_down s c h (begins h) (ap is_up opens.before) (ap is_up opens.now) in
    record {
      knows = record {
        session = λ y e. subst (λ z. HasHeard z (session_in s c) (Came ∷ h.items)) (sym ((set_at old.sessions.items c t lt).own y (ap (λ l. slice_get l c) (sym sessions) ∙ e))) it.heard;
        table = λ p. ap (λ ins. held_of ins c p) tables ∙ at.knows.table p ∙ alike.table p;
        identifier = ap (λ ins. identifier_of ins c) tables ∙ at.knows.identifier ∙ alike.identifier;
        outlet = λ is none. let own = greets_as is none in greeted s c (begins h) (outlet_in new.ribs c none) own refl (ap is_up opens.now)
            (record {
              messages = came_converses (session_in s c) (own_open s) h.items (outgoing_of (outlet_in new.ribs c none)) own.flight own.note;
              keepalives = λ live. first_keepalives (own_open s) (outlet_in new.ribs c none).flight (outlet_in new.ribs c none).keepalive_due own.flight own.keepalive_due;
            });
        ordered = λ is none. greeted_ordered s c (begins h) (outlet_in new.ribs c none) (greets_as is none) refl refl;
        watched = watched_still old.watched.items new.watched.items c h.endings h.faults (ap (λ v. v.items) watched) at.knows.watched;
      };
      waits = λ b e. record { rest = λ live. emptied b e; good = λ live. refl };
    } where
      greets_as : new.ribs.config ≡ s → (none : View) → IsGreeting (own_open s) (outlet_in new.ribs c none)
      greets_as is none = subst (λ k. IsGreeting (own_open k) (outlet_in new.ribs c none)) (sym config ∙ is) (greets none)

-- a message that changes nothing while the session lasts
pub said_follows : (s : Configuration) (c : ℕ) (message : Heard) (change : Option Change) (notice : List ℕ) (h : Hearing)
    → let next = takes_in s c (record { message = message; change = change; notice = notice; faulted = no_faults }) h in
    (is_up (state_in s c h) ≡ true → is_up (state_in s c next) ≡ true → next.changes ≡ h.changes) → Follows s c message notice h next
said_follows s c message change notice h same = record {
  items = refl;
  taken = refl;
  points = refl;
  keepalives = refl;
  endings = refl;
  faults = refl;
  fresh = λ down. ap (λ b. if b then with_change change h.changes else []) down;
  same = same;
}

-- nor at all
pub alone_follows : (s : Configuration) (c : ℕ) (message : Heard) (notice : List ℕ) (h : Hearing) → Follows s c message notice h (takes_in s c (record { message = message; change = None; notice = notice; faulted = no_faults }) h)
alone_follows s c message notice h = said_follows s c message None notice h (λ up now. ap (λ b. if b then h.changes else []) up)
