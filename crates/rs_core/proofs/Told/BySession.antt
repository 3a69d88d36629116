-- What an outlet says to its client, after each thing that befalls its session.
use Rattle.std.proofs.Common.{◌≡◌, inl, inr, ℕ, zero, suc, Bool, true, false, List, [], ◌∷◌, ◌++◌, not, refl, sym, ◌∙◌, ap, subst}
use Rattle.std.specs.Prelude.{Option, Some, None, slice_get, if◌then◌else◌}
use Rattle.std.specs.FinMap as fin
use Rattle.rs_attrs.specs.declared.mode.Mode.{Mode}
use Rattle.rs_session.specs.declared.act.Act.{Act}
use Rattle.rs_session.specs.declared.act.Act.TheVariants as acts
use Rattle.rs_session.specs.declared.session.Session.{Session}
use Rattle.rs_session.specs.declared.act.State.{State}
use Rattle.rs_session.specs.declared.act.State.TheVariants as states
use Rattle.rs_session.specs.declared.heard.Heard.{Heard}
use Rattle.rs_session.specs.declared.settings.Settings.{Settings}
use Rattle.rs_session.specs.declared.command.Command.{Command}
use Rattle.rs_session.specs.Items.{Item, Message, Moment, Commanded, message_count}
use Rattle.rs_session.specs.Endings.{Fate, GoesOn, Ends}
use Rattle.rs_session.specs.Sessions.{state_of, is_live, agreed_of, limit_by, mode_in, mode_by, act_of, message_act, moment_act, command_act, item_fate, falls_due, is_request}
use Rattle.rs_session.specs.Hearing.{HasHeard, Tells, Stays, Says, ComesUp}
use Rattle.rs_open.specs.declared.short.Short.{Short}
use Rattle.rs_open.specs.declared.short.Short.TheVariants as short
use Rattle.rs_policy.specs.Configuration.{Configuration}
use Rattle.rs_outlet.specs.declared.answers.Speech.{Speech}
use Rattle.rs_octets.specs.declared.heads.Kind.TheVariants as kinds
use Rattle.rs_open.specs.Writing.{server_open}
use Rattle.rs_open.specs.declared.open.Open.{Open}
use Rattle.rs_open.specs.declared.short.Limit.{Limit}
use Rattle.rs_open.specs.declared.short.Limit.TheVariants as limits
use Rattle.rs_open.proofs.ShortMessages.{short_is_message}
use Rattle.rs_outlet.specs.Views.{View}
use Rattle.rs_core.specs.Session.Hearing.{Hearing, session_in, state_in, is_up}
use Rattle.rs_core.specs.Run.Meaning.{speech_by, speech_in}
use Rattle.rs_core.specs.Told.Telling.{Speaks, allowed_to, limit_to, no_table}
use Rattle.rs_core.specs.Session.Keepalives.{AreKeepalives, asks_for_keepalive, fell_if}
use Rattle.rs_core.specs.Session.Conversations.{Converses, Outgoing, outgoing_of, own_open, update_speech}
use Rattle.rs_core.specs.Told.Outlets.{IsInOrder, SpeaksTo, SaysTheSame, Talks, IsLeftAlone, IsGreeting, HasComeUp, TellsTheSame, ActsOnOutlet, speech_within}
use Rattle.rs_core.proofs.Session.Conversing.{Moves, IsHeardOrSeen, acted_converses, goes_on_by, kept_speech}
use Rattle.rs_core.proofs.Session.Keepalives.{acted_keepalives, kept_keepalives}
use Rattle.rs_core.proofs.Told.Telling.{silence_speaks, speaks_on, speaks_same}
use Rattle.rs_core.proofs.Told.Alike.{again_same, alone_is, alone_out, due_same, same_again, same_is, still}

-- ---- what was said stays said

pub up_live : (s : Configuration) (c : ℕ) (h : Hearing) → is_up (state_in s c h) ≡ true → is_live (state_in s c h) ≡ true
up_live s c h e = by_state (state_in s c h) e where
  by_state : (x : State) → is_up x ≡ true → is_live x ≡ true
  by_state states.Idle e = absurd (let f : false ≡ true = e in cc)
  by_state states.OpenSent e = refl
  by_state states.OpenConfirm e = refl
  by_state states.Established e = refl
  by_state states.Closing e = absurd (let f : false ≡ true = e in cc)

up_by : (b : Bool) (o : Option Speech) (speech : Speech) → (if b then o else None) ≡ Some speech → b ≡ true
up_by true o speech e = refl
up_by false o speech e = absurd (let f : ◌≡◌ {A = Option Speech} None (Some speech) = e in cc)

-- who is spoken to is Established
pub spoken_up : (s : Configuration) (c : ℕ) (h : Hearing) (speech : Speech) → speech_in s c h ≡ Some speech → is_up (state_in s c h) ≡ true
spoken_up s c h speech e = up_by (is_up (state_in s c h)) (speech_by s.top.extended (agreed_of (session_in s c) h.items)) speech e

pub down_speech : (s : Configuration) (c : ℕ) (h : Hearing) → is_up (state_in s c h) ≡ false → speech_in s c h ≡ None
down_speech s c h e = ap (λ b. if b then speech_by s.top.extended (agreed_of (session_in s c) h.items) else None) e

-- the same where nothing was heard or taken since, and the same is still to be said
pub says_still : (s : Configuration) (c : ℕ) (h : Hearing) (v w : View) → outgoing_of w ≡ outgoing_of v → SpeaksTo s c h v → Talks s c h w
says_still s c h v w same at = record {
  messages = subst (λ o. Converses (session_in s c) (own_open s) h.items h.taken o) (sym same) at.talk.messages;
  keepalives = λ l. subst (λ (o : Outgoing). AreKeepalives (own_open s) (limit_to (update_speech (session_in s c) h.items)) h.keepalives (h.taken ++ o.flight) o.keepalive_due) (sym same) (at.talk.keepalives l);
}

-- the speech is that of before, and so is what was said in all
pub spoken_by : (s t : Configuration) (c : ℕ) (h next : Hearing) (v w : View) → speech_in t c next ≡ speech_in s c h → (is_live (state_in t c next) ≡ true → is_live (state_in s c h) ≡ true)
    → next.taken ++ w.flight ≡ h.taken ++ v.flight → w.speech ≡ v.speech → w.note ≡ v.note → w.told ≡ v.told → IsInOrder w
    → Talks t c next w → SpeaksTo s c h v → SpeaksTo t c next w
spoken_by s t c h next v w speech live octets spoken note told order talk at = record {
  talk = talk;
  speech = spoken ∙ at.speech ∙ sym speech;
  quiet = λ l. note ∙ at.quiet (live l);
  before = λ l none sp. subst (λ o. Speaks sp o no_table) (sym octets) (at.before (live l) (sym spoken ∙ none) sp);
  since = λ sp is. subst (λ o. Speaks sp o (fin.get w.told)) (sym octets) (subst (λ tbl. Speaks sp (h.taken ++ v.flight) (fin.get tbl)) (sym told) (at.since sp (sym spoken ∙ is)));
  order = order;
}

pub spoken_on : (s t : Configuration) (c : ℕ) (h next : Hearing) (v w : View) → speech_in t c next ≡ speech_in s c h → (is_live (state_in t c next) ≡ true → is_live (state_in s c h) ≡ true)
    → next.taken ≡ h.taken → TellsTheSame v w → Talks t c next w → SpeaksTo s c h v → SpeaksTo t c next w
spoken_on s t c h next v w speech live taken same talk at =
    spoken_by s t c h next v w speech live (λ i. taken i ++ same.flight i) same.speech same.note same.told (same.order at.order) talk at

-- nothing was heard since
pub spoken_same : (s : Configuration) (c : ℕ) (h : Hearing) (v w : View) → IsLeftAlone v w → SpeaksTo s c h v → SpeaksTo s c h w
spoken_same s c h v w alone at = spoken_on s s c h h v w refl (λ l. l) refl (same_again v w (still v w alone)) (says_still s c h v w (alone_out v w alone) at) at

-- the session is over, or there is none
pub spoken_over : (s : Configuration) (c : ℕ) (h : Hearing) (v : View) → is_live (state_in s c h) ≡ false → is_up (state_in s c h) ≡ false → v.speech ≡ None → IsInOrder v → Talks s c h v → SpeaksTo s c h v
spoken_over s c h v dead down silent order talk = record {
  speech = silent ∙ sym (down_speech s c h down);
  talk = talk;
  quiet = λ l. absurd (let f : true ≡ false = sym l ∙ dead in cc);
  before = λ l none sp. absurd (let f : true ≡ false = sym l ∙ dead in cc);
  since = λ sp is. absurd (let f : ◌≡◌ {A = Option Speech} None (Some sp) = sym silent ∙ is in cc);
  order = order;
}

-- ---- what a session asks for is done

stays_speech : (s : Configuration) (c : ℕ) (h next : Hearing) → Stays (session_in s c) h.items next.items → speech_in s c next ≡ speech_in s c h
stays_speech s c h next stays = λ i. if is_up (stays.state i) then speech_by s.top.extended (stays.agreed i) else None

pub stayed : (s : Configuration) (c : ℕ) (h next : Hearing) (v w : View) → Stays (session_in s c) h.items next.items → next.taken ≡ h.taken → TellsTheSame v w → Talks s c next w → SpeaksTo s c h v → SpeaksTo s c next w
stayed s c h next v w stays taken same talk at = spoken_on s s c h next v w (stays_speech s c h next stays) (λ l. ap is_live (sym stays.state) ∙ l) taken same talk at

both_down : (s : Configuration) (c : ℕ) (h next : Hearing) → is_up (state_in s c h) ≡ false → is_up (state_in s c next) ≡ false → speech_in s c next ≡ speech_in s c h
both_down s c h next before now = down_speech s c next now ∙ sym (down_speech s c h before)

said_sent : (message : Short) (s : Configuration) (c : ℕ) (h next : Hearing) (v w : View) → (message ≡ short.Open → ⊥) → Says message (session_in s c) h.items next.items
    → next.taken ≡ h.taken → SaysTheSame v w → Talks s c next w → SpeaksTo s c h v → SpeaksTo s c next w
said_sent short.Open s c h next v w not tells taken same talk at = absurd (not refl)
said_sent short.Keepalive s c h next v w not tells taken same talk at = elim tells [
  | inl confirms ↦ spoken_on s s c h next v w (both_down s c h next (ap is_up confirms.before) (ap is_up confirms.now)) (λ l. ap is_live confirms.before) taken (same_again v w same) talk at
  | inr keepalives ↦ stayed s c h next v w keepalives.same taken (same_again v w same) talk at
]
said_sent (short.Note code sub extra count) s c h next v w not tells taken same talk at = absurd tells

-- where there is no room, no long messages were agreed on
room_said : (long extended : Bool) (sent : Open) → long ≡ extended
    → ◌≡◌ {A = Option Speech} (Some (record { mode = mode_in sent.four; limit = if long then limit_by extended (Some sent) else limits.Short })) (Some (record { mode = mode_in sent.four; limit = limit_by extended (Some sent) }))
room_said true true sent e = refl
room_said false false sent e = refl
room_said true false sent e = absurd (let f : true ≡ false = e in cc)
room_said false true sent e = absurd (let f : false ≡ true = e in cc)

come_up_spoken : (s : Configuration) (c : ℕ) (h next : Hearing) (v w : View) (long : Bool) → long ≡ s.top.extended → ComesUp (session_in s c) h.items next.items
    → HasComeUp (speech_within long (session_in s c) (agreed_of (session_in s c) next.items)) v w → next.taken ≡ h.taken → Talks s c next w → SpeaksTo s c h v → SpeaksTo s c next w
come_up_spoken s c h next v w long room tells came_up taken talk at =
    let was_live : is_live (state_in s c h) ≡ true = ap is_live tells.before in
    let was_none : v.speech ≡ None = at.speech ∙ down_speech s c h (ap is_up tells.before) in
    let agreed : w.speech ≡ speech_by s.top.extended (Some tells.sent) = came_up.speech ∙ ap (speech_within long (session_in s c)) tells.agreed ∙ room_said long s.top.extended tells.sent room in
    record {
      speech = agreed ∙ sym (ap (speech_by s.top.extended) tells.agreed) ∙ sym (ap (λ b. if b then speech_by s.top.extended (agreed_of (session_in s c) next.items) else None) (ap is_up tells.now));
      quiet = λ l. came_up.note ∙ at.quiet was_live;
      before = λ l none sp. absurd (let f : ◌≡◌ {A = Option Speech} None (speech_by s.top.extended (Some tells.sent)) = sym none ∙ agreed in cc);
      since = λ sp is. speaks_same sp (next.taken ++ w.flight) no_table (fin.get w.told) came_up.told
          (subst (λ o. Speaks sp o no_table) (λ i. sym taken i ++ sym came_up.flight i) (at.before was_live was_none sp));
      order = came_up.order;
      talk = talk;
    }

-- what is still to be said then
others_alone_move : (act : Act) (long : Bool) (sessions : List Session) (x : Session) (settings : Settings) (c : ℕ) (old new : List Item) (v w : View) → ActsOnOutlet act long c sessions v w → slice_get sessions c ≡ Some x
    → HasHeard x settings new → Tells act settings old new → Moves act (outgoing_of v) (outgoing_of w)
others_alone_move acts.None long sessions x settings c old new v w others_alone read heard tells = alone_out v w (alone_is v w others_alone)
others_alone_move (acts.Say message) long sessions x settings c old new v w others_alone read heard tells = (ap (λ (x : View). x.flight) others_alone.is, ap (λ (x : View). x.note) others_alone.is)
others_alone_move acts.Up long sessions x settings c old new v w others_alone read heard tells = let came_up = others_alone x read settings new heard tells.now in (came_up.flight, came_up.note)
others_alone_move (acts.Down ending) long sessions x settings c old new v w others_alone read heard tells = others_alone.out
others_alone_move acts.Again long sessions x settings c old new v w others_alone read heard tells = (others_alone.flight, others_alone.note)

acted_by : (act : Act) (long : Bool) (s : Configuration) → long ≡ s.top.extended → (sessions : List Session) (x : Session) (c : ℕ) (h next : Hearing) (v w : View) → ActsOnOutlet act long c sessions v w → slice_get sessions c ≡ Some x
    → HasHeard x (session_in s c) next.items → Tells act (session_in s c) h.items next.items → (act ≡ acts.Say short.Open → ⊥) → next.taken ≡ h.taken → Talks s c next w → SpeaksTo s c h v → SpeaksTo s c next w
acted_by acts.None long s room sessions x c h next v w others_alone read heard tells not taken talk at = stayed s c h next v w tells taken (same_again v w (same_is v w others_alone)) talk at
acted_by (acts.Say message) long s room sessions x c h next v w others_alone read heard tells not taken talk at = said_sent message s c h next v w (λ e. not (ap (λ (m : Short). acts.Say m) e)) tells taken (due_same v w others_alone) talk at
acted_by acts.Up long s room sessions x c h next v w others_alone read heard tells not taken talk at =
    come_up_spoken s c h next v w long room tells (others_alone x read (session_in s c) next.items heard tells.now) taken talk at
acted_by (acts.Down ending) long s room sessions x c h next v w others_alone read heard tells not taken talk at = spoken_over s c next w (ap is_live tells.now) (ap is_up tells.now) others_alone.speech others_alone.order talk
acted_by acts.Again long s room sessions x c h next v w others_alone read heard tells not taken talk at = stayed s c h next v w tells.same taken (again_same v w others_alone) talk at

pub acted_spoken : (item : Item) (act : Act) (long : Bool) (s : Configuration) → long ≡ s.top.extended → (sessions : List Session) (x : Session) (c : ℕ) (h next : Hearing) (v w : View) → IsHeardOrSeen item
    → act ≡ act_of (session_in s c) item h.items → next.items ≡ item ∷ h.items → next.keepalives ≡ fell_if (asks_for_keepalive (act_of (session_in s c) item h.items)) h.keepalives → ActsOnOutlet act long c sessions v w → slice_get sessions c ≡ Some x → HasHeard x (session_in s c) next.items
    → Tells act (session_in s c) h.items next.items → (act ≡ acts.Say short.Open → ⊥) → next.taken ≡ h.taken → SpeaksTo s c h v → SpeaksTo s c next w
acted_spoken item act long s room sessions x c h next v w is act_is items keepalives others_alone read heard tells not taken at =
    acted_by act long s room sessions x c h next v w others_alone read heard tells not taken (record {
      messages = subst (λ l. Converses (session_in s c) (own_open s) l next.taken (outgoing_of w)) (sym items) (subst (λ o. Converses (session_in s c) (own_open s) (item ∷ h.items) o (outgoing_of w)) (sym taken)
          (acted_converses item act (session_in s c) (own_open s) h.items h.taken (outgoing_of v) (outgoing_of w) is act_is (subst (λ l. Tells act (session_in s c) h.items l) items tells)
          (others_alone_move act long sessions x (session_in s c) c h.items next.items v w others_alone read heard tells) at.talk.messages));
      keepalives = λ live. let limit : Limit = limit_to (update_speech (session_in s c) next.items) in
          subst (λ b. AreKeepalives (own_open s) limit b (next.taken ++ w.flight) w.keepalive_due) (sym (keepalives ∙ ap (λ a. fell_if (asks_for_keepalive a) h.keepalives) (sym act_is)))
          (subst (λ o. AreKeepalives (own_open s) limit (fell_if (asks_for_keepalive act) h.keepalives) (o ++ w.flight) w.keepalive_due) (sym taken)
          (acted_keepalives act long sessions x (session_in s c) c h.items next.items (own_open s) limit h.keepalives h.taken v w others_alone read heard tells not live
          (λ was. kept_keepalives (own_open s) (update_speech (session_in s c) h.items) (update_speech (session_in s c) next.items) h.keepalives (h.taken ++ v.flight) v.keepalive_due
          (kept_speech act (session_in s c) h.items next.items (goes_on_by act (session_in s c) h.items next.items tells live) tells was) (at.talk.keepalives was))));
    }) at

-- no message, no moment and no command asks for an OPEN of ours

request_open : (b : Bool) → (if b then acts.Again else acts.None) ≡ acts.Say short.Open → ⊥
request_open true e = cc
request_open false e = cc

message_open : (b : Bool) (f : Fate) (n : ℕ) (message : Heard) → (if b then message_act f n message else acts.None) ≡ acts.Say short.Open → ⊥
message_open false f n message e = cc
message_open true (Ends said) n message e = cc
message_open true GoesOn zero message e = cc
message_open true GoesOn (suc zero) message e = cc
message_open true GoesOn (suc (suc n)) message e = request_open (is_request message) e

moment_open : (b : Bool) (f : Fate) (falls : Bool) → (if b then moment_act f falls else acts.None) ≡ acts.Say short.Open → ⊥
moment_open false f falls e = cc
moment_open true (Ends said) falls e = cc
moment_open true GoesOn true e = cc
moment_open true GoesOn false e = cc

command_open : (b : Bool) (f : Fate) (n : ℕ) → (if b then command_act f n else acts.None) ≡ acts.Say short.Open → ⊥
command_open false f n e = cc
command_open true (Ends said) n e = cc
command_open true GoesOn zero e = cc
command_open true GoesOn (suc zero) e = cc
command_open true GoesOn (suc (suc n)) e = cc

pub never_open_by_message : (settings : Settings) (message : Heard) (items : List Item) → act_of settings (Message message) items ≡ acts.Say short.Open → ⊥
never_open_by_message settings message items e = message_open (is_live (state_of settings items)) (item_fate settings (Message message) items) (message_count items) message e

pub never_open_by_moment : (settings : Settings) (t : ℕ) (items : List Item) → act_of settings (Moment t) items ≡ acts.Say short.Open → ⊥
never_open_by_moment settings t items e = moment_open (is_live (state_of settings items)) (item_fate settings (Moment t) items) (falls_due settings t items) e

pub never_open_by_command : (settings : Settings) (command : Command) (items : List Item) → act_of settings (Commanded command) items ≡ acts.Say short.Open → ⊥
never_open_by_command settings command items e = command_open (is_live (state_of settings items)) (item_fate settings (Commanded command) items) (message_count items) e

-- ---- a connection came

-- the server's OPEN is all that is said
pub greeted : (s : Configuration) (c : ℕ) (h : Hearing) (v : View) → IsGreeting (own_open s) v → h.taken ≡ [] → is_up (state_in s c h) ≡ false → Talks s c h v → SpeaksTo s c h v
greeted s c h v greets none down talk = record {
  talk = talk;
  speech = greets.silent.speech ∙ sym (down_speech s c h down);
  quiet = λ l. greets.note;
  before = λ l silent sp. subst (λ o. Speaks sp o no_table) (λ i. sym none i ++ sym greets.flight i)
      (speaks_on sp [] (server_open (own_open s)) kinds.Open no_table refl (short_is_message (allowed_to sp.limit) (own_open s) short.Open tt) (silence_speaks sp));
  since = λ sp is. absurd (let f : ◌≡◌ {A = Option Speech} None (Some sp) = sym greets.silent.speech ∙ is in cc);
  order = greets.silent.order;
}

-- ---- coming up

pub come_up_is : (a : Option Open) (long : Bool) (settings : Settings) (mode : Mode) (limit : Limit) → Some mode ≡ mode_by a → limit ≡ limit_by settings.extended a
    → ◌≡◌ {A = Option Speech} (Some (record { mode = mode; limit = if long then limit else limits.Short })) (speech_within long settings a)
come_up_is None long settings mode limit m l = absurd (let f : ◌≡◌ {A = Option Mode} (Some mode) None = m in cc)
come_up_is (Some sent) long settings mode limit m l = let same : mode ≡ mode_in sent.four = cc in λ i. Some (record { mode = same i; limit = if long then l i else limits.Short })
