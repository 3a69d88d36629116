-- Laws of sessions.
use Rattle.std.proofs.Common.{◌≡◌, ◌≢◌, ℕ, zero, suc, ◌-◌, ◌/◌, ◌<◌, ◌≤◌, Bool, true, false, min, max, List, [], ◌∷◌, ◌++◌, All, Option, Some, None, Ok, Err, refl, sym, ap, subst, ◌∙◌, if◌then◌else◌, arith}
use Rattle.std.proofs.lemmas.List.Elements.{All-nil, All-cons}
use Rattle.std.proofs.lemmas.Grind.{common_steps}
use Rattle.std.proofs.lemmas.Bool.Decides.{nat_tests}
use Rattle.rs_open.specs.declared.open.Open.{Open}
use Rattle.rs_open.specs.declared.short.Short.{Short}
use Rattle.rs_session.specs.declared.heard.Heard.{Heard}
use Rattle.rs_session.specs.declared.heard.Heard.TheVariants as heard
use Rattle.rs_session.specs.declared.act.State.{State}
use Rattle.rs_session.specs.declared.act.State.TheVariants as states
use Rattle.rs_session.specs.declared.act.Act.TheVariants as acts
use Rattle.rs_session.specs.declared.settings.Settings.{Settings}
use Rattle.rs_session.specs.Items.{Item, Came, Message, Moment, Commanded, Left, greatest, is_connected, message_count, restarts_hold_timer, hold_timer_since, open_in, open_heard}
use Rattle.rs_session.specs.Endings.{Fate, GoesOn, Ends, is_from_as, first_fate, second_fate, later_fate, message_fate, open_wait, moment_fate, hold_time, is_past}
use Rattle.rs_session.specs.Sessions.{fate, item_fate, earlier, state_by, state_of, is_live, agreed_by, is_third_past, falls_by, keepalive_timer_since, falls_due, message_act, moment_act, command_act}
use Rattle.rs_session.specs.Laws.{messages_heard, BringsUp, KeepsTime, EndsOnce}
use Rattle.rs_session.proofs.Phases.{state_at}

-- ---- what a state says of the items

pub record Lasts (s : Settings) (items : List Item) : Type 0 where
  pub connected : is_connected items ≡ true
  pub goes_on : fate s items ≡ GoesOn

lasts_by : (c : Bool) (f : Fate) (k : ℕ) → is_live (state_by c f k) ≡ true → (c ≡ true) × (f ≡ GoesOn)
lasts_by false f k e = cc
lasts_by true (Ends said) k e = cc
lasts_by true GoesOn k e = (refl, refl)

pub live_lasts : (s : Settings) (items : List Item) → is_live (state_of s items) ≡ true → Lasts s items
live_lasts s items e =
    let h : (is_connected items ≡ true) × (fate s items ≡ GoesOn) = lasts_by (is_connected items)
    (fate s items) (message_count items) e in
    record { connected = h.0; goes_on = h.1 }

pub count_by : (k : ℕ) → state_by true GoesOn k ≡ states.Established → (more : ℕ) × (k ≡ suc (suc more))
count_by zero e = cc
count_by (suc zero) e = cc
count_by (suc (suc k)) e = (k, refl)

-- ---- an earlier item ended nothing

earlier_goes : (f g : Fate) → earlier f g ≡ GoesOn → (f ≡ GoesOn) × (g ≡ GoesOn)
earlier_goes GoesOn g e = (refl, e)
earlier_goes (Ends said) g e = cc

-- ---- what was heard, by how many messages there were

record OpenCame (s : Settings) (messages : List Heard) (first : Option Open) : Type 0 where
  sent : Open
  heard : messages ≡ heard.Open (Ok sent) ∷ []
  peer : is_from_as s.peer_as sent.my_as sent.four ≡ true
  first_is : first ≡ Some sent

record MoreCame (s : Settings) (messages : List Heard) (first : Option Open) : Type 0 where
  sent : Open
  later : List Heard
  heard : messages ≡ later ++ (heard.Keepalive ∷ heard.Open (Ok sent) ∷ [])
  peer : is_from_as s.peer_as sent.my_as sent.four ≡ true
  allowed : All (λ message. later_fate message ≡ GoesOn) later
  first_is : first ≡ Some sent

abbrev HasCome : Settings → List Heard → Option Open → ℕ → Type 0
HasCome s messages first zero = messages ≡ []
HasCome s messages first (suc zero) = OpenCame s messages first
HasCome s messages first (suc (suc k)) = MoreCame s messages first

peer_by : (b : Bool) (fate : Fate) → fate ≢ GoesOn → (if b then GoesOn else fate) ≡ GoesOn → b ≡ true
peer_by false fate n e = absurd (n e)
peer_by true fate n e = refl

ends_is_not : (said : Option Short) → Ends said ≢ GoesOn
ends_is_not said e = cc

first_came : (s : Settings) (messages : List Heard) (m : Heard) → messages ≡ []
    → first_fate s.peer_as m ≡ GoesOn → OpenCame s (m ∷ messages) (open_in m)
first_came s messages (heard.Open (Ok sent)) n e = record {
  sent = sent;
  heard = ap (λ ms. heard.Open (Ok sent) ∷ ms) n;
  peer = peer_by _ _ (ends_is_not _) e;
  first_is = refl;
}
first_came s messages (heard.Open (Err fault)) n e = cc
first_came s messages (heard.Update reset) n e = cc
first_came s messages (heard.Refresh afi safi) n e = cc
first_came s messages heard.Note n e = cc
first_came s messages heard.Keepalive n e = cc
first_came s messages (heard.Header fault) n e = cc

second_came : (s : Settings) (messages : List Heard) (first : Option Open) (m : Heard)
    → OpenCame s messages first → second_fate m ≡ GoesOn → MoreCame s (m ∷ messages) first
second_came s messages first (heard.Open read) h e = cc
second_came s messages first (heard.Update reset) h e = cc
second_came s messages first (heard.Refresh afi safi) h e = cc
second_came s messages first heard.Note h e = cc
second_came s messages first heard.Keepalive h e = record {
  sent = h.sent;
  later = [];
  heard = ap (λ ms. heard.Keepalive ∷ ms) h.heard;
  peer = h.peer;
  allowed = All-nil _;
  first_is = h.first_is;
}
second_came s messages first (heard.Header fault) h e = cc

later_came : (s : Settings) (messages : List Heard) (first : Option Open) (m : Heard)
    → MoreCame s messages first → later_fate m ≡ GoesOn → MoreCame s (m ∷ messages) first
later_came s messages first m h e = record {
  sent = h.sent;
  later = m ∷ h.later;
  heard = ap (λ ms. m ∷ ms) h.heard;
  peer = h.peer;
  allowed = All-cons (λ message. later_fate message ≡ GoesOn) m h.later e h.allowed;
  first_is = h.first_is;
}

one_came : (k : ℕ) (s : Settings) (messages : List Heard) (first : Option Open) (m : Heard)
    → HasCome s messages first k → message_fate s.peer_as k m ≡ GoesOn
    → HasCome s (m ∷ messages) (elim k [ zero ↦ open_in m | suc count ↦ first ]) (suc k)
one_came zero s messages first m h e = first_came s messages m h e
one_came (suc zero) s messages first m h e = second_came s messages first m h e
one_came (suc (suc k)) s messages first m h e = later_came s messages first m h e

came : (s : Settings) (items : List Item) → is_connected items ≡ true → fate s items ≡ GoesOn
    → HasCome s (messages_heard items) (open_heard items) (message_count items)
came s [] c e = cc
came s (Came ∷ items) c e = refl
came s (Left ∷ items) c e = cc
came s (Moment t ∷ items) c e = came s items c (earlier_goes (fate s items) _ e).0
came s (Commanded command ∷ items) c e = came s items c (earlier_goes (fate s items) _ e).0
came s (Message m ∷ items) c e =
    let f : (fate s items ≡ GoesOn) × (message_fate s.peer_as (message_count items) m ≡ GoesOn) =
    earlier_goes (fate s items) _ e in
    one_came (message_count items) s (messages_heard items) (open_heard items) m (came s items c f.0) f.1

pub brings_up : BringsUp
brings_up s items e =
    let l : Lasts s items = live_lasts s items (ap is_live e) in
    let k : (more : ℕ) × (message_count items ≡ suc (suc more)) =
    count_by (message_count items) (sym (state_at _ _ _ _ _ _ l.connected l.goes_on refl) ∙ e) in
    let h : MoreCame s (messages_heard items) (open_heard items) = subst
    (λ n. HasCome s (messages_heard items) (open_heard items) n) k.1 (came s items l.connected l.goes_on) in
    record {
      sent = h.sent;
      later = h.later;
      heard = h.heard;
      peer = h.peer;
      allowed = h.allowed;
      agreed = ap (λ st. agreed_by st (open_heard items)) e ∙ h.first_is;
    }

-- ---- time

-- within the time
abbrev IsWithin : ℕ → ℕ → ℕ → Type 0
IsWithin time since now = time ≢ 0 → now - since < time

not_ended : (b : Bool) (said : Option Short) → (if b then Ends said else GoesOn) ≡ GoesOn → b ≡ false
not_ended false said e = refl
not_ended true said e = cc

not_past : (time since now : ℕ) → is_past time since now ≡ false → time ≢ 0 → now - since < time
not_past time since now e n = grind (arith, nat_tests, common_steps)

is_within : (time since now : ℕ) → moment_fate time since now ≡ GoesOn → IsWithin time since now
is_within time since now e n = not_past time since now (not_ended _ _ e) n

none_passed : (time now : ℕ) → time ≢ 0 → now - now < time
none_passed time now n = omega arith

within_if : (b : Bool) (time since now : ℕ) → IsWithin time since now
    → IsWithin time (if b then now else since) now
within_if false time since now h = h
within_if true time since now h = none_passed time now

alive_first : (s : Settings) (m : Heard) (since now : ℕ) → first_fate s.peer_as m ≡ GoesOn
    → IsWithin (hold_time s.hold (open_in m)) (if restarts_hold_timer m then now else since) now
alive_first s (heard.Open read) since now e = none_passed _ now
alive_first s (heard.Update reset) since now e = cc
alive_first s (heard.Refresh afi safi) since now e = cc
alive_first s heard.Note since now e = cc
alive_first s heard.Keepalive since now e = cc
alive_first s (heard.Header fault) since now e = cc

alive_message : (k : ℕ) (s : Settings) (m : Heard) (first : Option Open) (since now : ℕ)
    → message_fate s.peer_as k m ≡ GoesOn → IsWithin (hold_time s.hold first) since now
    → IsWithin (hold_time s.hold (elim k [ zero ↦ open_in m | suc count ↦ first ]))
    (if restarts_hold_timer m then now else since) now
alive_message zero s m first since now e h = alive_first s m since now e
alive_message (suc k) s m first since now e h = within_if (restarts_hold_timer m) (hold_time s.hold first) since now h

alive : (s : Settings) (items : List Item) → is_connected items ≡ true → fate s items ≡ GoesOn
    → IsWithin (hold_time s.hold (open_heard items)) (hold_timer_since items) (greatest items)
alive s [] c e = cc
alive s (Came ∷ items) c e = none_passed open_wait (greatest items)
alive s (Left ∷ items) c e = cc
alive s (Moment t ∷ items) c e = is_within _ _ _ (earlier_goes (fate s items) _ e).1
alive s (Commanded command ∷ items) c e = alive s items c (earlier_goes (fate s items) _ e).0
alive s (Message m ∷ items) c e =
    let f : (fate s items ≡ GoesOn) × (message_fate s.peer_as (message_count items) m ≡ GoesOn) =
    earlier_goes (fate s items) _ e in
    alive_message (message_count items) s m (open_heard items) (hold_timer_since items) (greatest items) f.1
    (alive s items c f.0)

-- within a third of the Hold Time agreed
abbrev IsDue : ℕ → Option Open → ℕ → ℕ → Type 0
IsDue hold first since now =
    (sent : Open) → first ≡ Some sent → 3 ≤ min hold sent.hold → now - since < min hold sent.hold / 3

third_of : (hold now : ℕ) → 3 ≤ hold → now - now < hold / 3
third_of hold now n = omega arith

not_third : (hold since now : ℕ) → is_third_past hold since now ≡ false → 3 ≤ hold → now - since < hold / 3
not_third hold since now e n = grind (arith, nat_tests, common_steps)

due_by : (b : Bool) (hold since now : ℕ) → is_third_past hold since now ≡ b → 3 ≤ hold
    → now - (if b then now else since) < hold / 3
due_by false hold since now e n = not_third hold since now e n
due_by true hold since now e n = third_of hold now n

due_message : (k : ℕ) (hold : ℕ) (m : Heard) (first : Option Open) (since now : ℕ)
    → IsDue hold first since now
    → IsDue hold (elim k [ zero ↦ open_in m | suc count ↦ first ]) (elim k [ zero ↦ now | suc count ↦ since ]) now
due_message zero hold m first since now h = λ sent f n. third_of (min hold sent.hold) now n
due_message (suc k) hold m first since now h = h

due_moment : (f : Fate) (hold : ℕ) (first : Option Open) (since now : ℕ) → f ≡ GoesOn
    → IsDue hold first (if falls_by f hold first since now then now else since) now
due_moment (Ends said) hold first since now e = cc
due_moment GoesOn hold None since now e = λ sent f n. cc
due_moment GoesOn hold (Some told) since now e = λ sent f.
    let q : told ≡ sent = cc in
    subst
    (λ (x : Open). 3 ≤ min hold x.hold → now - (if is_third_past (min hold told.hold) since now then now else since) < min hold x.hold / 3)
    q
    (due_by (is_third_past (min hold told.hold) since now) (min hold told.hold) since now refl)

due : (s : Settings) (items : List Item) → is_connected items ≡ true → fate s items ≡ GoesOn
    → IsDue s.hold (open_heard items) (keepalive_timer_since s items) (greatest items)
due s [] c e = cc
due s (Came ∷ items) c e = λ sent f n. cc
due s (Left ∷ items) c e = cc
due s (Moment t ∷ items) c e =
    due_moment (fate s (Moment t ∷ items)) s.hold (open_heard items) (keepalive_timer_since s items) (max (greatest items) t) e
due s (Commanded command ∷ items) c e = due s items c (earlier_goes (fate s items) _ e).0
due s (Message m ∷ items) c e =
    due_message (message_count items) s.hold m (open_heard items) (keepalive_timer_since s items) (greatest items)
    (due s items c (earlier_goes (fate s items) _ e).0)

agreed_open : (st : State) (first : Option Open) (sent : Open) → agreed_by st first ≡ Some sent
    → first ≡ Some sent
agreed_open states.Idle first sent e = cc
agreed_open states.OpenSent first sent e = cc
agreed_open states.OpenConfirm first sent e = e
agreed_open states.Established first sent e = e
agreed_open states.Closing first sent e = cc

pub keeps_time : KeepsTime
keeps_time s items e =
    let l : Lasts s items = live_lasts s items e in
    record {
      hold_timer = alive s items l.connected l.goes_on;
      keepalive_timer = λ sent f n. due s items l.connected l.goes_on sent
          (agreed_open (state_of s items) (open_heard items) sent f) n;
    }

-- ---- one end

closing_by : (c : Bool) (f : Fate) (k : ℕ) → state_by c f k ≡ states.Closing
    → (c ≡ true) × (said : Option Short) × (f ≡ Ends said)
closing_by false f k e = cc
closing_by true (Ends said) k e = (refl, said, refl)
closing_by true GoesOn zero e = cc
closing_by true GoesOn (suc zero) e = cc
closing_by true GoesOn (suc (suc k)) e = cc

stays_closing : (c : Bool) (f g : Fate) (k : ℕ) (said : Option Short) → c ≡ true → f ≡ Ends said
    → state_by c (earlier f g) k ≡ states.Closing
stays_closing c f g k said d e =
    state_at c true (earlier f g) (Ends said) k k d (ap (λ x. earlier x g) e) refl

pub ends_once : EndsOnce
ends_once s items e =
    let h : (is_connected items ≡ true) × (said : Option Short) × (fate s items ≡ Ends said) = closing_by
    (is_connected items) (fate s items) (message_count items) e in
    record {
      unheard = λ m. ap
          (λ st. if is_live st then message_act (item_fate s (Message m) items) (message_count items) m else acts.None)
          e;
      untimed = λ t. ap
          (λ st. if is_live st then moment_act (item_fate s (Moment t) items) (falls_due s t items) else acts.None)
          e;
      uncommanded = λ command. ap
          (λ st. if is_live st then command_act (item_fate s (Commanded command) items) (message_count items) else acts.None)
          e;
      behind_message = λ m. stays_closing _ _ _ _ _ h.0 h.2;
      behind_moment = λ t. stays_closing _ _ _ _ _ h.0 h.2;
      behind_command = λ command. stays_closing _ _ _ _ _ h.0 h.2;
    }
