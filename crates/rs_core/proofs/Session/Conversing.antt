-- Which messages go to a client, after what its session hears and sees.
use Rattle.std.proofs.Common.{◌≡◌, ◌⊎◌, inl, inr, ℕ, zero, suc, Bool, true, false, List, [], ◌∷◌, ◌++◌, refl, sym, ◌∙◌, ap, subst, arith}
use Rattle.std.specs.Prelude.{Option, Some, None, ⊤, if◌then◌else◌}
use Rattle.std.specs.List.{AllByRecursion}
use Rattle.std.proofs.lemmas.Bool.{false≢true}
use Rattle.std.proofs.lemmas.List.{append-nil}
use Rattle.rs_octets.specs.declared.heads.Kind.{Kind}
use Rattle.rs_octets.specs.declared.heads.Kind.TheVariants as kinds
use Rattle.rs_octets.specs.Messages.{IsMessageOf}
use Rattle.rs_octets.proofs.Cut.{alone}
use Rattle.rs_octets.proofs.GoodHeaders.{of_type_is, written_is_message}
use Rattle.rs_open.specs.declared.short.Limit.{Limit}
use Rattle.rs_open.specs.declared.short.Limit.TheVariants as limits
use Rattle.rs_open.specs.declared.short.Short.{Short}
use Rattle.rs_open.specs.declared.short.Short.TheVariants as short
use Rattle.rs_open.specs.declared.writing.ServerOpen.{ServerOpen}
use Rattle.rs_open.specs.Writing.{keepalive, server_open}
use Rattle.rs_open.proofs.ShortMessages.{note_fits, short_is_message}
use Rattle.rs_session.specs.declared.act.Act.{Act}
use Rattle.rs_session.specs.declared.act.Act.TheVariants as acts
use Rattle.rs_session.specs.declared.heard.Heard.{Heard}
use Rattle.rs_session.specs.declared.settings.Settings.{Settings}
use Rattle.rs_session.specs.Items.{Item, Came, Message, Moment, Commanded, Left, is_connected, message_count}
use Rattle.rs_session.specs.Endings.{Fate, GoesOn, Ends, IsBrief}
use Rattle.rs_session.specs.Sessions.{state_of, state_by, is_live, is_request, fate, earlier, item_fate, falls_due, message_act, moment_act, command_act, act_of}
use Rattle.rs_session.specs.Hearing.{Tells, Stays}
use Rattle.rs_outlet.specs.declared.answers.Speech.{Speech}
use Rattle.rs_outlet.specs.Message.Next.{note_octets}
use Rattle.rs_outlet.specs.Views.{flight_after}
use Rattle.rs_core.specs.Session.Hearing.{is_up}
use Rattle.rs_core.specs.Run.Meaning.{speech_by}
use Rattle.rs_core.specs.Told.Telling.{allowed_to, limit_to}
use Rattle.rs_core.specs.Session.Conversations.{IsRoutine, IsConversation, Outgoing, Concludes, Converses, agreed_speech, update_speech}
use Rattle.rs_core.proofs.Session.LongMessages.{cut_longer}
use Rattle.rs_core.proofs.Told.Telling.{messages_more}

-- ---- one message more

each_more : {A : Type 0} (P : A → Type 0) (xs : List A) (x : A) → AllByRecursion P xs → P x → AllByRecursion P (xs ++ x ∷ [])
each_more P [] x all p = (p, tt)
each_more P (y ∷ xs) x all p = (all.0, each_more P xs x all.1 p)

each_so : {A : Type 0} (P Q : A → Type 0) (xs : List A) → ((x : A) → P x → Q x) → AllByRecursion P xs → AllByRecursion Q xs
each_so P Q [] so all = tt
each_so P Q (x ∷ xs) so all = (so x all.0, each_so P Q xs so all.1)

pub goes_on_with : (said : ServerOpen) (speech : Option Speech) (octets m : List ℕ) (kind : Kind) → IsMessageOf (allowed_to (limit_to speech)) kind m → IsRoutine speech m → IsConversation said speech [] octets
    → IsConversation said speech [] (octets ++ m)
goes_on_with said speech octets m kind is routine h = let more = messages_more (limit_to speech) octets m kind h.whole is in record {
  whole = more.1;
  routine = h.routine ++ m ∷ [];
  messages = more.0 ∙ ap (λ l. l ++ m ∷ []) h.messages ∙ ap (λ l. server_open said ∷ l ++ m ∷ []) (append-nil h.routine) ∙ ap (λ l. server_open said ∷ l) (sym (append-nil (h.routine ++ m ∷ [])));
  each = each_more (IsRoutine speech) h.routine m h.each routine;
}

pub ends_with : (said : ServerOpen) (speech : Option Speech) (octets m : List ℕ) → IsMessageOf (allowed_to (limit_to speech)) kinds.Note m → IsConversation said speech [] octets → IsConversation said speech (m ∷ []) (octets ++ m)
ends_with said speech octets m is h = let more = messages_more (limit_to speech) octets m kinds.Note h.whole is in record {
  whole = more.1;
  routine = h.routine;
  messages = more.0 ∙ ap (λ l. l ++ m ∷ []) h.messages ∙ ap (λ l. server_open said ∷ l ++ m ∷ []) (append-nil h.routine);
  each = h.each;
}

pub begins_with : (said : ServerOpen) → IsConversation said None [] (server_open said)
begins_with said = let allowed = allowed_to limits.Short in let one = alone allowed (server_open said) (of_type_is allowed kinds.Open (server_open said) (short_is_message allowed said short.Open tt)) in
    record { whole = one.1; routine = []; messages = one.0; each = tt }

-- what may go to a client before it is Established may go to it then
in_speech : (said : ServerOpen) (before after : Option Speech) (last : List (List ℕ)) (octets : List ℕ) → (before ≡ after) ⊎ (before ≡ None) → IsConversation said before last octets → IsConversation said after last octets
in_speech said before after last octets (inl same) h = subst (λ m. IsConversation said m last octets) same h
in_speech said before None last octets (inr none) h = subst (λ m. IsConversation said m last octets) none h
in_speech said before (Some speech) last octets (inr none) h =
    let was = subst (λ m. IsConversation said m last octets) none h in
    let longer = cut_longer speech.limit octets was.whole in
    record { whole = longer.1; routine = was.routine; messages = longer.0 ∙ was.messages; each = each_so (IsRoutine None) (IsRoutine (Some speech)) was.routine (λ m is. inl is) was.each }

pub keepalive_is_message : (limit : Limit) → IsMessageOf (allowed_to limit) kinds.Keepalive keepalive
keepalive_is_message limit = written_is_message (allowed_to limit) kinds.Keepalive [] refl (omega arith) (omega arith)

pub keepalive_routine : (speech : Option Speech) → IsRoutine speech keepalive
keepalive_routine None = refl
keepalive_routine (Some speech) = inl refl

pub note_is_message : (limit : Limit) (said : ServerOpen) (note : Short) → IsBrief note → IsMessageOf (allowed_to limit) kinds.Note (note_octets note)
note_is_message limit said short.Open brief = absurd brief
note_is_message limit said short.Keepalive brief = absurd brief
note_is_message limit said (short.Note code sub extra count) brief =
    short_is_message (allowed_to limit) said (short.Note code sub extra count) (note_fits (allowed_to limit) code sub extra count brief)

-- ---- how a client is spoken to

before_by : (b : Bool) (was more : Fate) (n : ℕ) → is_live (state_by b (earlier was more) (suc n)) ≡ true → is_up (state_by b (earlier was more) (suc n)) ≡ false
    → (is_live (state_by b was n) ≡ true) × (is_up (state_by b was n) ≡ false)
before_by false was more n live down = absurd (false≢true live)
before_by true (Ends ending) more n live down = absurd (false≢true live)
before_by true GoesOn (Ends ending) n live down = absurd (false≢true live)
before_by true GoesOn GoesOn zero live down = (refl, refl)
before_by true GoesOn GoesOn (suc n) live down = absurd (false≢true (sym down))

still_by : (b : Bool) (was more : Fate) (n : ℕ) → is_live (state_by b (earlier was more) n) ≡ true → is_up (state_by b (earlier was more) n) ≡ false
    → (is_live (state_by b was n) ≡ true) × (is_up (state_by b was n) ≡ false)
still_by false was more n live down = absurd (false≢true live)
still_by true (Ends ending) more n live down = absurd (false≢true live)
still_by true GoesOn (Ends ending) n live down = absurd (false≢true live)
still_by true GoesOn GoesOn n live down = (live, down)

-- before a client is Established there is none
not_yet : (settings : Settings) (items : List Item) → is_live (state_of settings items) ≡ true → is_up (state_of settings items) ≡ false → update_speech settings items ≡ None
not_yet settings [] live down = refl
not_yet settings (Came ∷ items) live down = refl
not_yet settings (Message message ∷ items) live down =
    let was = before_by (is_connected items) (fate settings items) (item_fate settings (Message message) items) (message_count items) live down in
    ap (λ b. if b then agreed_speech settings (Message message ∷ items) else update_speech settings items) down ∙ not_yet settings items was.0 was.1
not_yet settings (Moment t ∷ items) live down =
    let was = still_by (is_connected items) (fate settings items) (item_fate settings (Moment t) items) (message_count items) live down in
    ap (λ b. if b then agreed_speech settings (Moment t ∷ items) else update_speech settings items) down ∙ not_yet settings items was.0 was.1
not_yet settings (Commanded command ∷ items) live down =
    let was = still_by (is_connected items) (fate settings items) (item_fate settings (Commanded command) items) (message_count items) live down in
    ap (λ b. if b then agreed_speech settings (Commanded command ∷ items) else update_speech settings items) down ∙ not_yet settings items was.0 was.1
not_yet settings (Left ∷ items) live down = refl

-- while it is Established it is that of its OPEN
pub speech_up : (settings : Settings) (items : List Item) → is_up (state_of settings items) ≡ true → update_speech settings items ≡ agreed_speech settings items
speech_up settings [] up = absurd (false≢true up)
speech_up settings (Came ∷ items) up = absurd (false≢true up)
speech_up settings (Message message ∷ items) up = ap (λ b. if b then agreed_speech settings (Message message ∷ items) else update_speech settings items) up
speech_up settings (Moment t ∷ items) up = ap (λ b. if b then agreed_speech settings (Moment t ∷ items) else update_speech settings items) up
speech_up settings (Commanded command ∷ items) up = ap (λ b. if b then agreed_speech settings (Commanded command ∷ items) else update_speech settings items) up
speech_up settings (Left ∷ items) up = absurd (false≢true up)

abbrev pub IsKept : Option Speech → Option Speech → Type 0
IsKept before after = (before ≡ after) ⊎ (before ≡ None)

stays_speech : (settings : Settings) (old new : List Item) → Stays settings old new → is_live (state_of settings old) ≡ true → IsKept (update_speech settings old) (update_speech settings new)
stays_speech settings old new stays live = by_state (is_up (state_of settings old)) refl where
  by_state : (b : Bool) → is_up (state_of settings old) ≡ b → IsKept (update_speech settings old) (update_speech settings new)
  by_state true up = inl (speech_up settings old up ∙ ap (speech_by settings.extended) (sym stays.agreed) ∙ sym (speech_up settings new (ap is_up stays.state ∙ up)))
  by_state false down = inr (not_yet settings old live down)

-- the session doesn't end by it
abbrev pub GoesOnBy : Act → Type 0
GoesOnBy (acts.Down ending) = ⊥
GoesOnBy acts.None = ⊤
GoesOnBy (acts.Say message) = ⊤
GoesOnBy acts.Up = ⊤
GoesOnBy acts.Again = ⊤

pub goes_on_by : (act : Act) (settings : Settings) (old new : List Item) → Tells act settings old new → is_live (state_of settings new) ≡ true → GoesOnBy act
goes_on_by acts.None settings old new tells live = tt
goes_on_by (acts.Say message) settings old new tells live = tt
goes_on_by acts.Up settings old new tells live = tt
goes_on_by (acts.Down ending) settings old new tells live = absurd (false≢true (sym (ap is_live tells.now) ∙ live))
goes_on_by acts.Again settings old new tells live = tt

says_speech : (message : Short) (settings : Settings) (old new : List Item) → Tells (acts.Say message) settings old new → is_live (state_of settings old) ≡ true → IsKept (update_speech settings old) (update_speech settings new)
says_speech short.Open settings old new tells live = absurd (let f : false ≡ true = sym (ap is_live tells.before) ∙ live in cc)
says_speech short.Keepalive settings old new (inl confirms) live = inr (not_yet settings old live (ap is_up confirms.before))
says_speech short.Keepalive settings old new (inr keepalives) live = stays_speech settings old new keepalives.same live
says_speech (short.Note code sub extra count) settings old new tells live = absurd tells

pub kept_speech : (act : Act) (settings : Settings) (old new : List Item) → GoesOnBy act → Tells act settings old new → is_live (state_of settings old) ≡ true → IsKept (update_speech settings old) (update_speech settings new)
kept_speech acts.None settings old new on tells live = stays_speech settings old new tells live
kept_speech (acts.Say message) settings old new on tells live = says_speech message settings old new tells live
kept_speech acts.Up settings old new on tells live = inr (not_yet settings old live (ap is_up tells.before))
kept_speech (acts.Down ending) settings old new on tells live = absurd on
kept_speech acts.Again settings old new on tells live = stays_speech settings old new tells.same live

-- ---- what a session asks for is done

-- what that makes of what is still to be said
abbrev pub Moves : Act → Outgoing → Outgoing → Type 0
Moves acts.None old new = new ≡ old
Moves (acts.Say message) old new = (new.flight ≡ old.flight) × (new.note ≡ old.note)
Moves acts.Up old new = (new.flight ≡ old.flight) × (new.note ≡ old.note)
Moves (acts.Down ending) old new = new ≡ record { flight = flight_after ending old.flight; note = ending; keepalive_due = false }
Moves acts.Again old new = (new.flight ≡ old.flight) × (new.note ≡ old.note)

moves_on : (act : Act) (old new : Outgoing) → GoesOnBy act → Moves act old new → (new.flight ≡ old.flight) × (new.note ≡ old.note)
moves_on acts.None old new on moves = (ap (λ (o : Outgoing). o.flight) moves, ap (λ (o : Outgoing). o.note) moves)
moves_on (acts.Say message) old new on moves = moves
moves_on acts.Up old new on moves = moves
moves_on (acts.Down ending) old new on moves = absurd on
moves_on acts.Again old new on moves = moves

-- by whether there is a connection, whether the session had ended, and whether it ends now
abbrev act_by : Bool → Fate → Fate → Act → Act
act_by false was now act = acts.None
act_by true (Ends ending) now act = acts.None
act_by true GoesOn (Ends ending) act = acts.Down ending
act_by true GoesOn GoesOn act = act

message_act_by : (b : Bool) (was now : Fate) (n : ℕ) (message : Heard) → (if is_live (state_by b was n) then message_act now n message else acts.None) ≡ act_by b was now (message_act GoesOn n message)
message_act_by false was now n message = refl
message_act_by true (Ends ending) now n message = refl
message_act_by true GoesOn (Ends ending) zero message = refl
message_act_by true GoesOn (Ends ending) (suc zero) message = refl
message_act_by true GoesOn (Ends ending) (suc (suc n)) message = refl
message_act_by true GoesOn GoesOn zero message = refl
message_act_by true GoesOn GoesOn (suc zero) message = refl
message_act_by true GoesOn GoesOn (suc (suc n)) message = refl

moment_act_by : (b : Bool) (was now : Fate) (n : ℕ) (falls : Bool) → (if is_live (state_by b was n) then moment_act now falls else acts.None) ≡ act_by b was now (moment_act GoesOn falls)
moment_act_by false was now n falls = refl
moment_act_by true (Ends ending) now n falls = refl
moment_act_by true GoesOn (Ends ending) zero falls = refl
moment_act_by true GoesOn (Ends ending) (suc zero) falls = refl
moment_act_by true GoesOn (Ends ending) (suc (suc n)) falls = refl
moment_act_by true GoesOn GoesOn zero falls = refl
moment_act_by true GoesOn GoesOn (suc zero) falls = refl
moment_act_by true GoesOn GoesOn (suc (suc n)) falls = refl

command_act_by : (b : Bool) (was now : Fate) (n : ℕ) → (if is_live (state_by b was n) then command_act now n else acts.None) ≡ act_by b was now (command_act GoesOn n)
command_act_by false was now n = refl
command_act_by true (Ends ending) now n = refl
command_act_by true GoesOn (Ends ending) zero = refl
command_act_by true GoesOn (Ends ending) (suc zero) = refl
command_act_by true GoesOn (Ends ending) (suc (suc n)) = refl
command_act_by true GoesOn GoesOn zero = refl
command_act_by true GoesOn GoesOn (suc zero) = refl
command_act_by true GoesOn GoesOn (suc (suc n)) = refl

message_goes_on : (n : ℕ) (message : Heard) → GoesOnBy (message_act GoesOn n message)
message_goes_on zero message = tt
message_goes_on (suc zero) message = tt
message_goes_on (suc (suc n)) message = by_test (is_request message) where
  by_test : (b : Bool) → GoesOnBy (if b then acts.Again else acts.None)
  by_test true = tt
  by_test false = tt

moment_goes_on : (falls : Bool) → GoesOnBy (moment_act GoesOn falls)
moment_goes_on true = tt
moment_goes_on false = tt

command_goes_on : (n : ℕ) → GoesOnBy (command_act GoesOn n)
command_goes_on zero = tt
command_goes_on (suc zero) = tt
command_goes_on (suc (suc n)) = tt

-- it stays while the session goes on, and once it has ended
record KeepsSpeech (b : Bool) (was now : Fate) (before after : Option Speech) : Type 0 where
  on : b ≡ true → was ≡ GoesOn → now ≡ GoesOn → IsKept before after
  ended : (note : Option Short) → earlier was now ≡ Ends note → after ≡ before

concludes_on : (b : Bool) (was now : Fate) (act : Act) (said : ServerOpen) (before after : Option Speech) (taken : List ℕ) (old new : Outgoing) → GoesOnBy act → Moves (act_by b was now act) old new
    → KeepsSpeech b was now before after → b ≡ true → Concludes was said before taken old → Concludes (earlier was now) said after taken new
concludes_on false was now act said before after taken old new on moves speeches there h = absurd (false≢true there)
concludes_on true (Ends ending) now act said before after taken old new on moves speeches there h =
    subst (λ m. Concludes (Ends ending) said m taken new) (sym (speeches.ended ending refl)) (subst (λ o. Concludes (Ends ending) said before taken o) (sym moves) h)
concludes_on true GoesOn (Ends (Some note)) act said before after taken old new on moves speeches there h =
    subst (λ m. Concludes (Ends (Some note)) said m taken new) (sym (speeches.ended (Some note) refl)) (subst (λ o. Concludes (Ends (Some note)) said before taken o) (sym moves) (refl, inl (refl, h.1)))
concludes_on true GoesOn (Ends None) act said before after taken old new on moves speeches there h =
    subst (λ m. Concludes (Ends None) said m taken new) (sym (speeches.ended None refl)) (moves, record { missing = old.flight; whole = h.1 })
concludes_on true GoesOn GoesOn act said before after taken old new on moves speeches there h = let same = moves_on act old new on moves in
    (same.1 ∙ h.0, subst (λ f. IsConversation said after [] (taken ++ f)) (sym same.0) (in_speech said before after [] (taken ++ old.flight) (speeches.on refl refl refl) h.1))

alone_by : (b : Bool) (was now : Fate) (act : Act) (old new : Outgoing) → Moves (act_by b was now act) old new → b ≡ false → new ≡ old
alone_by true was now act old new moves none = absurd (false≢true (sym none))
alone_by false was now act old new moves none = moves

live_by : (b : Bool) (was : Fate) (n : ℕ) → b ≡ true → was ≡ GoesOn → is_live (state_by b was n) ≡ true
live_by false was n there goes = absurd (false≢true there)
live_by true (Ends ending) n there goes = absurd (let f : ◌≡◌ {A = Fate} (Ends ending) GoesOn = goes in cc)
live_by true GoesOn zero there goes = refl
live_by true GoesOn (suc zero) there goes = refl
live_by true GoesOn (suc (suc n)) there goes = refl

ended_down : (b : Bool) (f : Fate) (n : ℕ) (ending : Option Short) → f ≡ Ends ending → is_up (state_by b f n) ≡ false
ended_down false f n ending e = refl
ended_down true GoesOn n ending e = absurd (let f : ◌≡◌ {A = Fate} GoesOn (Ends ending) = e in cc)
ended_down true (Ends other) n ending e = refl

-- a message was heard, a moment seen, or a command given
abbrev pub IsHeardOrSeen : Item → Type 0
IsHeardOrSeen Came = ⊥
IsHeardOrSeen (Message message) = ⊤
IsHeardOrSeen (Moment t) = ⊤
IsHeardOrSeen (Commanded command) = ⊤
IsHeardOrSeen Left = ⊥

pub acted_converses : (item : Item) (act : Act) (settings : Settings) (said : ServerOpen) (items : List Item) (taken : List ℕ) (old new : Outgoing) → IsHeardOrSeen item → act ≡ act_of settings item items
    → Tells act settings items (item ∷ items) → Moves act old new → Converses settings said items taken old → Converses settings said (item ∷ items) taken new
acted_converses Came act settings said items taken old new is act_is tells moves h = absurd is
acted_converses (Message message) act settings said items taken old new is act_is tells moves h =
    let b : Bool = is_connected items in
    let was : Fate = fate settings items in
    let now : Fate = item_fate settings (Message message) items in
    let n : ℕ = message_count items in
    let by : act ≡ act_by b was now (message_act GoesOn n message) = act_is ∙ message_act_by b was now n message in
    let does = subst (λ a. Moves a old new) by moves in
    record {
      connected = λ there. concludes_on b was now (message_act GoesOn n message) said (update_speech settings items) (update_speech settings (Message message ∷ items)) taken old new (message_goes_on n message) does
          (record {
            on = λ there goes more. kept_speech (message_act GoesOn n message) settings items (Message message ∷ items) (message_goes_on n message)
                (subst (λ a. Tells a settings items (Message message ∷ items)) (by ∙ (λ i. act_by (there i) (goes i) (more i) (message_act GoesOn n message))) tells) (live_by b was n there goes);
            ended = λ note e. ap (λ u. if u then agreed_speech settings (Message message ∷ items) else update_speech settings items) (ended_down b (earlier was now) (suc n) note e);
          }) there (h.connected there);
      alone = λ none. ((h.alone none).0, alone_by b was now (message_act GoesOn n message) old new does none ∙ (h.alone none).1);
    }
acted_converses (Moment t) act settings said items taken old new is act_is tells moves h =
    let b : Bool = is_connected items in
    let was : Fate = fate settings items in
    let now : Fate = item_fate settings (Moment t) items in
    let n : ℕ = message_count items in
    let falls : Bool = falls_due settings t items in
    let by : act ≡ act_by b was now (moment_act GoesOn falls) = act_is ∙ moment_act_by b was now n falls in
    let does = subst (λ a. Moves a old new) by moves in
    record {
      connected = λ there. concludes_on b was now (moment_act GoesOn falls) said (update_speech settings items) (update_speech settings (Moment t ∷ items)) taken old new (moment_goes_on falls) does
          (record {
            on = λ there goes more. kept_speech (moment_act GoesOn falls) settings items (Moment t ∷ items) (moment_goes_on falls)
                (subst (λ a. Tells a settings items (Moment t ∷ items)) (by ∙ (λ i. act_by (there i) (goes i) (more i) (moment_act GoesOn falls))) tells) (live_by b was n there goes);
            ended = λ note e. ap (λ u. if u then agreed_speech settings (Moment t ∷ items) else update_speech settings items) (ended_down b (earlier was now) n note e);
          }) there (h.connected there);
      alone = λ none. ((h.alone none).0, alone_by b was now (moment_act GoesOn falls) old new does none ∙ (h.alone none).1);
    }
acted_converses (Commanded command) act settings said items taken old new is act_is tells moves h =
    let b : Bool = is_connected items in
    let was : Fate = fate settings items in
    let now : Fate = item_fate settings (Commanded command) items in
    let n : ℕ = message_count items in
    let by : act ≡ act_by b was now (command_act GoesOn n) = act_is ∙ command_act_by b was now n in
    let does = subst (λ a. Moves a old new) by moves in
    record {
      connected = λ there. concludes_on b was now (command_act GoesOn n) said (update_speech settings items) (update_speech settings (Commanded command ∷ items)) taken old new (command_goes_on n) does
          (record {
            on = λ there goes more. kept_speech (command_act GoesOn n) settings items (Commanded command ∷ items) (command_goes_on n)
                (subst (λ a. Tells a settings items (Commanded command ∷ items)) (by ∙ (λ i. act_by (there i) (goes i) (more i) (command_act GoesOn n))) tells) (live_by b was n there goes);
            ended = λ note e. ap (λ u. if u then agreed_speech settings (Commanded command ∷ items) else update_speech settings items) (ended_down b (earlier was now) n note e);
          }) there (h.connected there);
      alone = λ none. ((h.alone none).0, alone_by b was now (command_act GoesOn n) old new does none ∙ (h.alone none).1);
    }
acted_converses Left act settings said items taken old new is act_is tells moves h = absurd is
