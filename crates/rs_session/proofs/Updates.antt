-- What becomes of an UPDATE, and what a session forgets.
use Rattle.std.proofs.Common.{◌≡◌, ◌≢◌, ℕ, zero, suc, true, List, ◌∷◌, Option, Some, None, refl, sym, ap, subst, ◌∙◌}
use Rattle.rs_session.specs.declared.heard.Heard.{Heard}
use Rattle.rs_session.specs.declared.heard.Heard.TheVariants as heard
use Rattle.rs_session.specs.declared.act.State.TheVariants as states
use Rattle.rs_session.specs.declared.act.Act.{Act}
use Rattle.rs_session.specs.declared.act.Act.TheVariants as acts
use Rattle.rs_session.specs.declared.settings.Settings.{Settings}
use Rattle.rs_session.specs.declared.session.Session.{Session}
use Rattle.rs_session.specs.declared.phase.Phase.TheVariants as phases
use Rattle.rs_session.specs.Items.{Item, Message, Left, message_count}
use Rattle.rs_session.specs.Endings.{Fate, GoesOn, Ends, unexpected, message_fate}
use Rattle.rs_session.specs.Sessions.{fate, state_by, state_of, is_live, message_act, act_of}
use Rattle.rs_session.specs.Hearing.{Stands, HasHeard, RespondsTo, Takes, Forgets}
use Rattle.rs_session.specs.Laws.{UpdatesAreTaken}
use Rattle.rs_session.proofs.Phases.{state_at}
use Rattle.rs_session.proofs.Standing.{live_act}
use Rattle.rs_session.proofs.Lasting.{Lasts, live_lasts, count_by}

-- ---- an UPDATE

-- the answer by how many messages were heard before
answer_at : (s : Settings) (items : List Item) (m : Heard) (k : ℕ) → is_live (state_of s items) ≡ true
    → message_count items ≡ k → act_of s (Message m) items ≡ message_act (message_fate s.peer_as k m) k m
answer_at s items m k l c =
    live_act (state_of s items) _ acts.None l ∙ ap (λ n. message_act (message_fate s.peer_as n m) n m) c

early_by : (s : Settings) (reset : Option (ℕ × ℕ)) (k : ℕ) → state_by true GoesOn k ≢ states.Established
    → message_act (message_fate s.peer_as k (heard.Update reset)) k (heard.Update reset) ≡ acts.Down (Some unexpected)
early_by s reset zero n = refl
early_by s reset (suc zero) n = refl
early_by s reset (suc (suc k)) n = absurd (n refl)

state_lasts : (s : Settings) (items : List Item) → Lasts s items
    → state_of s items ≡ state_by true GoesOn (message_count items)
state_lasts s items l = state_at _ true _ GoesOn _ (message_count items) l.connected l.goes_on refl

count_up : (s : Settings) (items : List Item) → Lasts s items → state_of s items ≡ states.Established
    → (more : ℕ) × (message_count items ≡ suc (suc more))
count_up s items l e = count_by (message_count items) (sym (state_lasts s items l) ∙ e)

taken_by : (s : Settings) (items : List Item) (l : Lasts s items) (k : (more : ℕ) × (message_count items ≡ suc (suc more)))
    → fate s (Message (heard.Update None) ∷ items) ≡ GoesOn
taken_by s items l k = cc

pub updates_are_taken : UpdatesAreTaken
updates_are_taken s items v =
    let l : Lasts s items = live_lasts s items v in
    record {
      early = λ reset n. answer_at s items (heard.Update reset) (message_count items) v refl
          ∙ early_by s reset (message_count items) (λ e. n (state_lasts s items l ∙ e));
      taken = λ e. let k : (more : ℕ) × (message_count items ≡ suc (suc more)) = count_up s items l e in
          answer_at s items (heard.Update None) (suc (suc k.0)) v k.1;
      stays = λ e. let k : (more : ℕ) × (message_count items ≡ suc (suc more)) = count_up s items l e in
          state_at _ true _ GoesOn _ (suc (suc (suc k.0))) l.connected (taken_by s items l k) (ap suc k.1);
      reset = λ code sub e. let k : (more : ℕ) × (message_count items ≡ suc (suc more)) = count_up s items l e in
          answer_at s items (heard.Update (Some (code, sub))) (suc (suc k.0)) v k.1;
    }

-- a message that asks for nothing
first_asks : (f : Fate) (m : Heard) → message_act f zero m ≡ acts.None → ⊥
first_asks GoesOn m e = cc
first_asks (Ends said) m e = cc

second_asks : (f : Fate) (m : Heard) → message_act f (suc zero) m ≡ acts.None → ⊥
second_asks GoesOn m e = cc
second_asks (Ends said) m e = cc

quiet_by : (s : Settings) (m : Heard) (k : ℕ) → message_act (message_fate s.peer_as k m) k m ≡ acts.None
    → state_by true GoesOn k ≡ states.Established
quiet_by s m (suc (suc k)) e = refl
quiet_by s m zero e = absurd (first_asks (message_fate s.peer_as zero m) m e)
quiet_by s m (suc zero) e = absurd (second_asks (message_fate s.peer_as (suc zero) m) m e)

pub message_takes : (old new : Session) (m : Heard) (act : Act) → RespondsTo old new (Message m) act → Takes old act
message_takes old new m act r s items h e v =
    let l : Lasts s items = live_lasts s items v in
    state_lasts s items l
    ∙ quiet_by s m (message_count items)
    (sym (answer_at s items m (message_count items) v refl) ∙ sym (r s items h).act_is ∙ e)

-- ---- a lost connection

-- what it leaves depends on the greatest moment alone
pub left_forgets : (old new : Session) → new.settings ≡ old.settings → new.latest ≡ old.latest → new.phase ≡ phases.Idle
    → Forgets old new
unfolding HasHeard
left_forgets old new t l idle s items h others e = record {
  settings_are = t ∙ h.settings_are;
  latest = l ∙ h.latest ∙ sym e;
  phase = subst (λ p. Stands p s (Left ∷ others)) (sym idle) refl;
}
