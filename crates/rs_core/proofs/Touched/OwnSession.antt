-- What a client's own session makes of what is touched for it.
use Rattle.std.proofs.Common.{◌≡◌, ℕ, zero, suc, Bool, true, false, List, [], ◌∷◌, refl, sym, ◌∙◌, ap, subst}
use Rattle.std.specs.Prelude.{Option, Some, None, IsSome, slice_get, slice_set, if◌then◌else◌}
use Rattle.std.proofs.lemmas.Bool.{false≢true}
use Rattle.rs_octets.specs.Messages.{newly_heard}
use Rattle.rs_session.specs.declared.act.Act.{Act}
use Rattle.rs_session.specs.declared.act.Act.TheVariants as acts
use Rattle.rs_session.specs.declared.session.Session.{Session}
use Rattle.rs_session.specs.Endings.{Fate, GoesOn, Ends}
use Rattle.rs_session.specs.Items.{Item, is_connected, message_count}
use Rattle.rs_session.specs.Items as items
use Rattle.rs_session.specs.Sessions.{state_by, is_live, fate, earlier, item_fate}
use Rattle.rs_session.specs.Hearing.{HasHeard, Tells}
use Rattle.rs_policy.specs.Configuration.{Configuration}
use Rattle.rs_outlet.specs.declared.answers.Speech.{Speech}
use Rattle.rs_outlet.specs.Views.{View}
use Rattle.rs_core.specs.Session.Hearing.{Hearing, allowed_in, session_in, state_in, is_up, said_in, takes_in, listens, listens_to, hears}
use Rattle.rs_core.specs.Run.Meaning.{speech_in}
use Rattle.rs_core.specs.Ribs.{outlet_in}
use Rattle.rs_core.specs.Touched.Touches.{KeepsTouches}
use Rattle.rs_core.specs.Told.Outlets.{ActsOnOutlet}
use Rattle.rs_core.specs.Run.Agreeing.{Knows}
use Rattle.rs_core.specs.Run.Parts.{KeepsOwnTouches}
use Rattle.rs_core.specs.declared.endings.Ending.{Ending}
use Rattle.rs_core.specs.declared.ribs.Ribs.{Ribs}
use Rattle.rs_core.specs.declared.route_server.Core.{Core}
use Rattle.rs_core.proofs.Owed.Drained.{up_spoken}
use Rattle.rs_core.proofs.Run.Acting.{HasActed}
use Rattle.rs_core.proofs.Run.Lists.{get_set_same}
use Rattle.rs_core.proofs.Session.Listening.{Heards, deaf}
use Rattle.rs_core.proofs.Told.Serving.{spoken}
use Rattle.rs_core.proofs.Told.BySession.{down_speech, spoken_up, up_live}

not_some : {A : Type 0} (o : Option Speech) → o ≡ None → IsSome o → A
not_some o none some = absurd (let f : false ≡ true = subst IsSome none some in cc)

pub keeps_same : (v w : View) → w.speech ≡ v.speech → w.touched ≡ v.touched → KeepsTouches v w
keeps_same v w speech touched = record { came_up = λ none some. not_some w.speech (speech ∙ none) some; kept = λ was some. touched }

keeps_none : (v w : View) → w.speech ≡ None → KeepsTouches v w
keeps_none v w none = record { came_up = λ _ some. not_some w.speech none some; kept = λ _ some. not_some w.speech none some }

-- ---- what a session asks for

acted_keeps : (act : Act) (long : Bool) (s : Configuration) (sessions : List Session) (x : Session) (c : ℕ) (h : Hearing) (new : List Item) (v w : View) → ActsOnOutlet act long c sessions v w → slice_get sessions c ≡ Some x
    → HasHeard x (session_in s c) new → Tells act (session_in s c) h.items new → v.speech ≡ speech_in s c h → KeepsTouches v w
acted_keeps acts.None long s sessions x c h new v w others_alone read heard tells speech = keeps_same v w (ap (λ (x : View). x.speech) others_alone) (ap (λ (x : View). x.touched) others_alone)
acted_keeps (acts.Say message) long s sessions x c h new v w others_alone read heard tells speech = keeps_same v w (ap (λ (x : View). x.speech) others_alone.is) (ap (λ (x : View). x.touched) others_alone.is)
acted_keeps acts.Up long s sessions x c h new v w others_alone read heard tells speech =
    let came_up = others_alone x read (session_in s c) new heard tells.now in
    record { came_up = λ _ _. came_up.touched; kept = λ was _. not_some v.speech (speech ∙ down_speech s c h (ap is_up tells.before)) was }
acted_keeps (acts.Down _) long s sessions x c h new v w others_alone read heard tells speech = keeps_none v w others_alone.speech
acted_keeps acts.Again long s sessions x c h new v w others_alone read heard tells speech = keeps_same v w others_alone.speech others_alone.touched

pub item_keeps : (old new : Core) (c : ℕ) (item : Item) (act : Act) (x t : Session) (ending : Option Ending) → HasActed old new c item act x t ending → KeepsOwnTouches c old new
item_keeps old new c item act x t ending done = λ s h config knows none.
    let it = done.responds (session_in s c) h.items (knows.session x done.read) in
    acted_keeps act old.ribs.extended s (slice_set old.sessions.items c t) t c h (item ∷ h.items) (outlet_in old.ribs c none) (outlet_in new.ribs c none) (done.own none) (get_set_same old.sessions.items c t done.here) it.heard it.tells
    (knows.outlet config none).speech

-- the buffer was taken before and put back after
pub keeps_between : (c : ℕ) (old taken heard new : Ribs) (none : View) → taken ≡ old → new ≡ heard → KeepsTouches (outlet_in taken c none) (outlet_in heard c none) → KeepsTouches (outlet_in old c none) (outlet_in new c none)
keeps_between c old taken heard new none before behind keeps =
    subst (λ r. KeepsTouches (outlet_in old c none) (outlet_in r c none)) (sym behind) (subst (λ r. KeepsTouches (outlet_in r c none) (outlet_in heard c none)) before keeps)

-- ---- a session that lasts and was Established is so

lasts_by : (b : Bool) (was more : Fate) (n : ℕ) → is_up (state_by b was n) ≡ true → is_live (state_by b (earlier was more) (suc n)) ≡ true → is_up (state_by b (earlier was more) (suc n)) ≡ true
lasts_by false was more n up live = absurd (false≢true up)
lasts_by true (Ends _) more n up live = absurd (false≢true up)
lasts_by true GoesOn more zero up live = absurd (false≢true up)
lasts_by true GoesOn more (suc zero) up live = absurd (false≢true up)
lasts_by true GoesOn (Ends _) (suc (suc n)) up live = absurd (false≢true live)
lasts_by true GoesOn GoesOn (suc (suc n)) up live = refl

all_lasts : (s : Configuration) (c : ℕ) (ms : Heards) (h : Hearing) → is_up (state_in s c h) ≡ true → is_live (state_in s c (listens_to s c ms h)) ≡ true → is_up (state_in s c (listens_to s c ms h)) ≡ true
all_lasts s c [] h up live = up
all_lasts s c (m ∷ ms) h up live = by_test (is_live (state_in s c next)) refl (λ there. all_lasts s c ms next there live) where
  said : items.Item
  said = items.Message (said_in s c h m).message

  next : Hearing
  next = listens s c m h

  taken : next ≡ takes_in s c (said_in s c h m) h
  taken = ap (λ b. if b then takes_in s c (said_in s c h m) h else h) (up_live s c h up)

  now_up : is_live (state_in s c next) ≡ true → is_up (state_in s c next) ≡ true
  now_up = subst (λ k. is_live (state_in s c k) ≡ true → is_up (state_in s c k) ≡ true) (sym taken)
      (lasts_by (is_connected h.items) (fate (session_in s c) h.items) (item_fate (session_in s c) said h.items) (message_count h.items) up)

  by_test : (b : Bool) → is_live (state_in s c next) ≡ b → (is_up (state_in s c next) ≡ true → is_up (state_in s c (listens_to s c ms next)) ≡ true) → is_up (state_in s c (listens_to s c ms next)) ≡ true
  by_test true e more = more (now_up e)
  by_test false e more = absurd (false≢true (sym e ∙ ap (λ k. is_live (state_in s c k)) (sym (deaf s c ms next e)) ∙ live))

-- who is Established before and after octets was so between them
middle_up : (s : Configuration) (c : ℕ) (first later : List ℕ) (h : Hearing) → is_up (state_in s c h) ≡ true → is_up (state_in s c (hears s c later (hears s c first h))) ≡ true → is_up (state_in s c (hears s c first h)) ≡ true
middle_up s c first later h up now = by_test (is_live (state_in s c mid)) refl where
  mid : Hearing
  mid = hears s c first h

  by_test : (b : Bool) → is_live (state_in s c mid) ≡ b → is_up (state_in s c mid) ≡ true
  by_test true e = all_lasts s c (newly_heard (allowed_in s) h.octets first) h up e
  by_test false e =
      absurd (false≢true (sym e ∙ ap (λ k. is_live (state_in s c k)) (sym (deaf s c (newly_heard (allowed_in s) mid.octets later) mid e)) ∙ up_live s c (hears s c later mid) now))

-- ---- octets that follow others

keeps_both : (u v w : View) → KeepsTouches u v → KeepsTouches v w → (IsSome u.speech → IsSome w.speech → IsSome v.speech) → KeepsTouches u w
keeps_both u v w a b between = record { came_up = λ none some. by_middle v.speech refl none some; kept = λ was some. let mid = between was some in b.kept mid some ∙ a.kept was mid } where
  by_middle : (o : Option Speech) → v.speech ≡ o → u.speech ≡ None → IsSome w.speech → w.touched ≡ None
  by_middle None e none some = b.came_up e some
  by_middle (Some speech) e none some = let mid : IsSome v.speech = subst IsSome (sym e) refl in b.kept mid some ∙ a.came_up none mid

up_of : (core : Core) (s : Configuration) (c : ℕ) (h : Hearing) (none : View) → core.ribs.config ≡ s → Knows core s c h → IsSome (outlet_in core.ribs c none).speech → is_up (state_in s c h) ≡ true
up_of core s c h none config knows some = spoken (outlet_in core.ribs c none).speech some (is_up (state_in s c h) ≡ true) (λ speech e. spoken_up s c h speech (sym (knows.outlet config none).speech ∙ e))

pub keeps_behind : (old mid new : Core) (s : Configuration) (c : ℕ) (first later : List ℕ) (h : Hearing) → old.ribs.config ≡ s → mid.ribs.config ≡ s → new.ribs.config ≡ s
    → Knows old s c h → Knows mid s c (hears s c first h) → Knows new s c (hears s c later (hears s c first h)) → (none : View)
    → KeepsTouches (outlet_in old.ribs c none) (outlet_in mid.ribs c none) → KeepsTouches (outlet_in mid.ribs c none) (outlet_in new.ribs c none) → KeepsTouches (outlet_in old.ribs c none) (outlet_in new.ribs c none)
keeps_behind old mid new s c first later h was then_is now before between after none a b =
    keeps_both (outlet_in old.ribs c none) (outlet_in mid.ribs c none) (outlet_in new.ribs c none) a b (λ some last.
    let up = middle_up s c first later h (up_of old s c h none was before some) (up_of new s c (hears s c later (hears s c first h)) none now after last) in
    let heard = up_spoken s c (hears s c first h) up in
    subst IsSome (sym ((between.outlet then_is none).speech ∙ heard.1)) refl)
