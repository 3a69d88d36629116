-- One moment more.
use Rattle.std.proofs.Common.{◌≡◌, ℕ, Bool, true, false, min, max, List, ◌∷◌, Option, Some, None, refl, sym, ap, subst, ◌∙◌, if◌then◌else◌, inr}
use Rattle.rs_open.specs.declared.open.Open.{Open}
use Rattle.rs_open.specs.declared.short.Short.TheVariants as short
use Rattle.rs_session.specs.declared.act.State.{State}
use Rattle.rs_session.specs.declared.act.State.TheVariants as states
use Rattle.rs_session.specs.declared.act.Act.{Act}
use Rattle.rs_session.specs.declared.act.Act.TheVariants as acts
use Rattle.rs_session.specs.declared.settings.Settings.{Settings}
use Rattle.rs_session.specs.declared.session.Session.{Session}
use Rattle.rs_session.specs.declared.phase.Phase.{Phase}
use Rattle.rs_session.specs.declared.phase.Phase.TheVariants as phases
use Rattle.rs_session.specs.declared.phase.Peer.{Peer}
use Rattle.rs_session.specs.Items.{Item, Moment, greatest, hold_timer_since, open_heard}
use Rattle.rs_session.specs.Endings.{Fate, GoesOn, Ends, open_wait, moment_fate, hold_time}
use Rattle.rs_session.specs.Sessions.{fate, item_fate, state_of, is_live, falls_by, is_third_past, keepalive_timer_since, falls_due, moment_act, act_of}
use Rattle.rs_session.specs.Hearing.{IsWaiting, HasAgreed, Stands, HasHeard, Stays, Tells, RespondsTo}
use Rattle.rs_session.specs.Steps.{step, tick, wait, moment_step}
use Rattle.rs_session.proofs.Phases.{state_is}
use Rattle.rs_session.proofs.Standing.{earlier_goes, earlier_ended, live_act, still_act, stands_by, same, down, live_confirmed}

-- ---- the phase

moment_fate_is : (s : Settings) (items : List Item) (t : ℕ) (sent : Option Open) (since : ℕ)
    → fate s items ≡ GoesOn → open_heard items ≡ sent → hold_timer_since items ≡ since
    → fate s (Moment t ∷ items) ≡ moment_fate (hold_time s.hold sent) since (max (greatest items) t)
moment_fate_is s items t sent since l o a =
    earlier_goes _ _ l
    ∙ ap (λ x. moment_fate (hold_time s.hold x) (hold_timer_since items) (max (greatest items) t)) o
    ∙ ap (λ x. moment_fate (hold_time s.hold sent) x (max (greatest items) t)) a

wait_stands : (s : Settings) (items : List Item) (since t : ℕ) → IsWaiting s items since
    → Stands (wait since (max (greatest items) t)).0 s (Moment t ∷ items)
wait_stands s items since t w =
    let e : fate s (Moment t ∷ items) ≡ moment_fate open_wait since (max (greatest items) t) =
    moment_fate_is s items t None since w.lasts w.sent w.hold_timer in
    stands_by (moment_fate open_wait since (max (greatest items) t)) (phases.OpenSent since) acts.None s
    (Moment t ∷ items) w.connected e
    (λ f. record { connected = w.connected; lasts = e ∙ f; count = w.count; sent = w.sent; hold_timer = w.hold_timer })

falls_is : (s : Settings) (items : List Item) (peer : Peer) (t : ℕ) → HasAgreed s items peer
    → fate s (Moment t ∷ items) ≡ GoesOn
    → falls_due s t items ≡ is_third_past (min s.hold peer.sent.hold) peer.keepalive_timer_since (max (greatest items) t)
falls_is s items peer t w e =
    ap (λ f. falls_by f s.hold (open_heard items) (keepalive_timer_since s items) (max (greatest items) t)) e
    ∙ ap (λ x. falls_by GoesOn s.hold x (keepalive_timer_since s items) (max (greatest items) t)) w.sent
    ∙ ap (λ x. is_third_past (min s.hold peer.sent.hold) x (max (greatest items) t)) w.keepalive_timer

abbrev ticking : Settings → List Item → Peer → ℕ → Peer
ticking s items peer t =
    record peer
    { keepalive_timer_since = if is_third_past (min s.hold peer.sent.hold) peer.keepalive_timer_since (max (greatest items) t) then max (greatest items) t else peer.keepalive_timer_since }

tick_fate_is : (s : Settings) (items : List Item) (peer : Peer) (t : ℕ) → HasAgreed s items peer
    → fate s (Moment t ∷ items) ≡ moment_fate (min s.hold peer.sent.hold) peer.hold_timer_since (max (greatest items) t)
tick_fate_is s items peer t w =
    moment_fate_is s items t (Some peer.sent) peer.hold_timer_since w.lasts w.sent w.hold_timer

ticking_stands : (s : Settings) (items : List Item) (peer : Peer) (t : ℕ) → HasAgreed s items peer
    → fate s (Moment t ∷ items) ≡ GoesOn → HasAgreed s (Moment t ∷ items) (ticking s items peer t)
ticking_stands s items peer t w e = record {
  connected = w.connected;
  lasts = e;
  count = w.count;
  sent = w.sent;
  hold_timer = w.hold_timer;
  keepalive_timer = ap (λ b. if b then max (greatest items) t else keepalive_timer_since s items) (falls_is s items peer t w e)
      ∙ ap
      (λ x. if is_third_past (min s.hold peer.sent.hold) peer.keepalive_timer_since (max (greatest items) t) then max (greatest items) t else x)
      w.keepalive_timer;
}

tick_stands : (s : Settings) (items : List Item) (peer : Peer) (t : ℕ) → HasAgreed s items peer
    → Stands (tick (min s.hold peer.sent.hold) peer (max (greatest items) t)).0 s (Moment t ∷ items)
tick_stands s items peer t w =
    stands_by _ (phases.Agreed (ticking s items peer t)) _ s (Moment t ∷ items) w.connected
    (tick_fate_is s items peer t w)
    (λ f. ticking_stands s items peer t w (tick_fate_is s items peer t w ∙ f))

moment_stands : (phase : Phase) (s : Settings) (items : List Item) (t : ℕ) → Stands phase s items
    → Stands (moment_step phase s.hold (max (greatest items) t)).0 s (Moment t ∷ items)
moment_stands phases.Idle s items t h = h
moment_stands (phases.OpenSent since) s items t h = wait_stands s items since t h
moment_stands (phases.Agreed peer) s items t h = tick_stands s items peer t h
moment_stands phases.Closing s items t h = record { connected = h.connected; note = h.note; ends = earlier_ended _ _ _ h.ends }

-- ---- its answer

moment_at : (s : Settings) (items : List Item) (t : ℕ) (st : State) → state_of s items ≡ st
    → is_live st ≡ true
    → act_of s (Moment t) items ≡ moment_act (item_fate s (Moment t) items) (falls_due s t items)
moment_at s items t st e l = live_act (state_of s items) _ acts.None (ap is_live e ∙ l)

wait_act : (f : Fate) (phase : Phase) (falls : Bool) → falls ≡ false
    → (step f phase acts.None).1 ≡ moment_act f falls
wait_act (Ends said) phase falls e = refl
wait_act GoesOn phase falls e = ap (λ b. if b then acts.Say short.Keepalive else acts.None) (sym e)

tick_act : (f : Fate) (phase : Phase) (third falls : Bool) → (f ≡ GoesOn → falls ≡ third)
    → (step f phase (if third then acts.Say short.Keepalive else acts.None)).1 ≡ moment_act f falls
tick_act (Ends said) phase third falls e = refl
tick_act GoesOn phase third falls e =
    ap (λ b. if b then acts.Say short.Keepalive else acts.None) (sym (e refl))

no_open : (f : Fate) (hold since now : ℕ) (sent : Option Open) → sent ≡ None
    → falls_by f hold sent since now ≡ false
no_open (Ends said) hold since now sent e = refl
no_open GoesOn hold since now sent e = ap (λ x. falls_by GoesOn hold x since now) e

item_fate_is : (s : Settings) (items : List Item) (t : ℕ) → fate s items ≡ GoesOn
    → fate s (Moment t ∷ items) ≡ item_fate s (Moment t) items
item_fate_is s items t l = earlier_goes _ _ l

moment_acts : (phase : Phase) (s : Settings) (items : List Item) (t : ℕ) → Stands phase s items
    → (moment_step phase s.hold (max (greatest items) t)).1 ≡ act_of s (Moment t) items
moment_acts phases.Idle s items t h =
    sym (still_act (state_of s items) _ acts.None (ap is_live (state_is phases.Idle s items h)))
moment_acts (phases.OpenSent since) s items t h =
    wait_act (moment_fate open_wait since (max (greatest items) t)) _ (falls_due s t items)
    (no_open _ _ _ _ (open_heard items) h.sent)
    ∙ ap (λ f. moment_act f (falls_due s t items))
    (sym (moment_fate_is s items t None since h.lasts h.sent h.hold_timer) ∙ item_fate_is s items t h.lasts)
    ∙ sym (moment_at s items t states.OpenSent (state_is (phases.OpenSent since) s items h) refl)
moment_acts (phases.Agreed peer) s items t h =
    tick_act (moment_fate (min s.hold peer.sent.hold) peer.hold_timer_since (max (greatest items) t)) _ _
    (falls_due s t items) (λ f. falls_is s items peer t h (tick_fate_is s items peer t h ∙ f))
    ∙ ap (λ f. moment_act f (falls_due s t items))
    (sym (tick_fate_is s items peer t h) ∙ item_fate_is s items t h.lasts)
    ∙ sym (moment_at s items t _ (state_is (phases.Agreed peer) s items h) (live_confirmed peer.confirmed))
moment_acts phases.Closing s items t h =
    sym (still_act (state_of s items) _ acts.None (ap is_live (state_is phases.Closing s items h)))

-- ---- what it tells

wait_tells : (s : Settings) (items : List Item) (since t : ℕ) → IsWaiting s items since → (f : Fate)
    → fate s (Moment t ∷ items) ≡ f
    → Tells (step f (phases.OpenSent since) acts.None).1 s items (Moment t ∷ items)
wait_tells s items since t w (Ends said) e =
    down (phases.OpenSent since) s items (Moment t) said w refl w.connected e
wait_tells s items since t w GoesOn e =
    same (phases.OpenSent since) (phases.OpenSent since) s items (Moment t) w
    (record { connected = w.connected; lasts = e; count = w.count; sent = w.sent; hold_timer = w.hold_timer }) refl refl

beat_tells : (b : Bool) (s : Settings) (old new : List Item) → is_live (state_of s old) ≡ true
    → Stays s old new → Tells (if b then acts.Say short.Keepalive else acts.None) s old new
beat_tells false s old new e h = h
beat_tells true s old new e h = inr (record { live = e; same = h })

tick_tells : (s : Settings) (items : List Item) (peer : Peer) (t : ℕ) (third : Bool)
    → HasAgreed s items peer → (f : Fate) → fate s (Moment t ∷ items) ≡ f
    → Tells
    (step f (phases.Agreed (ticking s items peer t)) (if third then acts.Say short.Keepalive else acts.None)).1
    s items (Moment t ∷ items)
tick_tells s items peer t third w (Ends said) e =
    down (phases.Agreed peer) s items (Moment t) said w (live_confirmed peer.confirmed) w.connected e
tick_tells s items peer t third w GoesOn e =
    beat_tells third s items (Moment t ∷ items)
    (ap is_live (state_is (phases.Agreed peer) s items w) ∙ live_confirmed peer.confirmed)
    (same (phases.Agreed peer) (phases.Agreed (ticking s items peer t)) s items (Moment t) w (ticking_stands s items peer t w e) refl refl)

moment_tells : (phase : Phase) (s : Settings) (items : List Item) (t : ℕ) → Stands phase s items
    → Tells (moment_step phase s.hold (max (greatest items) t)).1 s items (Moment t ∷ items)
moment_tells phases.Idle s items t h = same phases.Idle phases.Idle s items (Moment t) h h refl refl
moment_tells (phases.OpenSent since) s items t h =
    wait_tells s items since t h _ (moment_fate_is s items t None since h.lasts h.sent h.hold_timer)
moment_tells (phases.Agreed peer) s items t h =
    tick_tells s items peer t _ h _ (tick_fate_is s items peer t h)
moment_tells phases.Closing s items t h =
    same phases.Closing phases.Closing s items (Moment t) h (moment_stands phases.Closing s items t h) refl refl

pub moment_hears : (old new : Session) (t : ℕ) (act : Act)
    → ◌≡◌ {A = Phase × Act} (new.phase, act) (moment_step old.phase old.settings.hold new.latest)
    → new.latest ≡ max old.latest t → new.settings ≡ old.settings → RespondsTo old new (Moment t) act
unfolding HasHeard
moment_hears old new t act e l u s items h =
    let now : new.latest ≡ max (greatest items) t = l ∙ ap (λ x. max x t) h.latest in
    let f : ◌≡◌ {A = Phase × Act} (new.phase, act) (moment_step old.phase s.hold (max (greatest items) t)) =
    e ∙ ap (λ (x : Settings). moment_step old.phase x.hold new.latest) h.settings_are
    ∙ ap (λ x. moment_step old.phase s.hold x) now in
    record {
      heard = record {
        settings_are = u ∙ h.settings_are;
        latest = now;
        phase = subst (λ (x : Phase × Act). Stands x.0 s (Moment t ∷ items)) (sym f)
            (moment_stands old.phase s items t h.phase);
      };
      act_is = ap (λ (x : Phase × Act). x.1) f ∙ moment_acts old.phase s items t h.phase;
      tells = subst (λ (x : Phase × Act). Tells x.1 s items (Moment t ∷ items)) (sym f)
          (moment_tells old.phase s items t h.phase);
    }
