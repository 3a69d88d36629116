-- Up to which moment the hold timer ends nothing.
use Rattle.std.proofs.Common.{◌≡◌, ◌≢◌, ◌<◌, ◌≤◌, ◌-◌, ℕ, zero, suc, Bool, true, false, min, max, List, Some, refl, sym, ap, ◌∙◌, subst, if◌then◌else◌, arith}
use Rattle.std.proofs.lemmas.Bool.Decides.{nat_tests}
use Rattle.rs_session.specs.declared.act.Act.TheVariants as acts
use Rattle.rs_session.specs.declared.settings.Settings.{Settings}
use Rattle.rs_session.specs.declared.session.Session.{Session}
use Rattle.rs_session.specs.declared.phase.Phase.{Phase}
use Rattle.rs_session.specs.declared.phase.Phase.TheVariants as phases
use Rattle.rs_session.specs.Items.{Item, greatest, hold_timer_since, open_heard}
use Rattle.rs_session.specs.Endings.{GoesOn, Ends, expired, is_past, open_wait, hold_time}
use Rattle.rs_session.specs.Sessions.{state_of, is_live, falls_due, moment_act, is_down, ends_at}
use Rattle.rs_session.specs.Hearing.{Stands, HasHeard}
use Rattle.rs_session.specs.Steps.{quiet_for}
use Rattle.rs_session.proofs.Phases.{state_in, state_heard}
use Rattle.rs_session.proofs.Standing.{live_confirmed}
use Rattle.rs_session.proofs.Lasting.{keeps_time}

-- ---- the arithmetic

early : (time since latest t : ℕ) → (time ≢ 0 → latest - since < time) → t ≤ quiet_for time since → is_past time since (max latest t) ≡ false
early zero since latest t in_time le = refl
early (suc most) since latest t in_time le =
    let lt : latest - since < suc most = in_time (λ e. cc) in
    grind (arith, nat_tests, lt, le)

late : (time since latest t : ℕ) → quiet_for time since < t → t ≤ 18446744073709551615 → is_past time since (max latest t) ≡ true
late zero since latest t lt le = absurd (omega (arith, lt, le))
late (suc most) since latest t lt le = grind (arith, nat_tests, lt, le)

-- ---- the end

down_where : (past falls : Bool) → is_down (moment_act (if past then Ends (Some expired) else GoesOn) falls) ≡ past
down_where true falls = refl
down_where false true = refl
down_where false false = refl

ends_where : (s : Settings) (items : List Item) (t : ℕ) → is_live (state_of s items) ≡ true
    → ends_at s items t ≡ is_past (hold_time s.hold (open_heard items)) (hold_timer_since items) (max (greatest items) t)
ends_where s items t live =
    ap (λ b. is_down (if b then moment_act (if is_past (hold_time s.hold (open_heard items)) (hold_timer_since items) (max (greatest items) t) then Ends (Some expired) else GoesOn) (falls_due s t items) else acts.None)) live
    ∙ down_where (is_past (hold_time s.hold (open_heard items)) (hold_timer_since items) (max (greatest items) t)) (falls_due s t items)

ends_nowhere : (s : Settings) (items : List Item) (t : ℕ) → is_live (state_of s items) ≡ false → ends_at s items t ≡ false
ends_nowhere s items t over =
    ap (λ b. is_down (if b then moment_act (if is_past (hold_time s.hold (open_heard items)) (hold_timer_since items) (max (greatest items) t) then Ends (Some expired) else GoesOn) (falls_due s t items) else acts.None)) over

-- what the timer allows, and since when it runs
pub record IsTimedBy (s : Settings) (items : List Item) (time since : ℕ) : Type 0 where
  pub live : is_live (state_of s items) ≡ true
  pub allowed : hold_time s.hold (open_heard items) ≡ time
  pub began : hold_timer_since items ≡ since

pub quiet_before : (s : Settings) (items : List Item) (time since t : ℕ) → IsTimedBy s items time since → t ≤ quiet_for time since → ends_at s items t ≡ false
quiet_before s items time since t w le =
    let in_time = (keeps_time s items w.live).hold_timer in
    ends_where s items t w.live
    ∙ early (hold_time s.hold (open_heard items)) (hold_timer_since items) (greatest items) t in_time
    (subst (λ n. t ≤ quiet_for n (hold_timer_since items)) (sym w.allowed) (subst (λ n. t ≤ quiet_for time n) (sym w.began) le))

pub ends_after : (s : Settings) (items : List Item) (time since t : ℕ) → IsTimedBy s items time since → quiet_for time since < t → t ≤ 18446744073709551615 → ends_at s items t ≡ true
ends_after s items time since t w lt le =
    ends_where s items t w.live
    ∙ late (hold_time s.hold (open_heard items)) (hold_timer_since items) (greatest items) t
    (subst (λ n. quiet_for n (hold_timer_since items) < t) (sym w.allowed) (subst (λ n. quiet_for time n < t) (sym w.began) lt)) le

-- ---- by the phase

-- the greatest moment that ends nothing, as the code finds it
abbrev pub quiet_in : ℕ → Phase → ℕ
quiet_in hold phases.Idle = 18446744073709551615
quiet_in hold (phases.OpenSent since) = quiet_for open_wait since
quiet_in hold (phases.Agreed peer) = quiet_for (min hold peer.sent.hold) peer.hold_timer_since
quiet_in hold phases.Closing = 18446744073709551615

pub quiet_heard : (session : Session) (s : Settings) (items : List Item) (t : ℕ) → HasHeard session s items
    → t ≤ quiet_in session.settings.hold session.phase → ends_at s items t ≡ false
unfolding HasHeard
quiet_heard session s items t h le = go session.phase refl h.phase le where
  go : (phase : Phase) → session.phase ≡ phase → Stands phase s items → t ≤ quiet_in session.settings.hold phase → ends_at s items t ≡ false
  go phases.Idle e w le = ends_nowhere s items t (ap is_live (state_heard session s items h ∙ ap state_in e))
  go (phases.OpenSent since) e w le =
      quiet_before s items open_wait since t (record { live = ap is_live (state_heard session s items h ∙ ap state_in e); allowed = ap (hold_time s.hold) w.sent; began = w.hold_timer }) le
  go (phases.Agreed peer) e w le =
      quiet_before s items (min s.hold peer.sent.hold) peer.hold_timer_since t
      (record { live = ap is_live (state_heard session s items h ∙ ap state_in e) ∙ live_confirmed peer.confirmed; allowed = ap (hold_time s.hold) w.sent; began = w.hold_timer })
      (subst (λ (x : Settings). t ≤ quiet_for (min x.hold peer.sent.hold) peer.hold_timer_since) h.settings_are le)
  go phases.Closing e w le = ends_nowhere s items t (ap is_live (state_heard session s items h ∙ ap state_in e))

pub ending_heard : (session : Session) (s : Settings) (items : List Item) (t : ℕ) → HasHeard session s items
    → quiet_in session.settings.hold session.phase < t → t ≤ 18446744073709551615 → ends_at s items t ≡ true
unfolding HasHeard
ending_heard session s items t h lt le = go session.phase refl h.phase lt where
  go : (phase : Phase) → session.phase ≡ phase → Stands phase s items → quiet_in session.settings.hold phase < t → ends_at s items t ≡ true
  go phases.Idle e w lt = absurd (omega (arith, lt, le))
  go (phases.OpenSent since) e w lt =
      ends_after s items open_wait since t (record { live = ap is_live (state_heard session s items h ∙ ap state_in e); allowed = ap (hold_time s.hold) w.sent; began = w.hold_timer }) lt le
  go (phases.Agreed peer) e w lt =
      ends_after s items (min s.hold peer.sent.hold) peer.hold_timer_since t
      (record { live = ap is_live (state_heard session s items h ∙ ap state_in e) ∙ live_confirmed peer.confirmed; allowed = ap (hold_time s.hold) w.sent; began = w.hold_timer })
      (subst (λ (x : Settings). quiet_for (min x.hold peer.sent.hold) peer.hold_timer_since < t) h.settings_are lt) le
  go phases.Closing e w lt = absurd (omega (arith, lt, le))
