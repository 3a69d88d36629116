-- Which clients may be closing, call for call.
use Rattle.std.proofs.Common.{◌≡◌, ◌<◌, ◌≤◌, ◌+◌, ◌==◌, inl, inr, ℕ, zero, suc, Bool, true, false, List, refl, sym, ◌∙◌, ap, subst, arith}
use Rattle.std.specs.Prelude.{if◌then◌else◌}
use Rattle.rs_session.specs.declared.command.Command.{Command}
use Rattle.rs_policy.specs.Configuration.{Configuration}
use Rattle.rs_core.specs.Run.Moves.{Move, config_in}
use Rattle.rs_core.specs.Run.Meaning.{hearing}
use Rattle.rs_core.specs.Run.Agreeing.{Agrees}
use Rattle.rs_core.specs.Session.Hearing.{Hearing, state_in, is_closing, hears, begins, commanded, leaves, takes, offers}
use Rattle.rs_core.specs.Drives.Steps.{Step}
use Rattle.rs_core.specs.Drives.Courses.{Course, course, Continues}
use Rattle.rs_core.specs.Drives.Answers.{closes, Offers, Nothing, Fails, Takes, Gives, Used, Stopped, Goes_on, Answers, Passes, Begins, Declines, Hears, Drops, Sees, Commands, Turns, Fills, Loses, Rules, Keeps, Ended, Lasts, Owes, Closes, Ends}
use Rattle.rs_core.specs.Drives.Closing.{may_close, HasClosing, DoesAmong, Notes}
use Rattle.rs_core.specs.declared.driving.closing.MayClose.{MayClose}
use Rattle.rs_core.specs.declared.endings.Ending.{Ending}
use Rattle.rs_core.specs.declared.endings.Ending.TheVariants as reasons
use Rattle.rs_core.specs.declared.links.Event.{Event}
use Rattle.rs_core.specs.declared.links.Event.TheVariants as events
use Rattle.rs_core.specs.declared.route_server.Core.{Core}
use Rattle.rs_core.proofs.Run.Clients.{equal_or, is_own, is_other}
use Rattle.rs_core.proofs.Drives.Continuing.{goes, also}

-- ---- what ends no session

abbrev pub EndsNone : List Move → List Move → Type 0
EndsNone old new = (c : ℕ) → closes new c ≡ true → closes old c ≡ true

came : (own : Bool) (s : Configuration) (c : ℕ) (h : Hearing) → is_closing (state_in s c (if own then begins h else h)) ≡ true → is_closing (state_in s c h) ≡ true
came true s c h e = absurd (let f : false ≡ true = e in cc)
came false s c h e = e

left : (own : Bool) (s : Configuration) (c : ℕ) (why : Ending) (h : Hearing) → is_closing (state_in s c (if own then leaves s c why h else h)) ≡ true → is_closing (state_in s c h) ≡ true
left true s c why h e = absurd (let f : false ≡ true = e in cc)
left false s c why h e = e

took : (own : Bool) (s : Configuration) (c : ℕ) (octets : List ℕ) (h : Hearing) → is_closing (state_in s c (if own then takes octets h else h)) ≡ true → is_closing (state_in s c h) ≡ true
took true s c octets h e = e
took false s c octets h e = e

offers_end_none : (d room k : ℕ) (x y : Course) → Offers d room k x y → EndsNone x.run y.run
offers_end_none d room k x y (Nothing u core lent none empty) = λ c e. e
offers_end_none d room k x y (Fails u core after lent some lost) = λ c e. left (d == c) (config_in u.run) c reasons.Lost (offers (d == c) (hearing c u.run)) e
offers_end_none d room k x y (Takes j u core after lent some within taken) = λ c e. took (d == c) (config_in u.run) c _ (offers (d == c) (hearing c u.run)) e

gives_end_none : (d room : ℕ) (x y : Course) → Gives d room x y → EndsNone x.run y.run
gives_end_none d room x y (Used u) = λ c e. e
gives_end_none d room x y (Stopped r u v some offers) = offers_end_none d r 0 u v offers
gives_end_none d room x y (Goes_on r k u v w some within offers rest) = λ c e. offers_end_none d r k u v offers c (gives_end_none d _ v w rest c e)

ended_ends_none : (d : ℕ) (x y : Course) → Ended d x y → EndsNone x.run y.run
ended_ends_none d x y (Lasts u not) = λ c e. e
ended_ends_none d x y (Owes u core lent closing some) = λ c e. e
ended_ends_none d x y (Closes u core after lent closing none gone) = λ c e. left (d == c) (config_in u.run) c reasons.Lost (offers (d == c) (hearing c u.run)) e

-- an event by which sessions may end
abbrev pub may_end : Event → Bool
may_end (events.Octets c len) = true
may_end (events.Moment t) = true
may_end (events.Commanded c command) = true
may_end events.Rules = true
may_end (events.Opened c) = false
may_end events.Turn = false
may_end (events.Room c room) = false
may_end (events.Lost c) = false
may_end events.Stop = false

answers_end_none : (octets : List ℕ) (event : Event) (x y : Course) → Answers octets event x y → may_end event ≡ false → EndsNone x.run y.run
answers_end_none octets event x y (Passes e u over) ne = λ c e. e
answers_end_none octets event x y (Begins d u core became lt idle) ne = λ c e. came (d == c) (config_in u.run) c (hearing c u.run) e
answers_end_none octets event x y (Declines d u lt busy) ne = λ c e. e
answers_end_none octets event x y (Hears d len u core became lt le) ne = absurd (let f : true ≡ false = ne in cc)
answers_end_none octets event x y (Drops d len u core became lt le) ne = absurd (let f : true ≡ false = ne in cc)
answers_end_none octets event x y (Sees t u core became) ne = absurd (let f : true ≡ false = ne in cc)
answers_end_none octets event x y (Commands d command u core became lt) ne = absurd (let f : true ≡ false = ne in cc)
answers_end_none octets event x y (Turns refused u core became established) ne = λ c e. e
answers_end_none octets event x y (Fills d room u v lt gives) ne = gives_end_none d room u v gives
answers_end_none octets event x y (Loses d u core became lt) ne = λ c e. left (d == c) (config_in u.run) c reasons.Lost (hearing c u.run) e
answers_end_none octets event x y (Rules config u core became replaces) ne = absurd (let f : true ≡ false = ne in cc)
answers_end_none octets event x y (Keeps fault u refuses) ne = absurd (let f : true ≡ false = ne in cc)

-- ---- what is noted

-- an event by which no session ends
pub notes_none : (event : Event) (set : MayClose) → may_end event ≡ false → Notes event set set
notes_none event set ne octets x y answers has c few e = has c few (answers_end_none octets event x y answers ne c e)

if_own : (b t : Bool) → t ≡ true → (if b then true else t) ≡ true
if_own true t e = refl
if_own false t e = e

-- octets of a client
pub notes_octets : (c len : ℕ) (old new : MayClose) → ((d : ℕ) → d < 512 → may_close new d ≡ (if d == c then true else may_close old d)) → Notes (events.Octets c len) old new
notes_octets c len old new adds octets x y (Passes event u over) has d few e = adds d few ∙ if_own (d == c) (may_close old d) (has d few e)
notes_octets c len old new adds octets x y (Hears k n u core became lt le) has d few e = elim (equal_or d c) [
  | inl is ↦ adds d few ∙ ap (λ b. if b then true else may_close old d) (ap (λ k. k == c) is ∙ is_own c)
  | inr ne ↦
      let other : closes u.run d ≡ true = subst (λ b. is_closing (state_in (config_in u.run) d (if b then hears (config_in u.run) d octets (hearing d u.run) else hearing d u.run)) ≡ true) (is_other c d (λ is. ne (sym is))) e in
      adds d few ∙ if_own (d == c) (may_close old d) (has d few other)
]
notes_octets c len old new adds octets x y (Drops k n u core became lt le) has d few e =
    adds d few ∙ if_own (d == c) (may_close old d) (has d few (left (c == d) (config_in u.run) d reasons.Memory (hearing d u.run) e))

-- a command for a client's session
pub notes_command : (c : ℕ) (command : Command) (old new : MayClose) → ((d : ℕ) → d < 512 → may_close new d ≡ (if d == c then true else may_close old d)) → Notes (events.Commanded c command) old new
notes_command c command old new adds octets x y (Passes event u over) has d few e = adds d few ∙ if_own (d == c) (may_close old d) (has d few e)
notes_command c command old new adds octets x y (Commands k given u core became lt) has d few e = elim (equal_or d c) [
  | inl is ↦ adds d few ∙ ap (λ b. if b then true else may_close old d) (ap (λ k. k == c) is ∙ is_own c)
  | inr ne ↦
      let other : closes u.run d ≡ true = subst (λ b. is_closing (state_in (config_in u.run) d (if b then commanded (config_in u.run) d command (hearing d u.run) else hearing d u.run)) ≡ true) (is_other c d (λ is. ne (sym is))) e in
      adds d few ∙ if_own (d == c) (may_close old d) (has d few other)
]

-- ---- one client is asked

-- it isn't closing, and left out of the set
pub left_out : {L : Type 0} (happens : L → Step → L → Type 0) (core : Core) (link : L) (old new : MayClose) (c : ℕ) (closing : Bool)
    → ((run : List Move) → Agrees core run → closing ≡ closes run c) → closing ≡ false → ((d : ℕ) → may_close new d ≡ (if d == c then false else may_close old d))
    → Continues happens core link core link (DoesAmong (Ended c) old new)
left_out happens core link old new c closing is off removes =
    goes happens core link core link (DoesAmong (Ended c) old new) (λ s. s) (λ r. r) (λ first s l. l) (λ run h. h)
    (λ steps run h has. (Lasts (course core steps run h) (not run h), λ d few e. others run d few e (not run h) has)) where
      not : (run : List Move) → Agrees core run → closes run c ≡ false
      not run h = sym (is run h) ∙ off

      others : (run : List Move) (d : ℕ) → d < 512 → closes run d ≡ true → closes run c ≡ false → HasClosing old run → may_close new d ≡ true
      others run d few e off has = elim (equal_or d c) [
        | inl same ↦ absurd (let f : true ≡ false = sym e ∙ (ap (λ k. closes run k) same ∙ off) in cc)
        | inr ne ↦ removes d ∙ (ap (λ b. if b then false else may_close old d) (is_other d c ne) ∙ has d few e)
      ]

-- it is closing, and stays in the set
pub stays_in : {L : Type 0} (happens : L → Step → L → Type 0) (old : Core) (before : L) (new : Core) (after : L) (set : MayClose) (c : ℕ)
    → Continues happens old before new after (Ended c) → Continues happens old before new after (DoesAmong (Ended c) set set)
stays_in happens old before new after set c so =
    also happens old before new after (Ended c) (DoesAmong (Ended c) set set)
    (λ steps run h y ended has. (ended, λ d few e. has d few (ended_ends_none c (course old steps run h) y ended d e))) so

-- ---- all are asked that are in the set

not_closing : (set : MayClose) (run : List Move) (c : ℕ) → HasClosing set run → c < 512 → may_close set c ≡ false → closes run c ≡ false
not_closing set run c has few out = go (closes run c) refl where
  go : (b : Bool) → closes run c ≡ b → closes run c ≡ false
  go false e = e
  go true e = absurd (let f : true ≡ false = sym (has c few e) ∙ out in cc)

-- those behind, none of which is closing, have nothing to be done for
ends_on : (k n : ℕ) (x y : Course) → k ≤ n → Ends k x y → ((c : ℕ) → k ≤ c → c < n → closes y.run c ≡ false) → Ends n x y
ends_on k zero x y le ends none = let e : k ≡ 0 = omega (arith, le) in subst (λ m. Ends m x y) e ends
ends_on k (suc n) x y le ends none = elim (equal_or k (suc n)) [
  | inl is ↦ subst (λ m. Ends m x y) is ends
  | inr ne ↦
      let on : k ≤ n = omega (arith, le, ne) in
      (y, ends_on k n x y on ends (λ c low high. none c low (omega (arith, high))), Lasts y (none n on (omega arith)))
]

pub ends_to : (old set : MayClose) (k n : ℕ) (x y : Course) → k ≤ n → n ≤ 512 → ((c : ℕ) → k ≤ c → c < n → may_close set c ≡ false) → DoesAmong (Ends k) old set x y → DoesAmong (Ends n) old set x y
ends_to old set k n x y le few none so = λ has.
    let done = so has in
    (ends_on k n x y le done.0 (λ c low high. not_closing set y.run c done.1 (omega (arith, high, few)) (none c low high)), done.1)

-- and one more
pub ends_more : (old set new : MayClose) (k c : ℕ) (x y z : Course) → k ≤ c → c < 512 → ((d : ℕ) → k ≤ d → d < c → may_close set d ≡ false)
    → DoesAmong (Ends k) old set x y → DoesAmong (Ended c) set new y z → DoesAmong (Ends (c + 1)) old new x z
ends_more old set new k c x y z le few none so one = λ has.
    let done = ends_to old set k c x y le (omega (arith, few)) none so has in
    let ended = one done.1 in
    let next : suc c ≡ c + 1 = omega arith in
    (subst (λ m. Ends m x z) next (y, done.0, ended.0), ended.1)
