-- When a KEEPALIVE is due to a client, after each thing that befalls it.
use Rattle.std.proofs.Common.{◌≡◌, ◌≢◌, inl, inr, ℕ, Bool, true, false, List, [], ◌∷◌, ◌++◌, refl, sym, ◌∙◌, ap, subst}
use Rattle.std.specs.Prelude.{Option, Some, slice_get}
use Rattle.std.proofs.lemmas.Bool.{false≢true}
use Rattle.std.proofs.lemmas.List.{append-nil}
use Rattle.rs_open.specs.declared.short.Limit.{Limit}
use Rattle.rs_open.specs.declared.short.Limit.TheVariants as limits
use Rattle.rs_open.specs.declared.short.Short.{Short}
use Rattle.rs_open.specs.declared.short.Short.TheVariants as short
use Rattle.rs_open.specs.declared.writing.ServerOpen.{ServerOpen}
use Rattle.rs_open.specs.Writing.{server_open}
use Rattle.rs_session.specs.declared.act.Act.{Act}
use Rattle.rs_session.specs.declared.act.Act.TheVariants as acts
use Rattle.rs_session.specs.declared.session.Session.{Session}
use Rattle.rs_session.specs.declared.settings.Settings.{Settings}
use Rattle.rs_session.specs.Items.{Item}
use Rattle.rs_session.specs.Sessions.{state_of, is_live}
use Rattle.rs_session.specs.Hearing.{HasHeard, Tells, Says}
use Rattle.rs_outlet.specs.declared.answers.Speech.{Speech}
use Rattle.rs_outlet.specs.Views.{View}
use Rattle.rs_core.specs.Session.Keepalives.{KeepaliveMove, Begun, IsNext, AreKeepalives, asks_for_keepalive, fell_if}
use Rattle.rs_core.specs.Told.Telling.{limit_to}
use Rattle.rs_core.specs.Told.Outlets.{ActsOnOutlet}
use Rattle.rs_core.proofs.Session.Conversing.{IsKept}
use Rattle.rs_core.proofs.Session.LongMessages.{keepalives_longer}

-- the same octets, and the same is due
pub keepalives_same : (said : ServerOpen) (limit : Limit) (keepalives : List KeepaliveMove) (old new : List ℕ) (was due : Bool) → new ≡ old → due ≡ was → AreKeepalives said limit keepalives old was → AreKeepalives said limit keepalives new due
keepalives_same said limit keepalives old new was due octets same h = subst (λ o. AreKeepalives said limit keepalives o due) (sym octets) (subst (λ b. AreKeepalives said limit keepalives old b) (sym same) h)

-- how the client is spoken to stays, or nobody was spoken to before
pub kept_keepalives : (said : ServerOpen) (before after : Option Speech) (keepalives : List KeepaliveMove) (octets : List ℕ) (due : Bool) → IsKept before after → AreKeepalives said (limit_to before) keepalives octets due
    → AreKeepalives said (limit_to after) keepalives octets due
kept_keepalives said before after keepalives octets due (inl same) h = subst (λ o. AreKeepalives said (limit_to o) keepalives octets due) same h
kept_keepalives said before after keepalives octets due (inr none) h = keepalives_longer said (limit_to after) keepalives octets due (subst (λ o. AreKeepalives said (limit_to o) keepalives octets due) none h)

pub first_keepalives : (said : ServerOpen) (octets : List ℕ) (due : Bool) → octets ≡ server_open said → due ≡ false → AreKeepalives said limits.Short [] octets due
first_keepalives said octets due is none = (is, none)

-- ---- what a session asks for is done

keepalive_fell_due : (message : Short) (said : ServerOpen) (limit : Limit) (settings : Settings) (old new : List Item) (keepalives : List KeepaliveMove) (octets : List ℕ) (was due : Bool) → (message ≡ short.Open → ⊥) → Says message settings old new → due ≡ true
    → (is_live (state_of settings old) ≡ true → AreKeepalives said limit keepalives octets was) → AreKeepalives said limit (fell_if (asks_for_keepalive (acts.Say message)) keepalives) octets due
keepalive_fell_due short.Open said limit settings old new keepalives octets was due not tells is h = absurd (not refl)
keepalive_fell_due short.Keepalive said limit settings old new keepalives octets was due not (inl confirms) is h = (is, was, h (ap is_live confirms.before))
keepalive_fell_due short.Keepalive said limit settings old new keepalives octets was due not (inr beating) is h = (is, was, h beating.live)
keepalive_fell_due (short.Note code sub extra count) said limit settings old new keepalives octets was due not tells is h = absurd tells

pub acted_keepalives : (act : Act) (long : Bool) (sessions : List Session) (x : Session) (settings : Settings) (c : ℕ) (old new : List Item) (said : ServerOpen) (limit : Limit) (keepalives : List KeepaliveMove) (taken : List ℕ) (v w : View)
    → ActsOnOutlet act long c sessions v w → slice_get sessions c ≡ Some x → HasHeard x settings new → Tells act settings old new → (act ≡ acts.Say short.Open → ⊥) → is_live (state_of settings new) ≡ true
    → (is_live (state_of settings old) ≡ true → AreKeepalives said limit keepalives (taken ++ v.flight) v.keepalive_due) → AreKeepalives said limit (fell_if (asks_for_keepalive act) keepalives) (taken ++ w.flight) w.keepalive_due
acted_keepalives acts.None long sessions x settings c old new said limit keepalives taken v w others_alone read heard tells not live h =
    keepalives_same said limit keepalives (taken ++ v.flight) (taken ++ w.flight) v.keepalive_due w.keepalive_due (ap (λ (o : View). taken ++ o.flight) others_alone) (ap (λ (o : View). o.keepalive_due) others_alone) (h (ap is_live (sym tells.state) ∙ live))
acted_keepalives (acts.Say message) long sessions x settings c old new said limit keepalives taken v w others_alone read heard tells not live h =
    subst (λ o. AreKeepalives said limit (fell_if (asks_for_keepalive (acts.Say message)) keepalives) o w.keepalive_due) (sym (ap (λ (o : View). taken ++ o.flight) others_alone.is))
    (keepalive_fell_due message said limit settings old new keepalives (taken ++ v.flight) v.keepalive_due w.keepalive_due (λ e. not (ap (λ (m : Short). acts.Say m) e)) tells (ap (λ (o : View). o.keepalive_due) others_alone.is) h)
acted_keepalives acts.Up long sessions x settings c old new said limit keepalives taken v w others_alone read heard tells not live h = let came_up = others_alone x read settings new heard tells.now in
    keepalives_same said limit keepalives (taken ++ v.flight) (taken ++ w.flight) v.keepalive_due w.keepalive_due (ap (λ l. taken ++ l) came_up.flight) came_up.keepalive_due (h (ap is_live tells.before))
acted_keepalives (acts.Down ending) long sessions x settings c old new said limit keepalives taken v w others_alone read heard tells not live h = absurd (false≢true (sym (ap is_live tells.now) ∙ live))
acted_keepalives acts.Again long sessions x settings c old new said limit keepalives taken v w others_alone read heard tells not live h =
    keepalives_same said limit keepalives (taken ++ v.flight) (taken ++ w.flight) v.keepalive_due w.keepalive_due (ap (λ l. taken ++ l) others_alone.flight) others_alone.keepalive_due (h (ap is_live (sym tells.same.state) ∙ live))

-- ---- a message begins

longer : (octets : List ℕ) (o : ℕ) (os : List ℕ) → octets ++ o ∷ os ≢ octets
longer [] o os e = let f : ◌≡◌ {A = List ℕ} (o ∷ os) [] = e in cc
longer (p ∷ octets) o os e = longer octets o os (let f : ◌≡◌ {A = List ℕ} (p ∷ octets ++ o ∷ os) (p ∷ octets) = e in cc)

-- one is in flight
pub still_keepalives : (said : ServerOpen) (limit : Limit) (keepalives : List KeepaliveMove) (taken : List ℕ) (o : ℕ) (os flight new : List ℕ) (was due : Bool) → flight ≡ o ∷ os → new ≡ flight → due ≡ was → AreKeepalives said limit keepalives (taken ++ flight) was
    → AreKeepalives said limit (Begun taken ∷ keepalives) (taken ++ new) due
still_keepalives said limit keepalives taken o os flight new was due some same due_is h = (
  taken ++ flight,
  was,
  h,
  record {
    message = [];
    whole = ap (λ l. taken ++ l) same ∙ sym (append-nil (taken ++ flight));
    is = inl (λ e. longer taken o os (ap (λ l. taken ++ l) (sym some) ∙ e), refl, due_is);
  },
)

-- none was
pub next_keepalives : (said : ServerOpen) (limit : Limit) (keepalives : List KeepaliveMove) (taken flight message : List ℕ) (was due : Bool) → flight ≡ [] → IsNext limit was message → due ≡ false → AreKeepalives said limit keepalives (taken ++ flight) was
    → AreKeepalives said limit (Begun taken ∷ keepalives) (taken ++ message) due
next_keepalives said limit keepalives taken flight message was due empty next none h =
    (taken, was, subst (λ o. AreKeepalives said limit keepalives o was) (ap (λ l. taken ++ l) empty ∙ append-nil taken) h, record { message = message; whole = refl; is = inr (refl, next, none) })
