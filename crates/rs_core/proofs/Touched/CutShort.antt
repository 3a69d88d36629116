-- What octets touch where memory was refused for them: at most what one of their messages alters.
use Rattle.std.proofs.Common.{◌≡◌, ◌≢◌, inl, inr, ℕ, true, List, [], ◌∷◌, ◌++◌, refl, sym, ◌∙◌, ap, subst}
use Rattle.std.specs.Prelude.{Ok}
use Rattle.rs_octets.specs.declared.heads.Kind.{Kind}
use Rattle.rs_octets.specs.Fronts.{BeginsWith}
use Rattle.rs_octets.specs.Messages.{IsMessageOf, body_of, newly_heard}
use Rattle.rs_octets.specs.Prefixes.{Prefix}
use Rattle.rs_octets.proofs.Cut.{heard_alone}
use Rattle.rs_octets.proofs.GoodHeaders.{of_type_is}
use Rattle.rs_adjin.specs.AdjIns.{held_of}
use Rattle.rs_session.specs.Sessions.{is_live}
use Rattle.rs_policy.specs.Configuration.{Configuration}
use Rattle.rs_core.specs.Session.Hearing.{Hearing, allowed_in, state_in, table_in, body_said, takes_in, listens, listens_to, hears}
use Rattle.rs_core.specs.Touched.Altering.{AreAltering, IsAlteredBy}
use Rattle.rs_core.specs.Run.Agreeing.{Knows, Waits}
use Rattle.rs_core.specs.Ribs.{TouchesOthersAtChange, TouchesOthersJustWhere, TouchesOthersWithin}
use Rattle.rs_core.specs.Run.Parts.{FillsUp, IsBetween}
use Rattle.rs_core.specs.declared.ribs.Ribs.{Ribs}
use Rattle.rs_core.specs.declared.route_server.Core.{Core}
use Rattle.rs_core.proofs.Session.Listening.{Heards}
use Rattle.rs_core.proofs.Run.Around.{same_or}
use Rattle.rs_core.proofs.Session.Cutting.{hears_message, newly_between}
use Rattle.rs_core.proofs.Session.Filling.{newly_message}
use Rattle.rs_core.proofs.Touched.Altering.{piece_joined}
use Rattle.rs_core.proofs.Touched.ChangedPrefixes.{within_changed, within_of, within_on}

-- ---- where a table has changed, one of the messages altered it

messages_alter : (s : Configuration) (c : ℕ) (ms : Heards) (h : Hearing) (p : Prefix) → table_in s c (listens_to s c ms h) p ≢ table_in s c h p → AreAltering s c ms h p
messages_alter s c [] h p differs = absurd (differs refl)
messages_alter s c (m ∷ ms) h p differs = elim (same_or (table_in s c (listens s c m h) p) (table_in s c h p)) [
  | inl same ↦ inr (messages_alter s c ms (listens s c m h) p (λ e. differs (e ∙ same)))
  | inr other ↦ inl other
]

piece_alters : (s : Configuration) (c : ℕ) (octets : List ℕ) (h : Hearing) (p : Prefix) → table_in s c (hears s c octets h) p ≢ table_in s c h p → IsAlteredBy s c octets h p
piece_alters s c octets h p differs = messages_alter s c (newly_heard (allowed_in s) h.octets octets) h p differs

pub held_alters : (s : Configuration) (c : ℕ) (octets : List ℕ) (h : Hearing) (old new : Core) → Knows old s c h → Knows new s c (hears s c octets h)
    → (p : Prefix) → held_of new.ribs.tables c p ≢ held_of old.ribs.tables c p → IsAlteredBy s c octets h p
held_alters s c octets h old new before now p differs = piece_alters s c octets h p (λ e. differs (now.table p ∙ e ∙ sym (before.table p)))

-- one message is all that is new
one_alters : (s : Configuration) (c : ℕ) (h : Hearing) (kind : Kind) (body octets message : List ℕ) → IsMessageOf (allowed_in s) kind message → body ≡ body_of message → is_live (state_in s c h) ≡ true
    → newly_heard (allowed_in s) h.octets octets ≡ Ok message ∷ [] → (p : Prefix) → table_in s c (takes_in s c (body_said s c h kind body) h) p ≢ table_in s c h p → IsAlteredBy s c octets h p
one_alters s c h kind body octets message is body_is live new p differs =
    piece_alters s c octets h p (λ e. differs (ap (λ k. table_in s c k p) (sym (hears_message s c h kind body octets message is body_is live new)) ∙ e))

-- octets in front
front_alters : (s : Configuration) (c : ℕ) (piece first later : List ℕ) (h : Hearing) (p : Prefix) → piece ≡ first ++ later → IsAlteredBy s c first h p → IsAlteredBy s c piece h p
front_alters s c piece first later h p whole x = subst (λ o. IsAlteredBy s c o h p) (sym whole) ((piece_joined s c first later h p).1 (inl x))

-- and those that follow them
rest_alters : (s : Configuration) (c : ℕ) (piece first later : List ℕ) (h : Hearing) (p : Prefix) → piece ≡ first ++ later → IsAlteredBy s c later (hears s c first h) p → IsAlteredBy s c piece h p
rest_alters s c piece first later h p whole x = subst (λ o. IsAlteredBy s c o h p) (sym whole) ((piece_joined s c first later h p).1 (inr x))

-- ---- memory was refused

-- in the midst of a message that the front of a piece made whole
pub waiting_within : (s : Configuration) (c : ℕ) (h : Hearing) (buffer filled piece rest : List ℕ) (kind : Kind) (body behind : List ℕ) (old new : Ribs) → is_live (state_in s c h) ≡ true → Waits s c buffer h
    → FillsUp (allowed_in s) buffer piece filled rest → BeginsWith (allowed_in s) filled kind body behind
    → ((p : Prefix) → held_of new.tables c p ≢ held_of old.tables c p → table_in s c (takes_in s c (body_said s c h kind body) h) p ≢ table_in s c h p)
    → TouchesOthersAtChange c old new → TouchesOthersWithin (IsAlteredBy s c piece h) c old new
waiting_within s c h buffer filled piece rest kind body behind old new live w fills at part others_touched =
    let new_is = (newly_message s c h buffer filled piece rest kind body behind live w fills at).1 in
    within_changed (IsAlteredBy s c piece h) c old new
    (λ p differs. front_alters s c piece fills.front rest h p fills.whole (one_alters s c h kind body fills.front at.message at.is at.body_is live new_is p (part p differs))) others_touched

-- in the midst of a message of a piece, after others
pub piece_within : (s : Configuration) (c : ℕ) (h : Hearing) (piece before octets : List ℕ) (kind : Kind) (body rest : List ℕ) (old mid new : Core) → piece ≡ before ++ octets → mid.ribs.count ≡ old.ribs.count
    → is_live (state_in s c (hears s c before h)) ≡ true → BeginsWith (allowed_in s) octets kind body rest → Knows old s c h → IsBetween mid s c (hears s c before h)
    → ((p : Prefix) → held_of new.ribs.tables c p ≢ held_of mid.ribs.tables c p → table_in s c (takes_in s c (body_said s c (hears s c before h) kind body) (hears s c before h)) p ≢ table_in s c (hears s c before h) p)
    → TouchesOthersJustWhere (IsAlteredBy s c before h) c old.ribs mid.ribs → TouchesOthersAtChange c mid.ribs new.ribs → TouchesOthersWithin (IsAlteredBy s c piece h) c old.ribs new.ribs
piece_within s c h piece before octets kind body rest old mid new whole count live at knows between part others_touched later =
    let a = allowed_in s in
    let it : Hearing = hears s c before h in
    let new_is = newly_between a it.octets at.message (between.rest live) ∙ heard_alone a at.message (of_type_is a kind at.message at.is) in
    within_on (IsAlteredBy s c before h) (IsAlteredBy s c octets it) (IsAlteredBy s c piece h) c old.ribs mid.ribs new.ribs count
    (λ p x. front_alters s c piece before octets h p whole x) (λ p x same. rest_alters s c piece before octets h p whole x)
    (within_of (IsAlteredBy s c before h) (IsAlteredBy s c before h) c old.ribs mid.ribs (held_alters s c before h old mid knows between.knows) (λ p x. x) others_touched)
    (within_changed (IsAlteredBy s c octets it) c mid.ribs new.ribs
    (λ p differs. front_alters s c octets at.message rest it p at.whole (one_alters s c it kind body at.message at.message at.is at.body_is live new_is p (part p differs))) later)

-- in the rest of a piece whose front was heard
pub rest_within : (s : Configuration) (c : ℕ) (h : Hearing) (piece first rest : List ℕ) (old mid : Core) (new : Ribs) → piece ≡ first ++ rest → mid.ribs.count ≡ old.ribs.count → Knows old s c h → Knows mid s c (hears s c first h)
    → TouchesOthersJustWhere (IsAlteredBy s c first h) c old.ribs mid.ribs → TouchesOthersWithin (IsAlteredBy s c rest (hears s c first h)) c mid.ribs new → TouchesOthersWithin (IsAlteredBy s c piece h) c old.ribs new
rest_within s c h piece first rest old mid new whole count knows now others_touched later =
    within_on (IsAlteredBy s c first h) (IsAlteredBy s c rest (hears s c first h)) (IsAlteredBy s c piece h) c old.ribs mid.ribs new count
    (λ p x. front_alters s c piece first rest h p whole x) (λ p x same. rest_alters s c piece first rest h p whole x)
    (within_of (IsAlteredBy s c first h) (IsAlteredBy s c first h) c old.ribs mid.ribs (held_alters s c first h old mid knows now) (λ p x. x) others_touched) later

-- for what is no whole message
pub beginning_within : (s : Configuration) (c : ℕ) (h : Hearing) (piece before octets : List ℕ) (old mid : Core) → piece ≡ before ++ octets → Knows old s c h → Knows mid s c (hears s c before h)
    → TouchesOthersJustWhere (IsAlteredBy s c before h) c old.ribs mid.ribs → TouchesOthersWithin (IsAlteredBy s c piece h) c old.ribs mid.ribs
beginning_within s c h piece before octets old mid whole knows now others_touched =
    within_of (IsAlteredBy s c before h) (IsAlteredBy s c piece h) c old.ribs mid.ribs (held_alters s c before h old mid knows now) (λ p x. front_alters s c piece before octets h p whole x) others_touched
