-- Octets of a client that alter its table, and what they touch for the others, message by message.
use Rattle.std.proofs.Common.{◌≡◌, ◌≢◌, ◌⊎◌, inl, inr, ◌≤◌, ℕ, true, false, List, [], ◌∷◌, ◌++◌, length, refl, sym, ◌∙◌, ap, subst, arith}
use Rattle.std.specs.Prelude.{Result, Ok, Err, OnOk, ◌↔◌, if◌then◌else◌}
use Rattle.rs_octets.specs.declared.heads.Kind.{Kind}
use Rattle.rs_octets.specs.declared.heads.HeaderFault.{HeaderFault}
use Rattle.rs_octets.specs.Fronts.{BeginsWith, Wants}
use Rattle.rs_octets.specs.Messages.{newly_heard}
use Rattle.rs_octets.specs.Prefixes.{Prefix}
use Rattle.rs_octets.proofs.Cut.{heard_alone}
use Rattle.rs_octets.proofs.Fronting.{waits}
use Rattle.rs_octets.proofs.GoodHeaders.{of_type_is}
use Rattle.rs_octets.proofs.Pieces.{newly_joined}
use Rattle.rs_session.specs.Sessions.{is_live}
use Rattle.rs_policy.specs.Configuration.{Configuration}
use Rattle.rs_core.specs.Session.Hearing.{Hearing, allowed_in, state_in, said_in, takes_in, table_in, listens, listens_to, with_octets, hears}
use Rattle.rs_core.specs.Ribs.{TouchesOthersAtChange, TouchesOthersJustWhere}
use Rattle.rs_core.specs.Touched.Altering.{AreAltering, IsAlteredBy}
use Rattle.rs_core.specs.Run.Agreeing.{Knows}
use Rattle.rs_core.specs.Run.Parts.{IsBetween}
use Rattle.rs_core.specs.declared.ribs.Ribs.{Ribs}
use Rattle.rs_core.specs.declared.route_server.Core.{Core}
use Rattle.rs_core.proofs.Session.Listening.{Heards, listens_octets}
use Rattle.rs_core.proofs.Session.Cutting.{newly_between}
use Rattle.rs_core.proofs.Session.Filling.{nothing_new}
use Rattle.rs_core.proofs.Touched.ChangedPrefixes.{others_touched_as, touches_others_join, touches_nowhere}

pub on_ok : {A E P : Type 0} (r : Result A E) → P → OnOk r P
on_ok (Ok x) p = p
on_ok (Err e) p = tt

pub both_ok : {A E P Q R : Type 0} (r : Result A E) → OnOk r P → OnOk r Q → (P → Q → R) → OnOk r R
both_ok (Ok x) p q f = f p q
both_ok (Err e) p q f = tt

-- ---- messages that alter a table

-- the octets before are not looked at
alters_octets : (s : Configuration) (c : ℕ) (octets : List ℕ) (ms : Heards) (h : Hearing) (p : Prefix) → AreAltering s c ms (with_octets octets h) p ↔ AreAltering s c ms h p
alters_octets s c octets [] h p = (λ x. x, λ x. x)
alters_octets s c octets (m ∷ ms) h p =
    let e = listens_octets s c octets m h in
    let rest = alters_octets s c octets ms (listens s c m h) p in (
      λ x. elim x [
        | inl differs ↦ inl (λ same. differs (ap (λ k. table_in s c k p) e ∙ same))
        | inr more ↦ inr (rest.0 (subst (λ k. AreAltering s c ms k p) e more))
      ],
      λ x. elim x [
        | inl differs ↦ inl (λ same. differs (ap (λ k. table_in s c k p) (sym e) ∙ same))
        | inr more ↦ inr (subst (λ k. AreAltering s c ms k p) (sym e) (rest.1 more))
      ],
    )

alters_joined : (s : Configuration) (c : ℕ) (ms ns : Heards) (h : Hearing) (p : Prefix) → AreAltering s c (ms ++ ns) h p ↔ (AreAltering s c ms h p ⊎ AreAltering s c ns (listens_to s c ms h) p)
alters_joined s c [] ns h p = (λ x. inr x, λ x. elim x [ inl none ↦ absurd none | inr more ↦ more ])
alters_joined s c (m ∷ ms) ns h p =
    let rest = alters_joined s c ms ns (listens s c m h) p in (
      λ x. elim x [
        | inl differs ↦ inl (inl differs)
        | inr more ↦ elim (rest.0 more) [ inl first ↦ inl (inr first) | inr later ↦ inr later ]
      ],
      λ x. elim x [
        | inl first ↦ elim first [ inl differs ↦ inl differs | inr more ↦ inr (rest.1 (inl more)) ]
        | inr later ↦ inr (rest.1 (inr later))
      ],
    )

-- who has ended, or not begun, hears nothing
alters_deaf : (s : Configuration) (c : ℕ) (ms : Heards) (h : Hearing) (p : Prefix) → is_live (state_in s c h) ≡ false → AreAltering s c ms h p → ⊥
alters_deaf s c [] h p dead x = x
alters_deaf s c (m ∷ ms) h p dead x =
    let same : listens s c m h ≡ h = ap (λ b. if b then takes_in s c (said_in s c h m) h else h) dead in
    elim x [
      | inl differs ↦ differs (ap (λ k. table_in s c k p) same)
      | inr more ↦ alters_deaf s c ms h p dead (subst (λ k. AreAltering s c ms k p) same more)
    ]

-- one message at most
alters_once : (s : Configuration) (c : ℕ) (ms : Heards) (h : Hearing) (p : Prefix) → length ms ≤ 1 → (table_in s c (listens_to s c ms h) p ≢ table_in s c h p) ↔ AreAltering s c ms h p
alters_once s c [] h p le = (λ differs. absurd (differs refl), λ none. absurd none)
alters_once s c (m ∷ []) h p le = (λ differs. inl differs, λ x. elim x [ inl differs ↦ differs | inr none ↦ absurd none ])
alters_once s c (m ∷ n ∷ ms) h p le = absurd (omega (arith, le))

-- ---- octets that do

pub piece_joined : (s : Configuration) (c : ℕ) (first later : List ℕ) (h : Hearing) (p : Prefix)
    → IsAlteredBy s c (first ++ later) h p ↔ (IsAlteredBy s c first h p ⊎ IsAlteredBy s c later (hears s c first h) p)
piece_joined s c first later h p =
    let a = allowed_in s in
    let one : Heards = newly_heard a h.octets first in
    let two : Heards = newly_heard a (h.octets ++ first) later in
    let are = newly_joined a h.octets first later in
    let both = alters_joined s c one two h p in
    let carried = alters_octets s c (h.octets ++ first) two (listens_to s c one h) p in (
      λ x. elim (both.0 (subst (λ ms. AreAltering s c ms h p) are x)) [ inl before ↦ inl before | inr more ↦ inr (carried.1 more) ],
      λ x. subst (λ ms. AreAltering s c ms h p) (sym are) (elim x [ inl before ↦ both.1 (inl before) | inr more ↦ both.1 (inr (carried.0 more)) ]),
    )

pub piece_deaf : (s : Configuration) (c : ℕ) (octets : List ℕ) (h : Hearing) (p : Prefix) → is_live (state_in s c h) ≡ false → IsAlteredBy s c octets h p → ⊥
piece_deaf s c octets h p dead x = alters_deaf s c (newly_heard (allowed_in s) h.octets octets) h p dead x

-- they say nothing
pub piece_silent : (s : Configuration) (c : ℕ) (octets : List ℕ) (h : Hearing) (p : Prefix) → newly_heard (allowed_in s) h.octets octets ≡ [] → IsAlteredBy s c octets h p → ⊥
piece_silent s c octets h p none x = subst (λ ms. AreAltering s c ms h p) none x

pub piece_once : (s : Configuration) (c : ℕ) (octets : List ℕ) (h : Hearing) (p : Prefix) → length (newly_heard (allowed_in s) h.octets octets) ≤ 1
    → (table_in s c (hears s c octets h) p ≢ table_in s c h p) ↔ IsAlteredBy s c octets h p
piece_once s c octets h p le = alters_once s c (newly_heard (allowed_in s) h.octets octets) h p le

-- ---- what they touch

-- nothing was heard yet
pub touches_at_first : (s : Configuration) (c : ℕ) (h : Hearing) (ribs : Ribs) → TouchesOthersJustWhere (IsAlteredBy s c [] h) c ribs ribs
touches_at_first s c h ribs = touches_nowhere _ c ribs ribs (λ d none ne. refl) (λ p x. piece_silent s c [] h p (nothing_new (allowed_in s) h.octets) x)

-- at most one message
pub touches_once : (s : Configuration) (c : ℕ) (octets : List ℕ) (h : Hearing) (old new : Core) → length (newly_heard (allowed_in s) h.octets octets) ≤ 1 → TouchesOthersAtChange c old.ribs new.ribs
    → Knows old s c h → Knows new s c (hears s c octets h) → TouchesOthersJustWhere (IsAlteredBy s c octets h) c old.ribs new.ribs
touches_once s c octets h old new le others_touched before now = others_touched_as _ (IsAlteredBy s c octets h) c old.ribs new.ribs (λ p.
    let once = piece_once s c octets h p le in
    (λ differs. once.0 (λ e. differs (now.table p ∙ e ∙ sym (before.table p))), λ x e. once.1 x (sym (now.table p) ∙ e ∙ before.table p))) others_touched

-- octets that follow others
pub touches_after : (s : Configuration) (c : ℕ) (first later : List ℕ) (h : Hearing) (old mid new : Ribs) → mid.count ≡ old.count → TouchesOthersJustWhere (IsAlteredBy s c first h) c old mid
    → TouchesOthersJustWhere (IsAlteredBy s c later (hears s c first h)) c mid new → TouchesOthersJustWhere (IsAlteredBy s c (first ++ later) h) c old new
touches_after s c first later h old mid new count a b =
    touches_others_join _ _ _ c old mid new count (λ p x. (piece_joined s c first later h p).1 (inl x)) (λ p x. (piece_joined s c first later h p).1 (inr x)) (λ p x. (piece_joined s c first later h p).0 x) a b

-- octets that follow others that alter nothing
pub touches_no_more : (s : Configuration) (c : ℕ) (first later : List ℕ) (h : Hearing) (old new : Ribs) → ((p : Prefix) → IsAlteredBy s c later (hears s c first h) p → ⊥)
    → TouchesOthersJustWhere (IsAlteredBy s c first h) c old new → TouchesOthersJustWhere (IsAlteredBy s c (first ++ later) h) c old new
touches_no_more s c first later h old new none a = others_touched_as _ (IsAlteredBy s c (first ++ later) h) c old new (λ p. (
  λ x. (piece_joined s c first later h p).1 (inl x),
  λ x. elim ((piece_joined s c first later h p).0 x) [ inl before ↦ before | inr more ↦ absurd (none p more) ],
)) a

-- ---- between two messages

pub message_once : (core : Core) (s : Configuration) (c : ℕ) (h : Hearing) (octets : List ℕ) (kind : Kind) (body rest : List ℕ) (at : BeginsWith (allowed_in s) octets kind body rest)
    → is_live (state_in s c h) ≡ true → IsBetween core s c h → length (newly_heard (allowed_in s) h.octets at.message) ≤ 1
message_once core s c h octets kind body rest at live between =
    let a = allowed_in s in
    subst (λ (ms : Heards). length ms ≤ 1) (sym (newly_between a h.octets at.message (between.rest live) ∙ heard_alone a at.message (of_type_is a kind at.message at.is))) (omega arith)

pub beginning_silent : (core : Core) (s : Configuration) (c : ℕ) (h : Hearing) (octets : List ℕ) (n : ℕ) → is_live (state_in s c h) ≡ true → IsBetween core s c h
    → Wants (allowed_in s) octets n → newly_heard (allowed_in s) h.octets octets ≡ []
beginning_silent core s c h octets n live between wants = newly_between (allowed_in s) h.octets octets (between.rest live) ∙ (waits (allowed_in s) octets n wants).0

pub one_fault : (a : Heards) (fault : HeaderFault) → a ≡ Err fault ∷ [] → length a ≤ 1
one_fault a fault e = subst (λ (ms : Heards). length ms ≤ 1) (sym e) (omega arith)

-- the buffer was taken before and put back after
pub front_touches : (s : Configuration) (c : ℕ) (h : Hearing) (front piece : List ℕ) (old taken heard new : Core) → taken.ribs ≡ old.ribs → new.ribs ≡ heard.ribs → front ≡ piece
    → TouchesOthersJustWhere (IsAlteredBy s c front h) c taken.ribs heard.ribs → TouchesOthersJustWhere (IsAlteredBy s c piece h) c old.ribs new.ribs
front_touches s c h front piece old taken heard new before behind whole others_touched =
    subst (λ o. TouchesOthersJustWhere (IsAlteredBy s c o h) c old.ribs new.ribs) whole
    (subst (λ r. TouchesOthersJustWhere (IsAlteredBy s c front h) c r new.ribs) before
    (subst (λ r. TouchesOthersJustWhere (IsAlteredBy s c front h) c taken.ribs r) (sym behind) others_touched))
