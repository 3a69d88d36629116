-- What the next UPDATE to a client is: one with which nothing is wrong.
use Rattle.std.proofs.Common.{◌≡◌, inl, inr, ◌<◌, ◌≤◌, ℕ, Bool, true, false, not, ◌&&◌, List, [], ◌∷◌, ◌++◌, length, refl, sym, ◌∙◌, ap, subst, arith}
use Rattle.std.specs.Prelude.{Option, Some, None, if◌then◌else◌}
use Rattle.std.specs.List.{AllByRecursion}
use Rattle.std.proofs.lemmas.List.{append-nil}
use Rattle.std.specs.FinMap as fin
use Rattle.std.specs.FinSet as set
use Rattle.rs_octets.specs.declared.heads.Kind.TheVariants as kinds
use Rattle.rs_octets.specs.Messages.{IsMessageOf}
use Rattle.rs_octets.specs.Prefixes.{Prefix, IsIpv4Prefix}
use Rattle.rs_attrs.specs.declared.mode.Mode.{Mode}
use Rattle.rs_attrs.specs.Meaning.{Attribute}
use Rattle.rs_attrs.specs.Comparing.{same_attributes}
use Rattle.rs_attrs.specs.Effects.{lacks_mandatory}
use Rattle.rs_attrs.specs.Writing.{IsLegal}
use Rattle.rs_adjin.specs.declared.adj_ins.AdjIns.{AdjIns}
use Rattle.rs_open.specs.Notes.{limit_octets}
use Rattle.rs_open.specs.declared.short.Limit.{Limit}
use Rattle.rs_open.specs.declared.short.Limit.TheVariants as limits
use Rattle.rs_open.specs.declared.writing.ServerOpen.{ServerOpen}
use Rattle.rs_packer.specs.Packed.{announcement, withdrawal}
use Rattle.rs_packer.specs.Laws.{IsAnnounceable, IsWithdrawable}
use Rattle.rs_packer.proofs.Denoting.{announcement_holds, withdrawal_holds}
use Rattle.rs_session.specs.Sessions.{agreed_of}
use Rattle.rs_policy.specs.Configuration.{Configuration}
use Rattle.rs_outlet.specs.Message.Begins.{BeginsUpdate}
use Rattle.rs_outlet.specs.declared.answers.Speech.{Speech}
use Rattle.rs_outlet.specs.Views.{View, WaitsAreExact, waits_at, AreNumbered}
use Rattle.rs_core.specs.Session.Hearing.{Hearing, session_in, state_in, is_up}
use Rattle.rs_core.specs.Run.Meaning.{speech_by, speech_in}
use Rattle.rs_core.specs.Told.Telling.{allowed_to}
use Rattle.rs_core.specs.Session.Keepalives.{IsNext}
use Rattle.rs_core.specs.Session.Conversations.{IsConversation, update_speech}
use Rattle.rs_core.specs.Told.Outlets.{IsInOrder}
use Rattle.rs_core.proofs.Session.Conversing.{goes_on_with, speech_up}
use Rattle.rs_core.proofs.Told.Telling.{announcement_is_message, withdrawal_is_message}

pub limit_most : (limit : Limit) → limit_octets limit ≤ 65535
limit_most limits.Short = omega arith
limit_most limits.Long = omega arith

gone_by : (loc told : Option (List Attribute)) (marked : Bool) → waits_at loc told marked ≡ Some true → loc ≡ None
gone_by None told marked e = refl
gone_by (Some m) None marked e = absurd (let f : ◌≡◌ {A = Option Bool} (Some false) (Some true) = e in cc)
gone_by (Some m) (Some n) marked e = by_test (same_attributes m n && not marked) e where
  by_test : (b : Bool) → (if b then None else Some false) ≡ Some true → ◌≡◌ {A = Option (List Attribute)} (Some m) None
  by_test true e = absurd (let f : ◌≡◌ {A = Option Bool} None (Some true) = e in cc)
  by_test false e = absurd (let f : ◌≡◌ {A = Option Bool} (Some false) (Some true) = e in cc)

-- nothing is due where a prefix waits to be withdrawn
pub all_gone : (v : View) (ps : List Prefix) → WaitsAreExact v → AllByRecursion (λ p. fin.get v.waits p ≡ Some true) ps → AllByRecursion (λ p. fin.get v.loc p ≡ None) ps
all_gone v [] exact h = tt
all_gone v (p ∷ ps) exact h = (gone_by (fin.get v.loc p) (fin.get v.told p) (set.contains v.marked p) (sym (exact p) ∙ h.0), all_gone v ps exact h.1)

pub due_mandatory : (v : View) (ps : List Prefix) (m : List Attribute) → IsInOrder v → 0 < length ps → AllByRecursion (λ p. fin.get v.loc p ≡ Some m) ps → lacks_mandatory m ≡ false
due_mandatory v [] m order some h = absurd (omega (arith, some))
due_mandatory v (p ∷ ps) m order some h = order.mandatory p m h.0

-- the message of what waits to be withdrawn is whole
pub withdrawable : (limit : Limit) (flight : List ℕ) (ps : List Prefix) → AllByRecursion IsIpv4Prefix ps → flight ≡ withdrawal ps → length flight ≤ limit_octets limit → IsWithdrawable ps
withdrawable limit flight ps legal is fits = record {
  prefixes = legal;
  fits = let most = limit_most limit in let short : length (withdrawal ps) ≤ limit_octets limit = subst (λ f. length f ≤ limit_octets limit) is fits in omega (arith, most, short);
}

-- and that of what waits to be announced
pub announceable : (limit : Limit) (mode : Mode) (flight : List ℕ) (m : List Attribute) (ps : List Prefix) → IsLegal m → lacks_mandatory m ≡ false → 0 < length ps → AllByRecursion IsIpv4Prefix ps → flight ≡ announcement m mode ps
    → length flight ≤ limit_octets limit → IsAnnounceable m mode ps
announceable limit mode flight m ps legal mandatory some prefixes is fits = record {
  legal = legal;
  mandatory = mandatory;
  some = some;
  prefixes = prefixes;
  fits = let most = limit_most limit in let short : length (announcement m mode ps) ≤ limit_octets limit = subst (λ f. length f ≤ limit_octets limit) is fits in omega (arith, most, short);
}

-- nothing is wrong with the UPDATE that begins
pub update_goes_on : (said : ServerOpen) (speech : Speech) (v w : View) (ins : AdjIns) (octets : List ℕ) → AreNumbered v ins → IsInOrder v → BeginsUpdate speech v w → IsConversation said (Some speech) [] octets
    → IsConversation said (Some speech) [] (octets ++ w.flight)
update_goes_on said speech v w ins octets numbered order (inl rests) h =
    subst (λ o. IsConversation said (Some speech) [] o) (sym (ap (λ l. octets ++ l) rests.flight ∙ append-nil octets)) h
update_goes_on said speech v w ins octets numbered order (inr (inl gone)) h =
    let ok = withdrawable speech.limit w.flight gone.prefixes gone.prefixes_legal gone.flight gone.fits in
    let is = withdrawal_is_message speech.limit w.flight gone.prefixes gone.flight gone.fits in
    subst (λ f. IsConversation said (Some speech) [] (octets ++ f)) (sym gone.flight)
    (goes_on_with said (Some speech) octets (withdrawal gone.prefixes) kinds.Update is
    (inr (is, record { withdrawn = gone.prefixes; attributes = []; announced = []; holds = withdrawal_holds speech.mode gone.prefixes ok; mandatory = λ some. absurd (some refl) })) h)
update_goes_on said speech v w ins octets numbered order (inr (inr news)) h =
    let m : List Attribute = news.attributes in
    let ok = announceable speech.limit speech.mode w.flight m news.prefixes news.legal (due_mandatory v news.prefixes m order news.some (news.due ins numbered)) news.some news.prefixes_legal news.flight news.fits in
    let is = announcement_is_message speech w.flight m news.prefixes news.flight news.fits in
    subst (λ f. IsConversation said (Some speech) [] (octets ++ f)) (sym news.flight)
    (goes_on_with said (Some speech) octets (announcement m speech.mode news.prefixes) kinds.Update is
    (inr (is, record { withdrawn = []; attributes = m; announced = news.prefixes; holds = announcement_holds m speech.mode news.prefixes ok; mandatory = λ some. ok.mandatory })) h)

-- it is an UPDATE or none
pub update_is_next : (speech : Speech) (v w : View) (ins : AdjIns) → AreNumbered v ins → IsInOrder v → BeginsUpdate speech v w → IsNext speech.limit false w.flight
update_is_next speech v w ins numbered order (inl rests) = inl rests.flight
update_is_next speech v w ins numbered order (inr (inl gone)) =
    inr (subst (λ f. IsMessageOf (allowed_to speech.limit) kinds.Update f) (sym gone.flight) (withdrawal_is_message speech.limit w.flight gone.prefixes gone.flight gone.fits))
update_is_next speech v w ins numbered order (inr (inr news)) =
    let m : List Attribute = news.attributes in
    inr (subst (λ f. IsMessageOf (allowed_to speech.limit) kinds.Update f) (sym news.flight) (announcement_is_message speech w.flight m news.prefixes news.flight news.fits))

-- ---- as its OPEN asks

pub spoken_by_update : (s : Configuration) (c : ℕ) (h : Hearing) (speech : Speech) → is_up (state_in s c h) ≡ true → speech_in s c h ≡ Some speech → update_speech (session_in s c) h.items ≡ Some speech
spoken_by_update s c h speech up is =
    speech_up (session_in s c) h.items up
    ∙ sym (ap (λ b. if b then speech_by s.top.extended (agreed_of (session_in s c) h.items) else None) up) ∙ is
