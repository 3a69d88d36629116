-- Pieces of octets that are heard message by message, and what then waits.
use Rattle.std.proofs.Common.{◌≡◌, ◌<◌, ℕ, zero, suc, Bool, true, false, List, [], ◌∷◌, ◌++◌, length, refl, sym, ◌∙◌, ap, subst, arith, get_or, ◌==◌}
use Rattle.std.specs.Prelude.{Some, Result, Ok, Err, slice_get, if◌then◌else◌}
use Rattle.std.specs.Global.{Vec}
use Rattle.std.proofs.lemmas.Bool.{false≢true}
use Rattle.std.proofs.lemmas.Option.{slice_get_read}
use Rattle.rs_octets.specs.declared.heads.Allowed.{Allowed}
use Rattle.rs_octets.specs.declared.heads.HeaderFault.{HeaderFault}
use Rattle.rs_octets.specs.declared.heads.Kind.{Kind}
use Rattle.rs_octets.specs.Fronts.{BeginsWith, BeginsFaulty, Wants}
use Rattle.rs_octets.specs.Messages.{IsMessageOf, body_of, heard_of, newly_heard, rest_of, header_fault_of}
use Rattle.rs_octets.proofs.Cut.{pieces_join, alone, heard_alone}
use Rattle.rs_octets.proofs.Pieces.{newly_is}
use Rattle.rs_octets.proofs.Fronting.{fault_in_front, waits}
use Rattle.rs_octets.proofs.GoodHeaders.{of_type_is}
use Rattle.rs_session.specs.declared.heard.Heard.TheVariants as heard
use Rattle.rs_session.specs.declared.settings.Settings.{Settings}
use Rattle.rs_session.specs.Items.{Item, Message, is_connected, message_count}
use Rattle.rs_session.specs.Endings.{Fate, GoesOn, Ends, message_fate}
use Rattle.rs_session.specs.Sessions.{state_of, state_by, is_live, fate, earlier}
use Rattle.rs_adjin.specs.AdjIns.{held_of, identifier_of}
use Rattle.rs_policy.specs.Configuration.{Configuration}
use Rattle.rs_core.specs.Session.Hearing.{Hearing, allowed_in, session_in, state_in, without_change, body_said, said_by, said_in, takes_in, listens_to, with_octets, hears}
use Rattle.rs_core.specs.Others.{KeepsOthers}
use Rattle.rs_core.specs.Run.Parts.{IsBetween}
use Rattle.rs_core.specs.Run.Agreeing.{Knows, Waits, AgreesAt, IsCutShort, Spares}
use Rattle.rs_core.specs.Ribs.{outlet_in}
use Rattle.rs_core.specs.declared.route_server.Core.{Core}
use Rattle.rs_core.proofs.Session.Listening.{Heards, hears_joined, hears_moment, deaf}
use Rattle.rs_core.proofs.Run.OtherRules.{unmoved}
use Rattle.rs_core.proofs.Told.Alike.{alone_is, same_again, same_is}
use Rattle.rs_core.proofs.Touched.KeptAnswers.{same_answers}
use Rattle.rs_core.proofs.Told.BySession.{spoken_on}
use Rattle.rs_core.proofs.Told.Ordering.{ordered_on}
use Rattle.rs_core.specs.Core.{client_count}
use Rattle.rs_core.proofs.Run.Lists.{none_are}

-- what is known is known whatever the octets were
pub with_others : (core : Core) (s : Configuration) (c : ℕ) (octets : List ℕ) (h : Hearing) → Knows core s c h → Knows core s c (with_octets octets h)
with_others core s c octets h knows = record {
  session = knows.session;
  table = knows.table;
  identifier = knows.identifier;
  outlet = λ config none. let v = outlet_in core.ribs c none in spoken_on s s c h (with_octets octets h) v v refl (λ l. l) refl (same_again v v (same_is v v refl)) (record { messages = (knows.outlet config none).talk.messages; keepalives = (knows.outlet config none).talk.keepalives }) (knows.outlet config none);
  ordered = λ config none. let v = outlet_in core.ribs c none in
      ordered_on s s c h (with_octets octets h) v v refl refl refl refl refl refl (λ l d. (l, d)) (knows.ordered config none);
  watched = knows.watched;
}

pub waiting_spares : (old new : Core) (c : ℕ) → new.count ≡ old.count → new.sessions ≡ old.sessions → new.ribs ≡ old.ribs → new.watched ≡ old.watched
    → KeepsOthers c old.buffers.items new.buffers.items → Spares c old new
waiting_spares old new c count sessions ribs watched others = record {
  count = count;
  config = ap (λ r. r.config) ribs;
  others_alone = λ d none lt ne. alone_is _ _ (ap (λ r. outlet_in r d none) ribs);
  sessions = λ d ne. ap (λ v. slice_get v.items d) sessions;
  buffers = others;
  held = λ d p ne. ap (λ r. held_of r.tables d p) ribs;
  identifiers = λ d ne. ap (λ r. identifier_of r.tables d) ribs;
  watched = λ d ne. ap (λ v. slice_get v.items d) watched;
  answers = same_answers old.ribs new.ribs ribs;
}

pub same_spares : (core : Core) (c : ℕ) → Spares c core core
same_spares core c = waiting_spares core core c refl refl refl refl (λ d ne. refl)

-- ---- octets behind whole messages

pub newly_between : (a : Allowed) (octets more : List ℕ) → rest_of a octets ≡ [] → newly_heard a octets more ≡ heard_of a more
newly_between a octets more none = newly_is a octets more (ap (header_fault_of a) none) ∙ ap (λ r. heard_of a (r ++ more)) none

rest_between : (a : Allowed) (octets more : List ℕ) → rest_of a octets ≡ [] → rest_of a (octets ++ more) ≡ rest_of a more
rest_between a octets more none = (pieces_join a octets more).1 ∙ ap (λ r. rest_of a (r ++ more)) none

-- octets in which just this is heard
pub hears_as : (s : Configuration) (c : ℕ) (octets : List ℕ) (ms : Heards) (h : Hearing) → newly_heard (allowed_in s) h.octets octets ≡ ms
    → hears s c octets h ≡ with_octets (h.octets ++ octets) (listens_to s c ms h)
hears_as s c octets ms h e = ap (λ l. with_octets (h.octets ++ octets) (listens_to s c l h)) e

pub listens_once : (s : Configuration) (c : ℕ) (m : Result (List ℕ) HeaderFault) (h : Hearing) → is_live (state_in s c h) ≡ true
    → listens_to s c (m ∷ []) h ≡ takes_in s c (said_in s c h m) h
listens_once s c m h live = ap (λ b. if b then takes_in s c (said_in s c h m) h else h) live

pub said_as : (s : Configuration) (c : ℕ) (h : Hearing) (kind : Kind) (message : List ℕ) → IsMessageOf (allowed_in s) kind message
    → said_in s c h (Ok message) ≡ body_said s c h kind (body_of message)
said_as s c h kind message is = ap (λ r. said_by s c h (body_of message) r) is.1

-- ---- one message more, and nothing waits again

pub hears_message : (s : Configuration) (c : ℕ) (h : Hearing) (kind : Kind) (body octets message : List ℕ) → IsMessageOf (allowed_in s) kind message → body ≡ body_of message
    → is_live (state_in s c h) ≡ true → newly_heard (allowed_in s) h.octets octets ≡ Ok message ∷ []
    → hears s c octets h ≡ with_octets (h.octets ++ octets) (takes_in s c (body_said s c h kind body) h)
hears_message s c h kind body octets message is body_is live new =
    hears_as s c octets (Ok message ∷ []) h new
    ∙ ap (with_octets (h.octets ++ octets)) (listens_once s c (Ok message) h live ∙ ap (λ said. takes_in s c said h) (said_as s c h kind message is ∙ ap (body_said s c h kind) (sym body_is)))

pub after_message : (old new : Core) (s : Configuration) (c : ℕ) (h : Hearing) (octets : List ℕ) (kind : Kind) (body rest : List ℕ) (at : BeginsWith (allowed_in s) octets kind body rest)
    → is_live (state_in s c h) ≡ true → new.buffers ≡ old.buffers → IsBetween old s c h
    → Knows new s c (takes_in s c (body_said s c h kind body) h) → IsBetween new s c (hears s c at.message h)
after_message old new s c h octets kind body rest at live buffers between knows =
    let a = allowed_in s in
    let is_message = of_type_is a kind at.message at.is in
    let none = between.rest live in
    let new_is = newly_between a h.octets at.message none ∙ heard_alone a at.message is_message in
    let e = hears_message s c h kind body at.message at.message at.is at.body_is live new_is in
    record {
      knows = subst (λ k. Knows new s c k) (sym e) (with_others new s c (h.octets ++ at.message) _ knows);
      rest = λ _. rest_between a h.octets at.message none ∙ (alone a at.message is_message).1;
      empty = λ _ x f. between.empty live x (ap (λ v. slice_get v.items c) (sym buffers) ∙ f);
    }

-- ---- a header that is refused

fault_ends_by : (b : Bool) (was : Fate) (settings : Settings) (fault : HeaderFault) (n k : ℕ)
    → is_live (state_by b (earlier was (message_fate settings.peer_as n (heard.Header fault))) k) ≡ false
fault_ends_by false was settings fault n k = refl
fault_ends_by true (Ends said) settings fault n k = refl
fault_ends_by true GoesOn settings fault zero k = refl
fault_ends_by true GoesOn settings fault (suc zero) k = refl
fault_ends_by true GoesOn settings fault (suc (suc n)) k = refl

pub fault_ends : (settings : Settings) (fault : HeaderFault) (items : List Item) → is_live (state_of settings (Message (heard.Header fault) ∷ items)) ≡ false
fault_ends settings fault items = fault_ends_by (is_connected items) (fate settings items) settings fault (message_count items) (suc (message_count items))

-- nothing waits for a session that has ended
pub over : (s : Configuration) (c : ℕ) (buffer : List ℕ) (h : Hearing) → is_live (state_in s c h) ≡ false → Waits s c buffer h
over s c buffer h dead = record { rest = λ live. absurd (false≢true (sym dead ∙ live)); good = λ live. absurd (false≢true (sym dead ∙ live)) }

pub hears_fault : (s : Configuration) (c : ℕ) (h : Hearing) (octets : List ℕ) (fault : HeaderFault) → is_live (state_in s c h) ≡ true
    → newly_heard (allowed_in s) h.octets octets ≡ Err fault ∷ []
    → hears s c octets h ≡ with_octets (h.octets ++ octets) (takes_in s c (without_change (heard.Header fault)) h)
hears_fault s c h octets fault live new = hears_as s c octets (Err fault ∷ []) h new ∙ ap (with_octets (h.octets ++ octets)) (listens_once s c (Err fault) h live)

pub after_fault : (new : Core) (s : Configuration) (c : ℕ) (h : Hearing) (octets : List ℕ) (fault : HeaderFault) → is_live (state_in s c h) ≡ true
    → newly_heard (allowed_in s) h.octets octets ≡ Err fault ∷ []
    → Knows new s c (takes_in s c (without_change (heard.Header fault)) h) → AgreesAt new s c (hears s c octets h)
after_fault new s c h octets fault live new_is knows =
    let e = hears_fault s c h octets fault live new_is in
    subst (λ k. AgreesAt new s c k) (sym e) (record {
      knows = with_others new s c (h.octets ++ octets) _ knows;
      waits = λ x f. over s c x.items (with_octets (h.octets ++ octets) (takes_in s c (without_change (heard.Header fault)) h)) (fault_ends (session_in s c) fault h.items);
    })

pub fault_between : (s : Configuration) (c : ℕ) (core : Core) (h : Hearing) (octets : List ℕ) (fault : HeaderFault) → is_live (state_in s c h) ≡ true → IsBetween core s c h
    → BeginsFaulty (allowed_in s) octets fault → newly_heard (allowed_in s) h.octets octets ≡ Err fault ∷ []
fault_between s c core h octets fault live between faulty =
    newly_between (allowed_in s) h.octets octets (between.rest live) ∙ (fault_in_front (allowed_in s) octets fault faulty).0

-- ---- the beginning of a message

pub after_beginning : (old new : Core) (s : Configuration) (c : ℕ) (h : Hearing) (octets : List ℕ) (n : ℕ) → is_live (state_in s c h) ≡ true → IsBetween old s c h
    → Wants (allowed_in s) octets n → new.sessions ≡ old.sessions → new.ribs ≡ old.ribs → new.watched ≡ old.watched
    → ((x : Vec ℕ) → slice_get new.buffers.items c ≡ Some x → x.items ≡ octets) → AgreesAt new s c (hears s c octets h)
after_beginning old new s c h octets n live between wants sessions ribs watched buffer =
    let a = allowed_in s in
    let none = between.rest live in
    let it = waits a octets n wants in
    let rest = rest_between a h.octets octets none ∙ it.1 in
    let e = hears_as s c octets [] h (newly_between a h.octets octets none ∙ it.0) in
    subst (λ k. AgreesAt new s c k) (sym e) (record {
      knows = with_others new s c (h.octets ++ octets) h (unmoved old new s c h sessions ribs watched between.knows);
      waits = λ x f. record {
        rest = λ _. buffer x f ∙ sym rest;
        good = λ _. ap (header_fault_of a) rest ∙ it.2;
      };
    })

pub got : {X : Type 0} (xs : List X) (i : ℕ) → i < length xs → (x : X) × (slice_get xs i ≡ Some x)
got [] i h = absurd (omega arith)
got (x ∷ xs) zero h = (x, refl)
got (x ∷ xs) (suc i) h = got xs i (omega arith)

-- what was appended to nothing
pub alone_waits : (old new : Core) (s : Configuration) (c : ℕ) (h : Hearing) (octets : List ℕ) → c < length old.buffers.items → is_live (state_in s c h) ≡ true → IsBetween old s c h
    → ((x y : Vec ℕ) → slice_get old.buffers.items c ≡ Some x → slice_get new.buffers.items c ≡ Some y → y.items ≡ x.items ++ octets)
    → (y : Vec ℕ) → slice_get new.buffers.items c ≡ Some y → y.items ≡ octets
alone_waits old new s c h octets lt live between behind y e =
    let x = got old.buffers.items c lt in
    behind x.0 y x.1 e ∙ ap (λ l. l ++ octets) (between.empty live x.0 x.1)

-- ---- the end of a piece

-- all of it was heard
pub after_all : (core : Core) (s : Configuration) (c : ℕ) (h : Hearing) → IsBetween core s c h → AgreesAt core s c h
after_all core s c h between = record {
  knows = between.knows;
  waits = λ x f. record { rest = λ live. between.empty live x f ∙ sym (between.rest live); good = λ live. ap (header_fault_of (allowed_in s)) (between.rest live) };
}

-- a session that doesn't last hears nothing
pub deaf_agrees : (core : Core) (s : Configuration) (c : ℕ) (octets : List ℕ) (h : Hearing) → is_live (state_in s c h) ≡ false → Knows core s c h → AgreesAt core s c (hears s c octets h)
deaf_agrees core s c octets h dead knows =
    let e = ap (with_octets (h.octets ++ octets)) (deaf s c (newly_heard (allowed_in s) h.octets octets) h dead) in
    subst (λ k. AgreesAt core s c k) (sym e) (record {
      knows = with_others core s c (h.octets ++ octets) h knows;
      waits = λ x f. over s c x.items (with_octets (h.octets ++ octets) h) dead;
    })

-- what is said of a session that doesn't last holds of one that lasts
pub not_deaf : {A : Type 0} (core : Core) (c : ℕ) (live : Bool) → ((s : Configuration) (h : Hearing) → Knows core s c h → live ≡ is_live (state_in s c h)) → live ≡ true
    → (s : Configuration) (h : Hearing) → Knows core s c h → is_live (state_in s c h) ≡ false → A
not_deaf core c live tells lasts s h knows dead = absurd (false≢true (sym dead ∙ sym (tells s h knows) ∙ lasts))

-- no octet waits in the client's buffer
pub none_waits : (core : Core) (s : Configuration) (c : ℕ) (h : Hearing) (x : Vec ℕ) → c < client_count core → x ≡ get_or core.buffers.items c x → (x.len == 0) ≡ true → AgreesAt core s c h → IsBetween core s c h
unfolding client_count
none_waits core s c h x lt here empty at = record {
  knows = at.knows;
  rest = λ live. sym ((at.waits x read).rest live) ∙ none;
  empty = λ live y f. (at.waits y f).rest live ∙ sym ((at.waits x read).rest live) ∙ none;
} where
  read : slice_get core.buffers.items c ≡ Some x
  read = slice_get_read core.buffers.items core.count c x (sym core.buffers_len) lt here

  size : length x.items ≡ x.len
  size = omega (arith, x.ok.0)

  none : x.items ≡ []
  none = none_are x.items (ap (λ n. n == 0) size ∙ empty)

-- what was heard before memory was refused counts no more
pub cut_before : (core : Core) (s : Configuration) (c : ℕ) (before : List ℕ) (h : Hearing) → IsCutShort core s c (hears s c before h) → IsCutShort core s c h
cut_before core s c before h cut = record { items = cut.items; moment = cut.moment ∙ hears_moment s c before h; session = cut.session }

pub cut_unmoved : (old new : Core) (s : Configuration) (c : ℕ) (h : Hearing) → new.sessions ≡ old.sessions → IsCutShort old s c h → IsCutShort new s c h
cut_unmoved old new s c h sessions cut = record { items = cut.items; moment = cut.moment; session = λ x e. cut.session x (ap (λ v. slice_get v.items c) (sym sessions) ∙ e) }

-- ---- one piece after another

pub agrees_joined : (core : Core) (s : Configuration) (c : ℕ) (piece first later : List ℕ) (h : Hearing) → piece ≡ first ++ later
    → AgreesAt core s c (hears s c later (hears s c first h)) → AgreesAt core s c (hears s c piece h)
agrees_joined core s c piece first later h whole at = subst (λ k. AgreesAt core s c k) (hears_joined s c first later h ∙ ap (λ p. hears s c p h) (sym whole)) at

pub between_joined : (core : Core) (s : Configuration) (c : ℕ) (first later : List ℕ) (h : Hearing)
    → IsBetween core s c (hears s c later (hears s c first h)) → IsBetween core s c (hears s c (first ++ later) h)
between_joined core s c first later h between = subst (λ k. IsBetween core s c k) (hears_joined s c first later h) between
