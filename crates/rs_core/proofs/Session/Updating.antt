-- What UPDATEs make of a client's Adj-RIB-In.
use Rattle.std.proofs.Common.{◌≡◌, ◌≢◌, ◌⊎◌, inl, inr, ◌<◌, ◌==◌, ◌&&◌, ◌||◌, ℕ, zero, suc, Bool, true, false, List, [], ◌∷◌, ◌++◌, length, take, get_or, refl, sym, ◌∙◌, ap, subst, arith}
use Rattle.std.specs.Prelude.{Option, Some, None, find, slice_get, slice_index_or, slice_set, if◌then◌else◌}
use Rattle.std.specs.List.{cons_option}
use Rattle.std.specs.Global.{Vec}
use Rattle.std.proofs.lemmas.Bool.Decides.{nat_tests}
use Rattle.std.proofs.Math.Bool.{or-false, or_assoc}
use Rattle.rs_octets.specs.Prefixes.{Prefix}
use Rattle.rs_attrs.specs.Meaning.{Attribute}
use Rattle.rs_attrs.specs.Effects.{Effect, Reset, Changes, Change, is_empty, same_prefix, has_prefix, mentions, attributes_after, table_since}
use Rattle.rs_update.specs.Laws.{IsSameChange, IsSameEffect}
use Rattle.rs_update.proofs.OneEffect.{overlay_alike}
use Rattle.rs_session.specs.declared.heard.Heard.TheVariants as heard
use Rattle.rs_session.specs.declared.heard.Heard.{Heard}
use Rattle.rs_session.specs.declared.act.Act.{Act}
use Rattle.rs_session.specs.declared.act.Act.TheVariants as acts
use Rattle.rs_session.proofs.Updates.{updates_are_taken}
use Rattle.rs_session.specs.declared.session.Session.{Session}
use Rattle.rs_session.specs.Items.{Message}
use Rattle.rs_session.specs.Sessions.{is_live, identifier_by}
use Rattle.rs_session.specs.Hearing.{HasHeard, RespondsTo, Takes}
use Rattle.rs_adjin.specs.AdjIns.{held_of, identifier_of, Sets, Same}
use Rattle.rs_adjin.specs.declared.adj_ins.AdjIns.{AdjIns}
use Rattle.rs_policy.specs.Configuration.{Configuration}
use Rattle.rs_core.specs.Session.Hearing.{Hearing, session_in, state_in, is_up, table_in, changing, takes_in}
use Rattle.rs_core.specs.Run.Parts.{IsSpared, HasOverlaid, HasOverlaidSome, ChangesRoutes}
use Rattle.rs_core.specs.Run.Agreeing.{Knows, IsCutShort}
use Rattle.rs_outlet.specs.Views.{View}
use Rattle.rs_core.specs.Ribs.{outlet_in, TouchesOthersAtChange, TouchesChange}
use Rattle.rs_core.specs.declared.route_server.Core.{Core}
use Rattle.rs_core.specs.Session.Keepalives.{AreKeepalives, asks_for_keepalive, fell_if}
use Rattle.rs_core.specs.Session.Conversations.{outgoing_of, own_open, update_speech}
use Rattle.rs_core.specs.Told.Telling.{limit_to}
use Rattle.rs_core.proofs.Session.Keepalives.{kept_keepalives}
use Rattle.rs_core.proofs.Session.Conversing.{acted_converses, kept_speech}
use Rattle.rs_core.proofs.Told.Alike.{alone_is, same_again, same_is}
use Rattle.rs_core.proofs.Told.BySession.{stayed}
use Rattle.rs_core.specs.Session.OperatorRecords.{ending_by, no_faults, IsWatched}
use Rattle.rs_core.proofs.Run.Lists.{set_at}
use Rattle.rs_core.proofs.Session.OperatorRecords.{watched_still}
use Rattle.rs_core.specs.Told.Points.{Point, asked_if}
use Rattle.rs_core.proofs.Run.Holding.{up_table, up_identifier, up_is}
use Rattle.rs_core.proofs.Told.Ordering.{stayed_ordered}
use Rattle.rs_core.proofs.Run.Around.{change_touches, none_touched, touches_on}
use Rattle.rs_core.proofs.Touched.ChangedPrefixes.{others_touched_on, touches_none, touches_others_same}

-- ---- prefixes one by one

has_one_more : (p : Prefix) (ps : List Prefix) (k : ℕ) (q : Prefix) → k < length ps → q ≡ get_or ps k q → has_prefix p (take (suc k) ps) ≡ (has_prefix p (take k ps) || same_prefix p q)
has_one_more p [] k q lt e = absurd (omega (arith, lt))
has_one_more p (x ∷ xs) zero q lt e = or-false (same_prefix p x) ∙ ap (λ y. same_prefix p y) (sym e)
has_one_more p (x ∷ xs) (suc k) q lt e = ap (λ b. same_prefix p x || b) (has_one_more p xs k q (omega (arith, lt)) e) ∙ sym (or_assoc (same_prefix p x) (has_prefix p (take k xs)) (same_prefix p q))

-- another one is written
over_one : {A : Type 0} (has same : Bool) (w o : A) → (if same then w else (if has then w else o)) ≡ (if has || same then w else o)
over_one true true w o = refl
over_one true false w o = refl
over_one false true w o = refl
over_one false false w o = refl

own_test : (c : ℕ) (b : Bool) → ((c == c) && b) ≡ b
own_test c b = let e : (c == c) ≡ true = grind (arith, nat_tests) in ap (λ x. x && b) e

other_test : (c d : ℕ) (b : Bool) → d ≢ c → ((d == c) && b) ≡ false
other_test c d b ne = let e : (d == c) ≡ false = grind (arith, nat_tests, ne) in ap (λ x. x && b) e

pub none_overlaid : (c : ℕ) (w : Option (List Attribute)) (ins : AdjIns) → HasOverlaid c [] w ins ins
none_overlaid c w ins = record { held = λ p. refl; identifier = refl }

pub one_overlaid : (c k n : ℕ) (ps : List Prefix) (q : Prefix) (w : Option (List Attribute)) (old mid new : AdjIns) → n ≡ suc k → k < length ps → q ≡ get_or ps k q
    → Sets mid new c q w → HasOverlaid c (take k ps) w old mid → HasOverlaid c (take n ps) w old new
one_overlaid c k n ps q w old mid new next lt read sets has = record {
  held = λ p.
      sets.held c p
      ∙ ap (λ b. if b then w else held_of mid c p) (own_test c (same_prefix p q))
      ∙ ap (λ o. if same_prefix p q then w else o) (has.held p)
      ∙ over_one (has_prefix p (take k ps)) (same_prefix p q) w (held_of old c p)
      ∙ ap (λ b. if b then w else held_of old c p) (sym (ap (λ j. has_prefix p (take j ps)) next ∙ has_one_more p ps k q lt read));
  identifier = sets.identifiers c ∙ has.identifier;
}

pub one_spared : (c : ℕ) (q : Prefix) (w : Option (List Attribute)) (old mid new : AdjIns) → Sets mid new c q w → IsSpared c old mid → IsSpared c old new
one_spared c q w old mid new sets spared = record {
  held = λ d p ne. sets.held d p ∙ ap (λ b. if b then w else held_of mid d p) (other_test c d (same_prefix p q) ne) ∙ spared.held d p ne;
  identifiers = λ d ne. sets.identifiers d ∙ spared.identifiers d ne;
}

none_spared : (c : ℕ) (ins : AdjIns) → IsSpared c ins ins
none_spared c ins = record { held = λ d p ne. refl; identifiers = λ d ne. refl }

pub same_spared_behind : (c : ℕ) (old mid new : AdjIns) → Same mid new → IsSpared c old mid → IsSpared c old new
same_spared_behind c old mid new same spared = record {
  held = λ d p ne. same.held d p ∙ spared.held d p ne;
  identifiers = λ d ne. same.identifiers d ∙ spared.identifiers d ne;
}

-- nothing has changed yet
pub routes_none : (c : ℕ) (core : Core) → ChangesRoutes c core core
routes_none c core = record {
  count = refl;
  sessions = refl;
  buffers = refl;
  watched = refl;
  config = refl;
  others = none_spared c core.ribs.tables;
  touched = none_touched c core.ribs;
  others_touched = touches_others_same c core.ribs core.ribs refl;
}

-- the value at one prefix more has changed, or none
pub routes_on : (c : ℕ) (q : Prefix) (old mid new : Core) → new.count ≡ mid.count → new.sessions ≡ mid.sessions → new.buffers ≡ mid.buffers → new.watched ≡ mid.watched → new.ribs.config ≡ mid.ribs.config
    → IsSpared c old.ribs.tables new.ribs.tables → TouchesChange c q mid.ribs new.ribs → TouchesOthersAtChange c old.ribs new.ribs → ChangesRoutes c old mid → ChangesRoutes c old new
routes_on c q old mid new count sessions buffers watched config others touches others_touched was = record {
  count = count ∙ was.count;
  sessions = sessions ∙ was.sessions;
  buffers = buffers ∙ was.buffers;
  watched = watched ∙ was.watched;
  config = config ∙ was.config;
  others = others;
  touched = touches_on c old.ribs mid.ribs new.ribs (mid.ribs_len ∙ was.count ∙ sym old.ribs_len) was.touched (change_touches c q mid.ribs new.ribs touches);
  others_touched = others_touched;
}

-- no route has changed
pub routes_same : (c : ℕ) (old new : Core) → new.count ≡ old.count → new.sessions ≡ old.sessions → new.buffers ≡ old.buffers → new.watched ≡ old.watched → new.ribs.config ≡ old.ribs.config → Same old.ribs.tables new.ribs.tables
    → new.ribs.outlets ≡ old.ribs.outlets → ChangesRoutes c old new
routes_same c old new count sessions buffers watched config same outlets = record {
  count = count;
  sessions = sessions;
  buffers = buffers;
  watched = watched;
  config = config;
  others = same_spared_behind c old.ribs.tables old.ribs.tables new.ribs.tables same (none_spared c old.ribs.tables);
  touched = record { own = outlet c; others = λ d none lt ne. alone_is _ _ (outlet d none) };
  others_touched = touches_none c old.ribs new.ribs (same.held c) (λ d none ne. outlet d none);
} where
  outlet : (d : ℕ) (none : View) → outlet_in new.ribs d none ≡ outlet_in old.ribs d none
  outlet d none = ap (λ (v : Vec View). slice_index_or v.items d none) outlets

-- some have, and then others
routes_join : (c : ℕ) (old mid new : Core) → ((p : Prefix) → (held_of mid.ribs.tables c p ≡ held_of old.ribs.tables c p) ⊎ (held_of new.ribs.tables c p ≡ held_of mid.ribs.tables c p)) → ChangesRoutes c old mid → ChangesRoutes c mid new → ChangesRoutes c old new
routes_join c old mid new apart a b = record {
  count = b.count ∙ a.count;
  sessions = b.sessions ∙ a.sessions;
  buffers = b.buffers ∙ a.buffers;
  watched = b.watched ∙ a.watched;
  config = b.config ∙ a.config;
  others = record { held = λ d p ne. b.others.held d p ne ∙ a.others.held d p ne; identifiers = λ d ne. b.others.identifiers d ne ∙ a.others.identifiers d ne };
  touched = touches_on c old.ribs mid.ribs new.ribs count a.touched b.touched;
  others_touched = others_touched_on c old.ribs mid.ribs new.ribs count apart a.others_touched b.others_touched;
} where
  count : mid.ribs.count ≡ old.ribs.count
  count = mid.ribs_len ∙ a.count ∙ sym old.ribs_len

-- between two that change none
pub routes_between : (c : ℕ) (old first last new : Core) → ChangesRoutes c first last → ChangesRoutes c old first → ChangesRoutes c last new → Same old.ribs.tables first.ribs.tables → Same last.ribs.tables new.ribs.tables → ChangesRoutes c old new
routes_between c old first last new changes before behind same_before same_behind = routes_join c old last new (λ p. inr (same_behind.held c p)) (routes_join c old first last (λ p. inl (same_before.held c p)) before changes) behind

pub overlaid_between : (c : ℕ) (ps : List Prefix) (w : Option (List Attribute)) (old first last new : AdjIns) → Same old first → Same last new → HasOverlaid c ps w first last → HasOverlaid c ps w old new
overlaid_between c ps w old first last new before behind has = record {
  held = λ p. behind.held c p ∙ has.held p ∙ ap (λ o. if has_prefix p ps then w else o) (before.held c p);
  identifier = behind.identifiers c ∙ has.identifier ∙ before.identifiers c;
}

pub some_between : (c : ℕ) (ps : List Prefix) (w : Option (List Attribute)) (old first last new : AdjIns) → Same old first → Same last new → HasOverlaidSome c ps w first last → HasOverlaidSome c ps w old new
some_between c ps w old first last new before behind has = record {
  held = λ p. elim (has.held p) [
    | inl same ↦ inl (behind.held c p ∙ same ∙ before.held c p)
    | inr written ↦ inr (written.0, behind.held c p ∙ written.1)
  ];
}

-- ---- a change

-- a list that is empty has no prefix
pub none_there : (p : Prefix) (ps : List Prefix) → is_empty ps ≡ true → has_prefix p ps ≡ false
none_there p [] e = refl
none_there p (q ∷ ps) e = absurd (let f : false ≡ true = e in cc)

chosen : (said : Bool) (x : Change) (later : Option Change) (p : Prefix) → attributes_after p (if said then Some x else later) ≡ (if said then attributes_after p (Some x) else attributes_after p later)
chosen true x later p = refl
chosen false x later p = refl

pub found : (x : Change) (changes : List Change) (p : Prefix) → table_since (x ∷ changes) p ≡ (if mentions p x then attributes_after p (Some x) else table_since changes p)
found x changes p = chosen (mentions p x) x (find (mentions p) changes) p

-- what is withdrawn goes first, and then what is announced comes
in_two_steps : {A : Type 0} (w a : Bool) (m none o : A) → (if a then m else (if w then none else o)) ≡ (if w || a then (if a then m else none) else o)
in_two_steps true true m none o = refl
in_two_steps true false m none o = refl
in_two_steps false true m none o = refl
in_two_steps false false m none o = refl

-- an UPDATE is no request
unasked : (b : Bool) (points : List Point) → asked_if (b && false) points ≡ points
unasked true points = refl
unasked false points = refl

-- the table of a client after an UPDATE that its session takes
taken_table : (core : Core) (x t : Session) (s : Configuration) (c : ℕ) (h : Hearing) (W A : List Prefix) (m : Option (List Attribute)) (change : Change)
    → slice_get core.sessions.items c ≡ Some x → RespondsTo x t (Message (heard.Update None)) acts.None → Takes x acts.None → is_live (state_in s c h) ≡ true
    → IsSameChange (record { withdrawn = W; announced = A; attributes = m }) change → Knows core s c h
    → (p : Prefix) → (if has_prefix p A then m else (if has_prefix p W then None else held_of core.ribs.tables c p)) ≡ table_in s c (takes_in s c (changing None change no_faults) h) p
taken_table core x t s c h W A m change read responds takes live same knows p =
    let y : Change = record { withdrawn = W; announced = A; attributes = m } in
    let next : Hearing = takes_in s c (changing None change no_faults) h in
    let was = knows.session x read in
    let it = responds (session_in s c) h.items was in
    let up : is_up (state_in s c h) ≡ true = ap is_up (takes (session_in s c) h.items was refl live) in
    let now : is_up (state_in s c next) ≡ true = ap is_up it.tells.state ∙ up in
    let grown : next.changes ≡ change ∷ h.changes = ap (λ b. if b then change ∷ h.changes else []) up in
    ap (λ o. if has_prefix p A then m else (if has_prefix p W then None else o)) (knows.table p ∙ up_table s c h up p)
    ∙ in_two_steps (has_prefix p W) (has_prefix p A) m None (table_since h.changes p)
    ∙ sym (found y h.changes p)
    ∙ overlay_alike y change h.changes p same
    ∙ ap (λ cs. table_since cs p) (sym grown)
    ∙ sym (up_table s c next now p)

pub changed : (old new : Core) (x t : Session) (s : Configuration) (c : ℕ) (h : Hearing) (W A : List Prefix) (m : Option (List Attribute)) (change : Change)
    → slice_get old.sessions.items c ≡ Some x → c < length old.sessions.items → new.sessions.items ≡ slice_set old.sessions.items c t
    → RespondsTo x t (Message (heard.Update None)) acts.None → Takes x acts.None
    → ((p : Prefix) → held_of new.ribs.tables c p ≡ (if has_prefix p A then m else (if has_prefix p W then None else held_of old.ribs.tables c p)))
    → identifier_of new.ribs.tables c ≡ identifier_of old.ribs.tables c
    → new.ribs.config ≡ old.ribs.config → ((none : View) → outlet_in new.ribs c none ≡ outlet_in old.ribs c none)
    → is_live (state_in s c h) ≡ true → IsSameChange (record { withdrawn = W; announced = A; attributes = m }) change
    → new.watched ≡ old.watched → Knows old s c h → Knows new s c (takes_in s c (changing None change no_faults) h)
changed old new x t s c h W A m change read lt sessions responds takes held identifier config own live same watched knows =
    let next : Hearing = takes_in s c (changing None change no_faults) h in
    let was = knows.session x read in
    let it = responds (session_in s c) h.items was in
    let up : is_up (state_in s c h) ≡ true = ap is_up (takes (session_in s c) h.items was refl live) in
    let now : is_up (state_in s c next) ≡ true = ap is_up it.tells.state ∙ up in
    record {
      session = λ z e. subst (λ v. HasHeard v (session_in s c) next.items) (sym ((set_at old.sessions.items c t lt).own z (ap (λ l. slice_get l c) (sym sessions) ∙ e))) it.heard;
      table = λ p. held p ∙ taken_table old x t s c h W A m change read responds takes live same knows p;
      identifier = identifier ∙ knows.identifier ∙ up_identifier s c h up ∙ ap identifier_by (sym it.tells.agreed) ∙ sym (up_identifier s c next now);
      outlet = λ is none. stayed s c h next (outlet_in old.ribs c none) (outlet_in new.ribs c none) it.tells refl (same_again _ _ (same_is _ _ (own none)))
          (record {
            messages = acted_converses (Message (heard.Update None)) acts.None (session_in s c) (own_open s) h.items h.taken (outgoing_of (outlet_in old.ribs c none)) (outgoing_of (outlet_in new.ribs c none)) tt it.act_is it.tells
                (ap outgoing_of (own none)) (knows.outlet (sym config ∙ is) none).talk.messages;
            keepalives = λ live. let v = outlet_in new.ribs c none in
                let was = ap is_live (sym it.tells.state) ∙ live in
                subst (λ a. AreKeepalives (own_open s) (limit_to (update_speech (session_in s c) next.items)) (fell_if (asks_for_keepalive a) h.keepalives) (h.taken ++ v.flight) v.keepalive_due) it.act_is
                (kept_keepalives (own_open s) (update_speech (session_in s c) h.items) (update_speech (session_in s c) next.items) h.keepalives (h.taken ++ v.flight) v.keepalive_due
                (kept_speech acts.None (session_in s c) h.items next.items tt it.tells was)
                (subst (λ (o : View). AreKeepalives (own_open s) (limit_to (update_speech (session_in s c) h.items)) h.keepalives (h.taken ++ o.flight) o.keepalive_due) (sym (own none)) ((knows.outlet (sym config ∙ is) none).talk.keepalives was)));
          }) (knows.outlet (sym config ∙ is) none);
      ordered = λ is none. stayed_ordered s c h next (outlet_in old.ribs c none) (outlet_in new.ribs c none) (unasked (is_up (state_in s c h)) h.points) it.tells refl (same_is _ _ (own none)) (knows.ordered (sym config ∙ is) none);
      watched = subst (λ es. IsWatched new.watched.items c es h.faults) (ap (λ a. cons_option (ending_by [] a) h.endings) it.act_is)
          (watched_still old.watched.items new.watched.items c h.endings h.faults (ap (λ v. v.items) watched) knows.watched);
    }

-- where all was withdrawn, and some announced, another value than before is that of the whole
part_is_whole : (w a : Bool) (m old mid new : Option (List Attribute)) → (w ≡ true → a ≡ false) → mid ≡ (if w then None else old) → (new ≡ mid) ⊎ ((a ≡ true) × (new ≡ m)) → new ≢ old
    → new ≡ (if a then m else (if w then None else old))
part_is_whole w a m old mid new apart withdrawn (inr written) differs = written.1 ∙ ap (λ b. if b then m else (if w then None else old)) (sym written.0)
part_is_whole true a m old mid new apart withdrawn (inl same) differs = same ∙ withdrawn ∙ ap (λ b. if b then m else None) (sym (apart refl))
part_is_whole false a m old mid new apart withdrawn (inl same) differs = absurd (differs (same ∙ withdrawn))

-- so memory that is refused in the midst leaves another value only where the whole change gives it
pub changed_within : (old new : Core) (x t : Session) (s : Configuration) (c : ℕ) (h : Hearing) (W A : List Prefix) (m : Option (List Attribute)) (change : Change) (mid : AdjIns)
    → slice_get old.sessions.items c ≡ Some x → RespondsTo x t (Message (heard.Update None)) acts.None → Takes x acts.None → HasOverlaid c W None old.ribs.tables mid → HasOverlaidSome c A m mid new.ribs.tables
    → ((p : Prefix) → has_prefix p W ≡ true → has_prefix p A ≡ false) → is_live (state_in s c h) ≡ true → IsSameChange (record { withdrawn = W; announced = A; attributes = m }) change → Knows old s c h
    → (p : Prefix) → held_of new.ribs.tables c p ≢ held_of old.ribs.tables c p → table_in s c (takes_in s c (changing None change no_faults) h) p ≢ table_in s c h p
changed_within old new x t s c h W A m change mid read responds takes withdrawn announced apart live same knows p differs = λ e.
    differs (
    part_is_whole (has_prefix p W) (has_prefix p A) m (held_of old.ribs.tables c p) (held_of mid c p) (held_of new.ribs.tables c p) (apart p) (withdrawn.held p) (announced.held p) differs
    ∙ taken_table old x t s c h W A m change read responds takes live same knows p ∙ e ∙ sym (knows.table p))

-- ---- what the code found an UPDATE to do is what is computed of it

pub is_reset : (e : Effect) (code sub : ℕ) → IsSameEffect (Reset code sub) e → e ≡ Reset code sub
is_reset (Reset other subcode) code sub same = λ i. Reset (sym same.0 i) (sym same.1 i)
is_reset (Changes y) code sub same = absurd same

pub record IsChanging (x : Change) (e : Effect) : Type 0 where
  pub change : Change
  pub is : e ≡ Changes change
  pub same : IsSameChange x change

pub is_change : (x : Change) (e : Effect) → IsSameEffect (Changes x) e → IsChanging x e
is_change x (Reset code sub) same = absurd same
is_change x (Changes y) same = record { change = y; is = refl; same = same }

-- ---- a change that isn't taken, or not wholly

-- a session for which memory was refused has heard one message more, at the same moment
pub cut_after : (old new : Core) (x t : Session) (s : Configuration) (c : ℕ) (h : Hearing) (message : Heard) (act : Act) → slice_get old.sessions.items c ≡ Some x → c < length old.sessions.items
    → new.sessions.items ≡ slice_set old.sessions.items c t → RespondsTo x t (Message message) act → Knows old s c h → IsCutShort new s c h
cut_after old new x t s c h message act read lt sessions responds knows =
    let it = responds (session_in s c) h.items (knows.session x read) in
    record {
      items = Message message ∷ h.items;
      moment = refl;
      session = λ z e. subst (λ v. HasHeard v (session_in s c) (Message message ∷ h.items)) (sym ((set_at old.sessions.items c t lt).own z (ap (λ l. slice_get l c) (sym sessions) ∙ e))) it.heard;
    }

-- an Established session takes an UPDATE that is no reset
pub not_taken : (core : Core) (x t : Session) (s : Configuration) (c : ℕ) (h : Hearing) (act : Act) → slice_get core.sessions.items c ≡ Some x → RespondsTo x t (Message (heard.Update None)) act
    → is_live (state_in s c h) ≡ true → is_up (state_in s c h) ≡ true → Knows core s c h → (act ≡ acts.None → ⊥) → ⊥
not_taken core x t s c h act read responds live up knows not =
    let it = responds (session_in s c) h.items (knows.session x read) in
    not (it.act_is ∙ (updates_are_taken (session_in s c) h.items live).taken (up_is (state_in s c h) up))
