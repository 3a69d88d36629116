-- What calls make of what is touched for the clients, by the run, and what a turn decides of it.
use Rattle.std.proofs.Common.{◌≡◌, ◌≢◌, inl, inr, ◌<◌, ◌+◌, ◌||◌, ℕ, zero, suc, Bool, true, false, List, [], ◌∷◌, length, refl, sym, ◌∙◌, ap, subst, arith}
use Rattle.std.specs.Prelude.{Option, Some, None, IsSome, is_some, if◌then◌else◌}
use Rattle.std.specs.List.{list_any}
use Rattle.std.specs.FinMap as map
use Rattle.rs_octets.specs.Prefixes.{Prefix}
use Rattle.rs_attrs.specs.Meaning.{Attribute}
use Rattle.rs_adjin.specs.AdjIns.{held_of}
use Rattle.rs_adjin.specs.AdjIns as adj_ins
use Rattle.rs_adjin.specs.Listing.{holders_from, with_holder}
use Rattle.rs_policy.specs.Configuration.{Configuration}
use Rattle.rs_outlet.specs.declared.answers.Last.TheVariants as lasts
use Rattle.rs_outlet.specs.declared.answers.Speech.{Speech}
use Rattle.rs_outlet.specs.Decided.Due.{any_holds, due_to}
use Rattle.rs_outlet.specs.Decided.HeldBy.{tables_of}
use Rattle.rs_outlet.specs.Decided.Turns.{HasTurned}
use Rattle.rs_outlet.specs.Views.{View, IsCount, Prefixes, Table, if_up, is_touched, is_whole, touched_at, with_touch}
use Rattle.rs_core.specs.Told.Points.{latest}
use Rattle.rs_core.specs.Run.Moves.{Move, Dropped, config_in}
use Rattle.rs_core.specs.Run.Meaning.{hearing, is_established, due, dues, held_in, table}
use Rattle.rs_core.specs.Touched.Altering.{IsAlteredBy}
use Rattle.rs_core.specs.Ribs.{outlet_in, ChangesAll, TouchesOthersAtChange, TouchesOthersJustWhere, TouchesOthersWithin}
use Rattle.rs_core.specs.Touched.Touches.{IsTouchedBetween, IsTouchedWhere, KeepsTouches, touched_with}
use Rattle.rs_core.specs.Touched.Turns.{IsDone, IsTurn, IsMarked}
use Rattle.rs_core.specs.Run.Agreeing.{Agrees}
use Rattle.rs_core.specs.Core.{client_count, is_refusal, is_refused, loc_in, loc_rib, refusal_in, touched_for}
use Rattle.rs_core.specs.Touched.ByRun.{DecidesTouched, IsChangedBy, IsCountOf, KeepsTouched, MayBeChangedBy, TouchesAll, TouchesBetween, TouchesItself, TouchesOthersBetween, TouchesOthersWhere, TouchesWhere, stands, with_touches}
use Rattle.rs_core.specs.declared.ribs.Ribs.{Ribs}
use Rattle.rs_core.specs.declared.route_server.Core.{Core}
use Rattle.rs_core.proofs.Touched.Turned.{is_current}
use Rattle.rs_core.proofs.Run.Agreeing.{AgreesOnClients, on_clients}
use Rattle.rs_core.proofs.Owed.Drained.{established_spoken, turned_outlet}
use Rattle.rs_core.proofs.Told.InTurn.{has_what_was_due}
use Rattle.rs_core.proofs.Run.Outgoing.{within}
use Rattle.rs_core.proofs.Owed.Sending.{last_is, nobody, outlet_is, touched_is}
use Rattle.rs_core.proofs.Told.Serving.{due_is, due_spoken}
use Rattle.rs_core.proofs.Touched.ChangedPrefixes.{others_touched_as, within_gone}
use Rattle.rs_core.proofs.Told.BySession.{down_speech}

-- ---- what is seen of an outlet

loc_is : (core : Core) (c : ℕ) (p : Prefix) → c < core.count → loc_rib core c p ≡ map.get (outlet_in core.ribs c nobody).loc p
unfolding loc_rib
loc_is core c p lt = ap (λ o. loc_in o p) (outlet_is core c lt)

-- the outlet of a client that is Established is spoken to
spoken_outlet : (core : Core) (run : List Move) (c : ℕ) → c < core.count → AgreesOnClients core run → is_established run c ≡ true → (speech : Speech) × ((outlet_in core.ribs c nobody).speech ≡ Some speech)
spoken_outlet core run c lt h up =
    let heard = established_spoken run c up in
    (heard.0, ((h.clients c lt).knows.outlet h.config nobody).speech ∙ heard.1)

-- ---- touches

touches_by_speech : (ps : List Prefix) (v : View) (speech : Speech) → v.speech ≡ Some speech → (touched_with ps v).touched ≡ with_touches ps v.touched
touches_by_speech [] v speech up = refl
touches_by_speech (p ∷ ps) v speech up = touches_by_speech ps (touched_at p v) speech up ∙ ap (with_touches ps) (ap (λ o. if_up o (with_touch v.touched p) v.touched) up)

pub outlet_touched : (Holds : Prefix → Type 0) (v w : View) (speech : Speech) → v.speech ≡ Some speech → IsTouchedWhere Holds v w → TouchesWhere Holds v.touched w.touched
outlet_touched Holds v w speech up h = record {
  prefixes = h.prefixes;
  just = h.just;
  are = ap (λ (x : View). x.touched) h.touched.is ∙ touches_by_speech h.prefixes v speech up;
}

-- what a client's call touched for the others, by two runs that the core agreed with
pub touches_others : (Holds : Prefix → Type 0) (c : ℕ) (old new : Core) (run : List Move) → AgreesOnClients old run → new.count ≡ old.count → TouchesOthersJustWhere Holds c old.ribs new.ribs → TouchesOthersWhere Holds c run old new
unfolding client_count
touches_others Holds c old new run h count others_touched = record {
  others = λ d there ne up.
      let heard = spoken_outlet old run d there h up in
      subst (λ t. TouchesWhere Holds t (touched_for new d)) (sym (touched_is old d there))
      (subst (λ t. TouchesWhere Holds (outlet_in old.ribs d nobody).touched t) (sym (touched_is new d (subst (λ n. d < n) (sym count) there)))
      (outlet_touched Holds (outlet_in old.ribs d nobody) (outlet_in new.ribs d nobody) heard.0 heard.1 (others_touched.others d nobody (within old d there) ne)));
}

-- where its value is another one after a move
pub touches_changes : (c : ℕ) (move : Move) (old new : Core) (run : List Move) → c < old.count → AgreesOnClients old run → AgreesOnClients new (move ∷ run) → new.count ≡ old.count → TouchesOthersAtChange c old.ribs new.ribs
    → TouchesOthersWhere (IsChangedBy move run c) c run old new
touches_changes c move old new run lt h after count others_touched =
    let before : (p : Prefix) → held_of old.ribs.tables c p ≡ table run c p = (h.clients c lt).knows.table in
    let now : (p : Prefix) → held_of new.ribs.tables c p ≡ table (move ∷ run) c p = (after.clients c (subst (λ n. c < n) (sym count) lt)).knows.table in
    touches_others (IsChangedBy move run c) c old new run h count
    (others_touched_as _ (IsChangedBy move run c) c old.ribs new.ribs (λ p. (λ differs e. differs (now p ∙ e ∙ sym (before p)), λ differs e. differs (sym (now p) ∙ e ∙ before p))) others_touched)

-- and for itself
pub touches_itself : (move : Move) (c : ℕ) (old new : Core) (run : List Move) → c < old.count → AgreesOnClients old run → AgreesOnClients new (move ∷ run) → new.count ≡ old.count → ((none : View) → KeepsTouches (outlet_in old.ribs c none) (outlet_in new.ribs c none))
    → TouchesItself move c run old new
touches_itself move c old new run lt h after count keeps = record {
  came_up = λ down up.
      let heard = spoken_outlet new (move ∷ run) c now after up in
      let was : (outlet_in old.ribs c nobody).speech ≡ None = ((h.clients c lt).knows.outlet h.config nobody).speech ∙ down_speech (config_in run) c (hearing c run) down in
      touched_is new c now ∙ (keeps nobody).came_up was (subst IsSome (sym heard.1) refl);
  kept = λ was up.
      let before = spoken_outlet old run c lt h was in
      let heard = spoken_outlet new (move ∷ run) c now after up in
      touched_is new c now ∙ (keeps nobody).kept (subst IsSome (sym before.1) refl) (subst IsSome (sym heard.1) refl) ∙ sym (touched_is old c lt);
} where
  now : c < new.count
  now = subst (λ n. c < n) (sym count) lt

-- octets for which memory was refused: what was heard of them, and then the loss
between_by_speech : (Least Most : Prefix → Type 0) (v w : View) (speech : Speech) → v.speech ≡ Some speech → IsTouchedBetween Least Most v w → TouchesBetween Least Most v.touched w.touched
between_by_speech Least Most v w speech up h = record { prefixes = h.prefixes; all = h.all; most = h.most; are = ap (λ (x : View). x.touched) h.touched.is ∙ touches_by_speech h.prefixes v speech up }

pub touches_dropped : (c : ℕ) (octets : List ℕ) (old mid new : Core) (run : List Move) → c < old.count → AgreesOnClients old run → AgreesOnClients new (Dropped c octets ∷ run) → mid.count ≡ old.count → new.count ≡ mid.count
    → TouchesOthersWithin (IsAlteredBy (config_in run) c octets (hearing c run)) c old.ribs mid.ribs → TouchesOthersAtChange c mid.ribs new.ribs
    → TouchesOthersBetween (IsChangedBy (Dropped c octets) run c) (MayBeChangedBy octets run c) c run old new
unfolding client_count
touches_dropped c octets old mid new run lt h after count same others_touched gone = record {
  others = λ d there ne up.
      let heard = spoken_outlet old run d there h up in
      let at = (within_gone (IsAlteredBy (config_in run) c octets (hearing c run)) c old.ribs mid.ribs new.ribs (mid.ribs_len ∙ count ∙ sym old.ribs_len) others_touched gone).others d nobody (within old d there) ne in
      subst (λ t. TouchesBetween (IsChangedBy (Dropped c octets) run c) (MayBeChangedBy octets run c) t (touched_for new d)) (sym (touched_is old d there))
      (subst (λ t. TouchesBetween (IsChangedBy (Dropped c octets) run c) (MayBeChangedBy octets run c) (outlet_in old.ribs d nobody).touched t) (sym (touched_is new d (subst (λ n. d < n) (sym (same ∙ count)) there)))
      (between_by_speech (IsChangedBy (Dropped c octets) run c) (MayBeChangedBy octets run c) (outlet_in old.ribs d nobody) (outlet_in new.ribs d nobody) heard.0 heard.1 (record {
        prefixes = at.prefixes;
        all = λ p differs. at.all p (λ e. differs (sym (now p) ∙ e ∙ before p));
        most = λ p has. elim (at.most p has) [ inl differs ↦ inl (λ e. differs (now p ∙ e ∙ sym (before p))) | inr x ↦ inr x ];
        touched = at.touched;
      })));
} where
  before : (p : Prefix) → held_of old.ribs.tables c p ≡ table run c p
  before p = (h.clients c lt).knows.table p

  now : (p : Prefix) → held_of new.ribs.tables c p ≡ table (Dropped c octets ∷ run) c p
  now p = (after.clients c (subst (λ n. c < n) (sym (same ∙ count)) lt)).knows.table p

-- what goes on with one client alone, which is not Established
pub keeps_touched : (c : ℕ) (old new : Core) (run : List Move) → new.count ≡ old.count → is_established run c ≡ false → ((d : ℕ) (none : View) → d ≢ c → outlet_in new.ribs d none ≡ outlet_in old.ribs d none) → KeepsTouched run old new
unfolding client_count
keeps_touched c old new run count down same = record { each = λ d lt up. touched_is new d (subst (λ n. d < n) (sym count) lt) ∙ ap (λ (v : View). v.touched) (same d nobody (other d up)) ∙ sym (touched_is old d lt) } where
  other : (d : ℕ) → is_established run d ≡ true → d ≢ c
  other d up e = absurd (let f : false ≡ true = sym down ∙ ap (λ k. is_established run k) (sym e) ∙ up in cc)

-- another configuration
pub touches_all : (old new : Core) (run : List Move) → new.count ≡ old.count → ChangesAll (λ c. IsMarked new.ribs.tables) old.ribs new.ribs → AgreesOnClients old run → TouchesAll run new
unfolding client_count
touches_all old new run count marked h = record {
  each = λ c lt up.
      let there = subst (λ n. c < n) count lt in
      let heard = spoken_outlet old run c there h up in
      let v : View = outlet_in old.ribs c nobody in
      touched_is new c lt ∙ ap (λ (x : View). x.touched) (marked.each c nobody (within old c there)).is ∙ ap (λ o. if_up o None v.touched) heard.1;
}

-- ---- a turn

holders_alike : (x y : ℕ → Option (List Attribute)) (n k left : ℕ) → k + left ≡ n → ((d : ℕ) → d < n → x d ≡ y d) → holders_from x k left ≡ holders_from y k left
holders_alike x y n k zero sum same = refl
holders_alike x y n k (suc left) sum same =
    let rest : holders_from x (suc k) left ≡ holders_from y (suc k) left = holders_alike x y n (suc k) left (omega (arith, sum)) same in
    let here : x k ≡ y k = same k (omega (arith, sum)) in
    (λ i. with_holder k (here i) (rest i))

-- any client holds it by the tables just where one does by the run
holds_alike : (core : Core) (run : List Move) (p : Prefix) → Agrees core run → any_holds (tables_of core.ribs.config core.ribs.tables) p ≡ any_holds (held_in run) p
holds_alike core run p h =
    ap (list_any (λ x. true)) (holders_alike (λ d. held_of core.ribs.tables d p) (λ d. table run d p) (adj_ins.client_count core.ribs.tables) 0 (adj_ins.client_count core.ribs.tables) (omega arith)
    (λ d lt. (h.clients d (subst (λ n. d < n) (core.ribs.tables_len ∙ core.ribs_len) lt)).knows.table p))
    ∙ ap (λ n. list_any (λ x. true) (holders_from (λ d. table run d p) 0 n)) (core.ribs.tables_len ∙ sym core.ribs.clients_len ∙ ap (λ (s : Configuration). length s.clients) h.config)

count_by : (loc : Table) (held is_in : Prefix → Bool) (touched : Option Prefixes) (n : ℕ) → ((p : Prefix) → (map.contains_key loc p || held p) ≡ is_in p) → IsCount held loc touched n → IsCountOf is_in touched n
count_by loc held is_in None n same h = record { all = h.all; holds = λ p. h.holds p ∙ same p; size = h.size }
count_by loc held is_in (Some s) n same h = h

pub decides_touched : (c : ℕ) (old new : Core) (mid : Ribs) (run : List Move) → c < old.count → new.count ≡ old.count → ChangesAll (λ d. IsTurn old.ribs.config old.ribs.tables) old.ribs mid → new.ribs.outlets ≡ mid.outlets
    → Agrees old run → is_established run c ≡ true → is_refused new c ≡ false → DecidesTouched run c old new
unfolding client_count is_refused
decides_touched c old new mid run lt count turned same h up done = by_turn (turned_outlet c old new mid lt turned same) where
  v : View
  v = outlet_in old.ribs c nobody

  w : View
  w = outlet_in new.ribs c nobody

  now : c < new.count
  now = subst (λ n. c < n) (sym count) lt

  speech : Speech
  speech = (spoken_outlet old run c lt (on_clients old run h) up).0

  spoken : v.speech ≡ Some speech
  spoken = (spoken_outlet old run c lt (on_clients old run h) up).1

  was : touched_for old c ≡ v.touched
  was = touched_is old c lt

  some : IsSome v.speech
  some = subst IsSome (sym spoken) refl

  stood : (p : Prefix) → map.get v.loc p ≡ latest (dues run c p)
  stood p = sym (loc_is old c p lt) ∙ has_what_was_due old run c p lt h up

  due_here : (p : Prefix) → due_to (tables_of old.ribs.config old.ribs.tables) v.client speech p ≡ due run c p
  due_here p =
      ap (λ k. due_to (tables_of old.ribs.config old.ribs.tables) k speech p) (old.ribs.kept c nobody (subst (λ n. c < n) (sym (old.ribs.outlets_len ∙ old.ribs_len)) lt)).client
      ∙ due_is old run c speech p h
      ∙ sym (due_spoken run c speech p (sym ((h.clients c lt).knows.outlet h.config nobody).speech ∙ spoken))

  by_done : (d : IsDone old.ribs.config old.ribs.tables v w) → HasTurned old.ribs.config old.ribs.tables v w d.turned → DecidesTouched run c old new
  by_done d t = record {
    turned = d.turned;
    last = last_is new c now ∙ d.last;
    whole = t.whole some ∙ ap is_whole (sym was);
    count = subst (λ o. IsCountOf (stands run c) o d.turned.decided) (sym was)
        (count_by v.loc (any_holds (tables_of old.ribs.config old.ribs.tables)) (stands run c) v.touched d.turned.decided (λ p. (λ i. is_some (stood p i) || holds_alike old run p h i)) (t.count some));
    decided = λ p touched.
        loc_is new c p now ∙ t.loc speech spoken p
        ∙ ap (λ b. if b then due_to (tables_of old.ribs.config old.ribs.tables) v.client speech p else map.get v.loc p) (ap (λ o. is_touched o p) (sym was) ∙ touched) ∙ due_here p;
    kept = λ p untouched.
        loc_is new c p now ∙ t.loc speech spoken p
        ∙ ap (λ b. if b then due_to (tables_of old.ribs.config old.ribs.tables) v.client speech p else map.get v.loc p) (ap (λ o. is_touched o p) (sym was) ∙ untouched) ∙ sym (loc_is old c p lt);
    none_left = touched_is new c now ∙ t.touched some;
  }

  by_turn : IsTurn old.ribs.config old.ribs.tables v w → DecidesTouched run c old new
  by_turn (inl d) = by_done d (d.decided (old.numbered.each c nobody (within old c lt)) (is_current old.ribs c nobody (within old c lt) old.fresh))
  by_turn (inr refused) = absurd (
      let last : w.last ≡ lasts.Refused = ap (λ (x : View). x.last) refused.rest in
      let f : true ≡ false = sym (ap refusal_in (outlet_is new c now) ∙ ap is_refusal last) ∙ done in cc)

-- where memory was refused for a client, nothing was decided for it
pub refusal_keeps : (c : ℕ) (old new : Core) (mid : Ribs) → c < old.count → new.count ≡ old.count → ChangesAll (λ d. IsTurn old.ribs.config old.ribs.tables) old.ribs mid → new.ribs.outlets ≡ mid.outlets
    → is_refused new c ≡ true → touched_for new c ≡ touched_for old c
unfolding is_refused
refusal_keeps c old new mid lt count turned same refused = by_turn (turned_outlet c old new mid lt turned same) where
  now : c < new.count
  now = subst (λ n. c < n) (sym count) lt

  by_turn : IsTurn old.ribs.config old.ribs.tables (outlet_in old.ribs c nobody) (outlet_in new.ribs c nobody) → touched_for new c ≡ touched_for old c
  by_turn (inl d) = absurd (
      let f : false ≡ true = sym (ap refusal_in (outlet_is new c now) ∙ ap is_refusal d.last) ∙ refused in cc)
  by_turn (inr refused) = touched_is new c now ∙ ap (λ (x : View). x.touched) refused.rest ∙ sym (touched_is old c lt)
