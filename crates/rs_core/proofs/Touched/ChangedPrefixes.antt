-- The prefixes at which a client's value changes are just those that are touched for the others.
use Rattle.std.proofs.Common.{◌≡◌, ◌≢◌, ◌⊎◌, inl, inr, ◌<◌, ◌&&◌, ◌||◌, ℕ, zero, suc, Bool, true, false, List, [], ◌∷◌, ◌++◌, take, refl, sym, ◌∙◌, ap, subst, arith}
use Rattle.std.specs.Prelude.{Option, Some, None, IsSome, ◌↔◌, slice_index_or, if◌then◌else◌}
use Rattle.std.specs.List.{Contains}
use Rattle.std.specs.Global.{Vec}
use Rattle.std.proofs.lemmas.Bool.{false≢true}
use Rattle.std.proofs.lemmas.List.Elements.{Contains-append_left, Contains-append_right, Contains-append_cases}
use Rattle.rs_octets.specs.Prefixes.{Prefix}
use Rattle.rs_attrs.specs.Meaning.{Attribute}
use Rattle.rs_attrs.specs.Effects.{same_prefix, has_prefix}
use Rattle.rs_attrs.proofs.EachOnce.{same_is}
use Rattle.rs_adjin.specs.AdjIns.{held_of, Sets, Same, Begins}
use Rattle.rs_adjin.specs.declared.adj_ins.AdjIns.{AdjIns}
use Rattle.rs_outlet.specs.Views.{View, Prefixes, touched_at}
use Rattle.rs_core.specs.Touched.Touches.{touched_with, IsTouchedAt, IsTouchedWhere, IsTouchedWhereHeld}
use Rattle.rs_core.specs.Ribs.{outlet_in, ChangesOwn, ChangesOthers, ChangesAround, TouchesOthersAtChange, TouchesOthersJustWhere, TouchesOthersWithin, TouchesChange}
use Rattle.rs_core.specs.Run.Parts.{HasOverlaid, HasOverlaidSome}
use Rattle.rs_core.specs.declared.ribs.Ribs.{Ribs}
use Rattle.rs_core.proofs.Touched.Touching.{none_more, same_speech}
use Rattle.rs_core.proofs.Run.Around.{same_or}
use Rattle.rs_core.proofs.Run.Agreeing.{begun_held}
use Rattle.rs_core.proofs.Run.Changing.{set_here, sets_nothing}
use Rattle.rs_core.proofs.Run.Clients.{is_own}

-- ---- prefixes that are touched, one list after another

touched_join : (ps qs : List Prefix) (v : View) → touched_with (ps ++ qs) v ≡ touched_with qs (touched_with ps v)
touched_join [] qs v = refl
touched_join (p ∷ ps) qs v = touched_join ps qs (touched_at p v)

-- what is stale, and numbers, are carried along
touched_numbers : (ps : List Prefix) (s : Option Prefixes) (ns : List (ℕ × Prefix)) (v : View) → touched_with ps (record v { stale = s; numbers = ns }) ≡ record (touched_with ps v) { stale = s; numbers = ns }
touched_numbers [] s ns v = refl
touched_numbers (p ∷ ps) s ns v = touched_numbers ps s ns (touched_at p v)

touched_both : (ps qs : List Prefix) (u v w : View) → IsTouchedAt ps u v → IsTouchedAt qs v w → IsTouchedAt (ps ++ qs) u w
touched_both ps qs u v w a b = record {
  is =
      b.is
      ∙ ap (λ (x : View). record (touched_with qs x) { stale = w.stale; numbers = w.numbers }) a.is
      ∙ ap (λ (x : View). record x { stale = w.stale; numbers = w.numbers }) (touched_numbers qs v.stale v.numbers (touched_with ps u))
      ∙ ap (λ (x : View). record x { stale = w.stale; numbers = w.numbers }) (sym (touched_join ps qs u));
  added = λ up q has. elim (Contains-append_cases ps qs q has) [
    | inl before ↦ b.kept q (a.added up q before)
    | inr behind ↦ b.added (subst IsSome (sym (ap (λ (x : View). x.speech) a.is ∙ same_speech ps u)) up) q behind
  ];
  kept = λ q t. b.kept q (a.kept q t);
  stale_touched = λ h. b.stale_touched (a.stale_touched h);
}

pub nowhere : (Holds : Prefix → Type 0) (v w : View) → w ≡ v → ((p : Prefix) → Holds p → ⊥) → IsTouchedWhere Holds v w
nowhere Holds v w e none = record {
  prefixes = [];
  just = λ p. (λ has. absurd (let lt = has.1 in omega (arith, lt)), λ holds. absurd (none p holds));
  touched = subst (IsTouchedAt [] v) (sym e) (none_more v);
}

pub where_as : (P Q : Prefix → Type 0) (v w : View) → IsTouchedWhere P v w → ((p : Prefix) → P p ↔ Q p) → IsTouchedWhere Q v w
where_as P Q v w h same = record {
  prefixes = h.prefixes;
  just = λ p. (λ has. (same p).0 ((h.just p).0 has), λ holds. (h.just p).1 ((same p).1 holds));
  touched = h.touched;
}

pub where_both : (P Q R : Prefix → Type 0) (u v w : View) → IsTouchedWhere P u v → IsTouchedWhere Q v w → ((p : Prefix) → P p → R p) → ((p : Prefix) → Q p → R p) → ((p : Prefix) → R p → P p ⊎ Q p) → IsTouchedWhere R u w
where_both P Q R u v w a b first second either = record {
  prefixes = a.prefixes ++ b.prefixes;
  just = λ p. (
    λ has. elim (Contains-append_cases a.prefixes b.prefixes p has) [
      | inl there ↦ first p ((a.just p).0 there)
      | inr there ↦ second p ((b.just p).0 there)
    ],
    λ holds. elim (either p holds) [
      | inl so ↦ Contains-append_left a.prefixes b.prefixes p ((a.just p).1 so)
      | inr so ↦ Contains-append_right a.prefixes b.prefixes p ((b.just p).1 so)
    ],
  );
  touched = touched_both a.prefixes b.prefixes u v w a.touched b.touched;
}

only_one : (q p : Prefix) → Contains (q ∷ []) p → p ≡ q
only_one q p (zero, lt, is) = sym is
only_one q p (suc k, lt, is) = absurd (omega (arith, lt))

pub where_one : (q : Prefix) (v w : View) → IsTouchedAt (q ∷ []) v w → IsTouchedWhere (λ p. p ≡ q) v w
where_one q v w h = record {
  prefixes = q ∷ [];
  just = λ p. (only_one q p, λ e. (0, omega arith, sym e));
  touched = h;
}

-- ---- the others, by what one client holds

pub others_touched_as : (P Q : Prefix → Type 0) (c : ℕ) (old new : Ribs) → ((p : Prefix) → P p ↔ Q p) → TouchesOthersJustWhere P c old new → TouchesOthersJustWhere Q c old new
others_touched_as P Q c old new same h = record { others = λ d none lt ne. where_as P Q (outlet_in old d none) (outlet_in new d none) (h.others d none lt ne) same }

pub touches_others_join : (P Q R : Prefix → Type 0) (c : ℕ) (old mid new : Ribs) → mid.count ≡ old.count → ((p : Prefix) → P p → R p) → ((p : Prefix) → Q p → R p) → ((p : Prefix) → R p → P p ⊎ Q p)
    → TouchesOthersJustWhere P c old mid → TouchesOthersJustWhere Q c mid new → TouchesOthersJustWhere R c old new
touches_others_join P Q R c old mid new count first second either a b = record {
  others = λ d none lt ne. where_both P Q R (outlet_in old d none) (outlet_in mid d none) (outlet_in new d none) (a.others d none lt ne) (b.others d none (subst (λ n. d < n) (sym count) lt) ne) first second either;
}

pub touches_nowhere : (Holds : Prefix → Type 0) (c : ℕ) (old new : Ribs) → ((d : ℕ) (none : View) → d ≢ c → outlet_in new d none ≡ outlet_in old d none) → ((p : Prefix) → Holds p → ⊥) → TouchesOthersJustWhere Holds c old new
touches_nowhere Holds c old new same none_holds = record { others = λ d none lt ne. nowhere Holds (outlet_in old d none) (outlet_in new d none) (same d none ne) none_holds }

-- nothing of it has changed
pub touches_none : (c : ℕ) (old new : Ribs) → ((p : Prefix) → held_of new.tables c p ≡ held_of old.tables c p) → ((d : ℕ) (none : View) → d ≢ c → outlet_in new d none ≡ outlet_in old d none) → TouchesOthersAtChange c old new
touches_none c old new held same = touches_nowhere _ c old new same (λ p differs. differs (held p))

pub touches_others_same : (c : ℕ) (old new : Ribs) → new ≡ old → TouchesOthersAtChange c old new
touches_others_same c old new e = touches_none c old new (λ p. ap (λ (r : Ribs). held_of r.tables c p) e) (λ d none ne. ap (λ (r : Ribs). outlet_in r d none) e)

-- only its own outlet has changed
pub own_touches_others : (c : ℕ) (Is : View → View → Type 0) (old new : Ribs) → new.tables ≡ old.tables → ChangesOwn c Is old new → TouchesOthersAtChange c old new
own_touches_others c Is old new tables changes = touches_none c old new (λ p. ap (λ t. held_of t c p) tables) (λ d none ne. changes.others d none ne)

-- one after the other, where no prefix is changed by both
pub others_touched_on : (c : ℕ) (old mid new : Ribs) → mid.count ≡ old.count → ((p : Prefix) → (held_of mid.tables c p ≡ held_of old.tables c p) ⊎ (held_of new.tables c p ≡ held_of mid.tables c p)) → TouchesOthersAtChange c old mid → TouchesOthersAtChange c mid new → TouchesOthersAtChange c old new
others_touched_on c old mid new count apart a b = touches_others_join _ _ _ c old mid new count
    (λ p differs. elim (apart p) [ inl was ↦ absurd (differs was) | inr stays ↦ λ e. differs (sym stays ∙ e) ])
    (λ p differs. elim (apart p) [ inl was ↦ λ e. differs (e ∙ sym was) | inr stays ↦ absurd (differs stays) ])
    (λ p differs. elim (apart p) [ inl was ↦ inr (λ e. differs (e ∙ was)) | inr stays ↦ inl (λ e. differs (stays ∙ e)) ]) a b

-- then the client's own outlet
pub touches_then_own : (c : ℕ) (Is : View → View → Type 0) (old mid new : Ribs) → mid.count ≡ old.count → TouchesOthersAtChange c old mid → new.tables ≡ mid.tables → ChangesOwn c Is mid new → TouchesOthersAtChange c old new
touches_then_own c Is old mid new count a tables changes = others_touched_on c old mid new count (λ p. inr (ap (λ t. held_of t c p) tables)) a (own_touches_others c Is mid new tables changes)

-- one value was written
pub touches_one_other : (c : ℕ) (q : Prefix) (w : Option (List Attribute)) (old new : Ribs) → Sets old.tables new.tables c q w → TouchesChange c q old new → TouchesOthersAtChange c old new
touches_one_other c q w old new sets touches = elim (same_or (held_of new.tables c q) (held_of old.tables c q)) [
  | inl same ↦
      touches_none c old new (λ p. (sets_nothing old.tables new.tables c q w sets (sym same ∙ set_here old.tables new.tables c q w sets)).held c p)
      (λ d none ne. ap (λ (v : Vec View). slice_index_or v.items d none) (touches.unchanged same))
  | inr differs ↦ record {
    others = λ d none lt ne. where_as (λ p. p ≡ q) _ (outlet_in old d none) (outlet_in new d none) (where_one q (outlet_in old d none) (outlet_in new d none) ((touches.changed differs).others d none lt ne))
        (λ p. (λ e. subst (λ x. held_of new.tables c x ≢ held_of old.tables c x) (sym e) differs, λ changed. here p changed (same_prefix p q) refl));
  }
] where
  here : (p : Prefix) → held_of new.tables c p ≢ held_of old.tables c p → (b : Bool) → same_prefix p q ≡ b → p ≡ q
  here p changed true e = same_is p q e
  here p changed false e = absurd (changed (sets.held c p ∙ ap (λ b. if b && same_prefix p q then w else held_of old.tables c p) (is_own c) ∙ ap (λ b. if b then w else held_of old.tables c p) e))

-- one value more was written, where the same was written before
pub touches_others_more : (c : ℕ) (q : Prefix) (ps : List Prefix) (w : Option (List Attribute)) (old mid new : Ribs) → mid.count ≡ old.count → HasOverlaid c ps w old.tables mid.tables → Sets mid.tables new.tables c q w → TouchesChange c q mid new → TouchesOthersAtChange c old mid → TouchesOthersAtChange c old new
touches_others_more c q ps w old mid new count has sets touches touched_others = others_touched_on c old mid new count (λ p. apart p (same_prefix p q) refl) touched_others (touches_one_other c q w mid new sets touches) where
  stays : (p : Prefix) → same_prefix p q ≡ false → held_of new.tables c p ≡ held_of mid.tables c p
  stays p e = sets.held c p ∙ ap (λ b. if b && same_prefix p q then w else held_of mid.tables c p) (is_own c) ∙ ap (λ b. if b then w else held_of mid.tables c p) e

  here : (b : Bool) → has_prefix q ps ≡ b → (held_of mid.tables c q ≡ held_of old.tables c q) ⊎ (held_of new.tables c q ≡ held_of mid.tables c q)
  here true e = inr (set_here mid.tables new.tables c q w sets ∙ sym (has.held q ∙ ap (λ b. if b then w else held_of old.tables c q) e))
  here false e = inl (has.held q ∙ ap (λ b. if b then w else held_of old.tables c q) e)

  apart : (p : Prefix) (b : Bool) → same_prefix p q ≡ b → (held_of mid.tables c p ≡ held_of old.tables c p) ⊎ (held_of new.tables c p ≡ held_of mid.tables c p)
  apart p true e = subst (λ x. (held_of mid.tables c x ≡ held_of old.tables c x) ⊎ (held_of new.tables c x ≡ held_of mid.tables c x)) (sym (same_is p q e)) (here (has_prefix q ps) refl)
  apart p false e = inr (stays p e)

-- and where memory was refused
pub touches_same_held : (c : ℕ) (q : Prefix) (old mid new : Ribs) → mid.count ≡ old.count → Same mid.tables new.tables → TouchesChange c q mid new → TouchesOthersAtChange c old mid → TouchesOthersAtChange c old new
touches_same_held c q old mid new count same touches touched_others = others_touched_on c old mid new count (λ p. inr (same.held c p)) touched_others
    (touches_none c mid new (same.held c) (λ d none ne. ap (λ (v : Vec View). slice_index_or v.items d none) (touches.unchanged (same.held c q))))

-- where a prefix isn't among them, it has what it had
overlaid_kept : (c : ℕ) (ps : List Prefix) (w : Option (List Attribute)) (old new : AdjIns) → HasOverlaid c ps w old new → (p : Prefix) → has_prefix p ps ≡ false → held_of new c p ≡ held_of old c p
overlaid_kept c ps w old new has p none = has.held p ∙ ap (λ b. if b then w else held_of old c p) none

neither : (b all first : Bool) → (all ≡ false → first ≡ false) → (b || all) ≡ false → (b || first) ≡ false
neither true all first so e = absurd (let f : true ≡ false = e in cc)
neither false all first so e = so e

-- nor is it among the first of them
none_of_first : (p : Prefix) (ps : List Prefix) (k : ℕ) → has_prefix p ps ≡ false → has_prefix p (take k ps) ≡ false
none_of_first p [] zero none = refl
none_of_first p [] (suc k) none = refl
none_of_first p (q ∷ ps) zero none = refl
none_of_first p (q ∷ ps) (suc k) none = neither (same_prefix p q) (has_prefix p ps) (has_prefix p (take k ps)) (none_of_first p ps k) none

first_are_some : (p : Prefix) (ps : List Prefix) (k : ℕ) → has_prefix p (take k ps) ≡ true → has_prefix p ps ≡ true
first_are_some p ps k e = by_test (has_prefix p ps) refl where
  by_test : (b : Bool) → has_prefix p ps ≡ b → has_prefix p ps ≡ true
  by_test true f = f
  by_test false f = absurd (false≢true (sym (none_of_first p ps k f) ∙ e))

-- the first of them were written
pub first_overlaid : (c k : ℕ) (ps : List Prefix) (w : Option (List Attribute)) (old new : AdjIns) → HasOverlaid c (take k ps) w old new → HasOverlaidSome c ps w old new
first_overlaid c k ps w old new has = record { held = λ p. here p (has_prefix p (take k ps)) refl } where
  here : (p : Prefix) (b : Bool) → has_prefix p (take k ps) ≡ b → (held_of new c p ≡ held_of old c p) ⊎ ((has_prefix p ps ≡ true) × (held_of new c p ≡ w))
  here p true e = inr (first_are_some p ps k e, has.held p ∙ ap (λ b. if b then w else held_of old c p) e)
  here p false e = inl (overlaid_kept c (take k ps) w old new has p e)

-- and then memory was refused
pub some_overlaid : (c : ℕ) (ps : List Prefix) (w : Option (List Attribute)) (old mid new : AdjIns) → Same mid new → HasOverlaidSome c ps w old mid → HasOverlaidSome c ps w old new
some_overlaid c ps w old mid new same has = record { held = λ p. elim (has.held p) [ inl was ↦ inl (same.held c p ∙ was) | inr written ↦ inr (written.0, same.held c p ∙ written.1) ] }

-- what is withdrawn, and then some of what is announced
pub touches_withdrawn : (c : ℕ) (W A : List Prefix) (w : Option (List Attribute)) (old mid new : Ribs) → mid.count ≡ old.count → HasOverlaid c W None old.tables mid.tables
    → HasOverlaidSome c A w mid.tables new.tables → ((p : Prefix) → has_prefix p W ≡ true → has_prefix p A ≡ false) → TouchesOthersAtChange c old mid → TouchesOthersAtChange c mid new → TouchesOthersAtChange c old new
touches_withdrawn c W A w old mid new count withdrawn announced apart a b = others_touched_on c old mid new count (λ p. either p (has_prefix p W) refl) a b where
  either : (p : Prefix) (b : Bool) → has_prefix p W ≡ b → (held_of mid.tables c p ≡ held_of old.tables c p) ⊎ (held_of new.tables c p ≡ held_of mid.tables c p)
  either p true e = elim (announced.held p) [ inl was ↦ inr was | inr written ↦ absurd (false≢true (sym (apart p e) ∙ written.0)) ]
  either p false e = inl (overlaid_kept c W None old.tables mid.tables withdrawn p e)

-- ---- all that it held is gone

gone : (a b : Option (List Attribute)) → b ≡ None → IsSome a ↔ (b ≢ a)
gone None b e = (λ some. absurd (let f : false ≡ true = some in cc), λ differs. absurd (differs e))
gone (Some m) b e = (λ some same. absurd (let f : ◌≡◌ {A = Option (List Attribute)} None (Some m) = sym e ∙ same in cc), λ differs. refl)

pub where_held : (c : ℕ) (old new : Ribs) (v w : View) → ((p : Prefix) → held_of new.tables c p ≡ None) → IsTouchedWhereHeld old.tables c v w → IsTouchedWhere (λ p. held_of new.tables c p ≢ held_of old.tables c p) v w
where_held c old new v w none h = where_as (λ p. IsSome (held_of old.tables c p)) _ v w (record { prefixes = h.prefixes; just = h.held.all; touched = h.touched })
    (λ p. gone (held_of old.tables c p) (held_of new.tables c p) (none p))

pub held_touches_others : (c i : ℕ) (old new : Ribs) → Begins old.tables new.tables c i → ChangesOthers c (IsTouchedWhereHeld old.tables c) old new → TouchesOthersAtChange c old new
held_touches_others c i old new begins changes = record { others = λ d none lt ne. where_held c old new _ _ (begun_held old.tables new.tables c i begins) (changes.others d none lt ne) }

pub around_touches : (c i : ℕ) (Is : View → View → Type 0) (old new : Ribs) → Begins old.tables new.tables c i → ChangesAround c Is (IsTouchedWhereHeld old.tables c) old new → TouchesOthersAtChange c old new
around_touches c i Is old new begins changes = record { others = λ d none lt ne. where_held c old new _ _ (begun_held old.tables new.tables c i begins) (changes.others d none lt ne) }

-- ---- at each prefix where a value has changed, and within some others

-- just where something holds, which does where a value has changed, and only within the bound
pub within_of : (Holds Most : Prefix → Type 0) (c : ℕ) (old new : Ribs) → ((p : Prefix) → held_of new.tables c p ≢ held_of old.tables c p → Holds p) → ((p : Prefix) → Holds p → Most p)
    → TouchesOthersJustWhere Holds c old new → TouchesOthersWithin Most c old new
within_of Holds Most c old new changed within h = record {
  others = λ d none lt ne. let at = h.others d none lt ne in record { prefixes = at.prefixes; all = λ p differs. (at.just p).1 (changed p differs); most = λ p has. within p ((at.just p).0 has); touched = at.touched };
}

-- where a value has changed, and that is within the bound
pub within_changed : (Most : Prefix → Type 0) (c : ℕ) (old new : Ribs) → ((p : Prefix) → held_of new.tables c p ≢ held_of old.tables c p → Most p) → TouchesOthersAtChange c old new → TouchesOthersWithin Most c old new
within_changed Most c old new within h = within_of (λ p. held_of new.tables c p ≢ held_of old.tables c p) Most c old new (λ p differs. differs) within h

-- one after the other; the second need only be within the bound where the first has left the value
pub within_on : (P Q R : Prefix → Type 0) (c : ℕ) (old mid new : Ribs) → mid.count ≡ old.count → ((p : Prefix) → P p → R p) → ((p : Prefix) → Q p → held_of mid.tables c p ≡ held_of old.tables c p → R p)
    → TouchesOthersWithin P c old mid → TouchesOthersWithin Q c mid new → TouchesOthersWithin R c old new
within_on P Q R c old mid new count first second a b = record {
  others = λ d none lt ne.
      let before = a.others d none lt ne in
      let behind = b.others d none (subst (λ n. d < n) (sym count) lt) ne in
      record {
        prefixes = before.prefixes ++ behind.prefixes;
        all = λ p differs. elim (same_or (held_of mid.tables c p) (held_of old.tables c p)) [
          | inl same ↦ Contains-append_right before.prefixes behind.prefixes p (behind.all p (λ e. differs (e ∙ same)))
          | inr other ↦ Contains-append_left before.prefixes behind.prefixes p (before.all p other)
        ];
        most = λ p has. elim (Contains-append_cases before.prefixes behind.prefixes p has) [
          | inl there ↦ first p (before.most p there)
          | inr there ↦ elim (same_or (held_of mid.tables c p) (held_of old.tables c p)) [
            | inl same ↦ second p (behind.most p there) same
            | inr other ↦ first p (before.most p (before.all p other))
          ]
        ];
        touched = touched_both before.prefixes behind.prefixes (outlet_in old d none) (outlet_in mid d none) (outlet_in new d none) before.touched behind.touched;
      };
}

-- then all that it held is gone
pub within_gone : (Most : Prefix → Type 0) (c : ℕ) (old mid new : Ribs) → mid.count ≡ old.count → TouchesOthersWithin Most c old mid → TouchesOthersAtChange c mid new → TouchesOthersWithin (λ p. (held_of new.tables c p ≢ held_of old.tables c p) ⊎ Most p) c old new
within_gone Most c old mid new count a b =
    within_on Most (λ p. held_of new.tables c p ≢ held_of mid.tables c p) (λ p. (held_of new.tables c p ≢ held_of old.tables c p) ⊎ Most p) c old mid new count
    (λ p x. inr x) (λ p differs same. inl (λ e. differs (e ∙ sym same))) a (within_changed (λ p. held_of new.tables c p ≢ held_of mid.tables c p) c mid new (λ p differs. differs) b)

-- a step before and one after that leave the RIBs as they are
pub within_between : (Most : Prefix → Type 0) (c : ℕ) (old mid heard new : Ribs) → mid ≡ old → new ≡ heard → TouchesOthersWithin Most c mid heard → TouchesOthersWithin Most c old new
within_between Most c old mid heard new before behind h = subst (λ r. TouchesOthersWithin Most c old r) (sym behind) (subst (λ r. TouchesOthersWithin Most c r heard) before h)
