-- Attributes by rising type, and one more put among them.
use Rattle.std.proofs.Common.{◌≡◌, ℕ, zero, suc, ◌+◌, ◌-◌, ◌<◌, ◌≤◌, Bool, true, false, cond, List, [], ◌∷◌, length, get_or, drop, Option, Some, None, refl, sym, ap, ◌∙◌, subst, arith, nat_eq}
use Rattle.std.specs.Prelude.{option_map, insert}
use Rattle.std.specs.List.{find, AllByRecursion}
use Rattle.std.proofs.lemmas.List.{drop_more}
use Rattle.std.proofs.lemmas.Bool.{eqb-true, eq-eqb, ne_eqb}
use Rattle.rs_attrs.specs.declared.reading.field.Found.{Found}
use Rattle.rs_attrs.specs.Walking.{spelling_in, noted, noted_with, AllOver, AreRising, IsPlaceOf}

-- one that is the first of its type
noted_here : (f : Found) (kept : List Found) (kind : ℕ) → f.kind ≡ kind → noted (f ∷ kept) kind ≡ Some (spelling_in f)
noted_here f kept kind e = ap (λ b. option_map spelling_in (cond b (Some f) (find (λ f. nat_eq f.kind kind) kept))) (eq-eqb f.kind kind e)

noted_behind : (f : Found) (kept : List Found) (kind : ℕ) → (f.kind ≡ kind → ⊥) → noted (f ∷ kept) kind ≡ noted kept kind
noted_behind f kept kind other = ap (λ b. option_map spelling_in (cond b (Some f) (find (λ f. nat_eq f.kind kind) kept))) (ne_eqb f.kind kind other)

-- a type that isn't among them
record IsNew (f : Found) (kept : List Found) (kind : ℕ) : Type 0 where
  other : f.kind ≡ kind → ⊥
  later : noted kept kind ≡ None

is_new : (f : Found) (kept : List Found) (kind : ℕ) → noted (f ∷ kept) kind ≡ None → IsNew f kept kind
is_new f kept kind none =
    let other : f.kind ≡ kind → ⊥ = λ e. (let both : Some (spelling_in f) ≡ None = sym (noted_here f kept kind e) ∙ none in cc) in
    record { other = other; later = sym (noted_behind f kept kind other) ∙ none }

over_at : (kind : ℕ) (kept : List Found) (i : ℕ) (d : Found) → AllOver kind kept → i < length kept → kind < (get_or kept i d).kind
over_at kind [] i d over h = absurd (omega arith)
over_at kind (f ∷ kept) zero d over h = over.0
over_at kind (f ∷ kept) (suc i) d over h = over_at kind kept i d over.1 (omega arith)

-- each of them is noted
pub rising_noted : (kept : List Found) (i : ℕ) (d : Found) → AreRising kept → i < length kept → noted kept (get_or kept i d).kind ≡ Some (spelling_in (get_or kept i d))
rising_noted [] i d rising h = absurd (omega arith)
rising_noted (f ∷ kept) zero d rising h = noted_here f kept f.kind refl
rising_noted (f ∷ kept) (suc i) d rising h =
    let over = over_at f.kind kept i d rising.0 (omega arith) in
    noted_behind f kept (get_or kept i d).kind (λ e. omega arith) ∙ rising_noted kept i d rising.1 (omega arith)

-- ---- one more

pub put_noted : (f : Found) (kept : List Found) (at kind : ℕ) → at ≤ length kept → noted kept f.kind ≡ None → noted (insert kept at f) kind ≡ noted_with (spelling_in f) (noted kept) kind
put_noted f kept zero kind h none = by_test (nat_eq f.kind kind) (find (λ f. nat_eq f.kind kind) kept)
  where
    by_test : (b : Bool) (o : Option Found) → option_map spelling_in (cond b (Some f) o) ≡ cond b (Some (spelling_in f)) (option_map spelling_in o)
    by_test true o = refl
    by_test false o = refl
put_noted f [] (suc at) kind h none = absurd (omega arith)
put_noted f (g ∷ kept) (suc at) kind h none = by_test (nat_eq g.kind kind) refl (put_noted f kept at kind (omega arith) (is_new g kept f.kind none).later)
  where
    by_test : (b : Bool) → nat_eq g.kind kind ≡ b → noted (insert kept at f) kind ≡ noted_with (spelling_in f) (noted kept) kind
        → option_map spelling_in (cond b (Some g) (find (λ f. nat_eq f.kind kind) (insert kept at f))) ≡ cond (nat_eq f.kind kind) (Some (spelling_in f)) (option_map spelling_in (cond b (Some g) (find (λ f. nat_eq f.kind kind) kept)))
    by_test true e later =
        let here : g.kind ≡ kind = eqb-true g.kind kind e in
        ap (λ b. cond b (Some (spelling_in f)) (Some (spelling_in g))) (sym (ne_eqb f.kind kind (λ same. (is_new g kept f.kind none).other (here ∙ sym same))))
    by_test false e later = later

over_new : (kind : ℕ) (kept : List Found) → AllByRecursion (λ f. kind ≤ f.kind) kept → noted kept kind ≡ None → AllOver kind kept
over_new kind [] all none = tt
over_new kind (f ∷ kept) all none =
    let new = is_new f kept kind none in
    let least : kind ≤ f.kind = all.0 in
    let above : kind < f.kind = by_case (nat_eq f.kind kind) refl least new.other in
    (above, over_new kind kept all.1 new.later)
  where
    by_case : (b : Bool) → nat_eq f.kind kind ≡ b → kind ≤ f.kind → (f.kind ≡ kind → ⊥) → kind < f.kind
    by_case true e least other = absurd (other (eqb-true f.kind kind e))
    by_case false e least other = omega arith

over_put : (low : ℕ) (f : Found) (kept : List Found) (at : ℕ) → low < f.kind → AllOver low kept → AllOver low (insert kept at f)
over_put low f kept zero h over = (h, over)
over_put low f [] (suc at) h over = (h, tt)
over_put low f (g ∷ kept) (suc at) h over = (over.0, over_put low f kept at h over.1)

pub put_rising : (f : Found) (kept : List Found) (at : ℕ) → AreRising kept → IsPlaceOf f.kind kept at → noted kept f.kind ≡ None → AreRising (insert kept at f)
put_rising f kept zero rising place none = (over_new f.kind kept place.before none, rising)
put_rising f [] (suc at) rising place none = absurd (let within : suc at ≤ 0 = place.within in omega arith)
put_rising f (g ∷ kept) (suc at) rising place none =
    let within : suc at ≤ suc (length kept) = place.within in (
      over_put g.kind f kept at (lower at (λ n d e. place.behind (suc n) d (ap suc e)) (place.behind 0 f) (omega arith)) rising.0,
      put_rising f kept at rising.1 (record { within = omega arith; behind = λ n d e. place.behind (suc n) d (ap suc e); before = place.before }) (is_new g kept f.kind none).later,
    )
  where
    lower : (at : ℕ) → ((n : ℕ) (d : Found) → at ≡ suc n → (get_or kept n d).kind < f.kind) → (suc at ≡ 1 → g.kind < f.kind) → at ≤ length kept → g.kind < f.kind
    lower zero behind first h = first refl
    lower (suc n) behind first h =
        let over = over_at g.kind kept n f rising.0 (omega arith) in
        let last = behind n f refl in
        omega arith

-- one more that is no lower
pub before_more : (kind : ℕ) (kept : List Found) (at : ℕ) (d : Found) → 0 < at → at ≤ length kept → kind ≤ (get_or kept (at - 1) d).kind → AllByRecursion (λ f. kind ≤ f.kind) (drop at kept)
    → AllByRecursion (λ f. kind ≤ f.kind) (drop (at - 1) kept)
before_more kind kept at d some within least before =
    let same : at ≡ at - 1 + 1 = omega arith in
    let P : List Found → Type 0 = λ left. AllByRecursion (λ f. kind ≤ f.kind) left in
    subst P (sym (drop_more kept (at - 1) d (omega arith))) (least, subst P (ap (λ n. drop n kept) same) before)

pub place_in : (kind : ℕ) (kept same : List Found) (at : ℕ) → same ≡ kept → IsPlaceOf kind same at → IsPlaceOf kind kept at
place_in kind kept same at e place = let P : List Found → Type 0 = λ kept. IsPlaceOf kind kept at in subst P e place
