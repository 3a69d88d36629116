-- Heads and values that are put behind one another.
use Rattle.std.proofs.Common.{◌≡◌, ℕ, ◌+◌, ◌-◌, ◌<◌, ◌≤◌, Bool, true, false, cond, List, [], ◌∷◌, ◌++◌, length, take, drop, Option, Some, None, refl, sym, ap, ◌∙◌, subst, arith, nat_eq, length-append, append_assoc}
use Rattle.std.specs.Prelude.{option_map}
use Rattle.std.specs.List.{find, filter_map, cons_option}
use Rattle.std.proofs.lemmas.Bool.{eqb-true, eq-eqb}
use Rattle.std.proofs.lemmas.List.{append-nil, take-append-le, drop-append-le, length-drop}
use Rattle.std.proofs.Math.Seq.{take-length}
use Rattle.rs_attrs.specs.declared.mode.Mode.{Mode}
use Rattle.rs_attrs.specs.Heads.{Head}
use Rattle.rs_attrs.specs.declared.reading.field.Found.{Found}
use Rattle.rs_attrs.specs.Spellings.{Spelling}
use Rattle.rs_attrs.specs.Held.{attribute_by, attributes_in, values_size}
use Rattle.rs_attrs.specs.Meaning.{Attribute, attribute_with, meant, is_as4, value_meant, get, AllAbove, IsRising}
use Rattle.rs_attrs.specs.Walking.{noted, meant_by, head_at, spelling_in, AllOver, AreRising}
use Rattle.rs_attrs.proofs.Fields.Meant.{GivesOwn, above_cons, rising_cons, get_cons}

nothing : (xs : List ℕ) → 0 ≡ length xs → xs ≡ []
nothing [] e = refl
nothing (x ∷ xs) e = absurd (omega arith)

-- a head and its value behind the others
pub attributes_more : (heads : List Head) (values : List ℕ) (h : Head) (value : List ℕ) → values_size heads ≡ length values → h.len ≡ length value
    → attributes_in (heads ++ h ∷ []) (values ++ value) ≡ attributes_in heads values ++ attribute_by h value ∷ []
attributes_more [] values h value size len =
    let empty = nothing values size in
    let all : take h.len (values ++ value) ≡ value = (λ i. take (len i) (empty i ++ value)) ∙ take-length value in
    λ i. attribute_by h (all i) ∷ []
attributes_more (g ∷ heads) values h value size len =
    let within : g.len ≤ length values = omega arith in
    let front : take g.len (values ++ value) ≡ take g.len values = take-append-le g.len values value within in
    let back : drop g.len (values ++ value) ≡ drop g.len values ++ value = drop-append-le g.len values value within in
    let left : values_size heads ≡ length (drop g.len values) = omega (arith, length-drop g.len values) in
    (λ i. attribute_by g (front i) ∷ attributes_in (heads ++ h ∷ []) (back i))
    ∙ ap (λ m. attribute_by g (take g.len values) ∷ m) (attributes_more heads (drop g.len values) h value left len)

pub size_more : (heads : List Head) (h : Head) → values_size (heads ++ h ∷ []) ≡ values_size heads + h.len
size_more [] h = omega arith
size_more (g ∷ heads) h = let e = size_more heads h in omega arith

-- ---- what a type means

as4_none : (mode : Mode) (kept : List Found) (kind : ℕ) → is_as4 kind ≡ true → meant mode (noted kept) kind ≡ None
as4_none mode kept kind e = ap (λ b. cond b None (option_map (λ s. attribute_with (value_meant mode (noted kept) s) s) (noted kept kind))) e

meant_some : (mode : Mode) (kept : List Found) (kind : ℕ) (s : Spelling) → is_as4 kind ≡ false → noted kept kind ≡ Some s → meant mode (noted kept) kind ≡ Some (attribute_with (value_meant mode (noted kept) s) s)
meant_some mode kept kind s other e =
    λ i. cond (other i) None (option_map (λ s. attribute_with (value_meant mode (noted kept) s) s) (e i))

-- ---- the walk

-- what has been put when these are left
pub record Building (mode : Mode) (kept : List Found) (heads : List Head) (values : List ℕ) (left : List Found) : Type 0 where
  pub size : values_size heads ≡ length values
  pub whole : meant_by mode kept ≡ attributes_in heads values ++ filter_map (λ f. meant mode (noted kept) f.kind) left

pub building_start : (mode : Mode) (kept : List Found) → Building mode kept [] [] kept
building_start mode kept = record { size = refl; whole = refl }

-- one that means nothing
pub building_skip : (mode : Mode) (kept : List Found) (heads : List Head) (values : List ℕ) (f : Found) (left more : List Found) → Building mode kept heads values left → left ≡ f ∷ more
    → is_as4 f.kind ≡ true → Building mode kept heads values more
building_skip mode kept heads values f left more had e as4 = record {
  size = had.size;
  whole = had.whole
      ∙ ap (λ (left : List Found). attributes_in heads values ++ filter_map (λ f. meant mode (noted kept) f.kind) left) e
      ∙ ap (λ o. attributes_in heads values ++ cons_option o (filter_map (λ (f : Found). meant mode (noted kept) f.kind) more)) (as4_none mode kept f.kind as4);
}

-- one that means an attribute
building_put : (mode : Mode) (kept : List Found) (heads : List Head) (values : List ℕ) (f : Found) (left more : List Found) (head : Head) (value : List ℕ) → Building mode kept heads values left → left ≡ f ∷ more
    → head.len ≡ length value → meant mode (noted kept) f.kind ≡ Some (attribute_by head value) → Building mode kept (heads ++ head ∷ []) (values ++ value) more
building_put mode kept heads values f left more head value had e len some =
    let later : List Attribute = filter_map (λ (f : Found). meant mode (noted kept) f.kind) more in
    record {
      size = omega (arith, had.size, size_more heads head, length-append values value);
      whole = had.whole
          ∙ ap (λ (left : List Found). attributes_in heads values ++ filter_map (λ f. meant mode (noted kept) f.kind) left) e
          ∙ ap (λ o. attributes_in heads values ++ cons_option o later) some
          ∙ sym (append_assoc (attributes_in heads values) (attribute_by head value ∷ []) later)
          ∙ ap (λ m. m ++ later) (sym (attributes_more heads values head value had.size len));
    }

pub building_end : (mode : Mode) (kept : List Found) (heads : List Head) (values : List ℕ) (left : List Found) → Building mode kept heads values left → left ≡ [] → attributes_in heads values ≡ meant_by mode kept
building_end mode kept heads values left had e =
    sym (had.whole ∙ ap (λ (left : List Found). attributes_in heads values ++ filter_map (λ f. meant mode (noted kept) f.kind) left) e ∙ append-nil (attributes_in heads values))

pub added_length : (old new value : List ℕ) (before after : ℕ) → before ≡ length old → after ≡ length new → new ≡ old ++ value → after - before ≡ length value
added_length old new value before after before_is after_is e = omega (arith, ap length e, length-append old value)

-- one that is noted, put with its value
pub building_noted : (mode : Mode) (kept : List Found) (heads heads' : List Head) (values values' : List ℕ) (f : Found) (left more : List Found) (head : Head) (len : ℕ) → Building mode kept heads values left → left ≡ f ∷ more
    → is_as4 f.kind ≡ false → noted kept f.kind ≡ Some (spelling_in f) → values' ≡ values ++ value_meant mode (noted kept) (spelling_in f) → len ≡ length (value_meant mode (noted kept) (spelling_in f))
    → head ≡ head_at (spelling_in f) len → heads' ≡ heads ++ head ∷ [] → Building mode kept heads' values' more
building_noted mode kept heads heads' values values' f left more head len had e other here values_is len_is head_is heads_is =
    let s : Spelling = spelling_in f in
    let value : List ℕ = value_meant mode (noted kept) s in
    let P : List Head → List ℕ → Type 0 = λ heads values. Building mode kept heads values more in
    let put = building_put mode kept heads values f left more (head_at s len) value had e len_is (meant_some mode kept f.kind s other here) in
    let Q : List Head → Type 0 = λ hs. P hs (values ++ value) in
    let R : List ℕ → Type 0 = λ vs. P heads' vs in
    subst R (sym values_is) (subst Q (sym (heads_is ∙ ap (λ h. heads ++ h ∷ []) head_is)) put)

-- ---- what they mean is what the spellings mean

pub rising_meant : (f : ℕ → Option Attribute) → GivesOwn f → (kept : List Found) → AreRising kept → IsRising (filter_map (λ (g : Found). f g.kind) kept)
rising_meant f own [] rising = tt
rising_meant f own (g ∷ kept) rising =
    rising_cons (f g.kind) (filter_map (λ (g : Found). f g.kind) kept)
    (λ a e. above a.kind kept (let is : a.kind ≡ g.kind = own g.kind a e in over_same is kept rising.0))
    (rising_meant f own kept rising.1)
  where
    over_same : {n m : ℕ} → n ≡ m → (kept : List Found) → AllOver m kept → AllOver n kept
    over_same {n} {m} e kept over = subst (λ n. AllOver n kept) (sym e) over

    above : (low : ℕ) (kept : List Found) → AllOver low kept → AllAbove low (filter_map (λ (g : Found). f g.kind) kept)
    above low [] over = tt
    above low (h ∷ kept) over =
        above_cons low (f h.kind) (filter_map (λ (g : Found). f g.kind) kept) (λ a e. (let is : a.kind ≡ h.kind = own h.kind a e in let over_h : low < h.kind = over.0 in omega arith)) (above low kept over.1)

pub get_meant : (f : ℕ → Option Attribute) → GivesOwn f → (kind : ℕ) (kept : List Found) → (noted kept kind ≡ None → f kind ≡ None) → get kind (filter_map (λ (g : Found). f g.kind) kept) ≡ f kind
get_meant f own kind [] none = sym (none refl)
get_meant f own kind (g ∷ kept) none = by_test (nat_eq g.kind kind) refl (get_meant f own kind kept)
  where
    others : List Attribute
    others = filter_map (λ (g : Found). f g.kind) kept

    first : (o : Option Attribute) → ((a : Attribute) → o ≡ Some a → a.kind ≡ kind) → (o ≡ None → get kind others ≡ None) → get kind (cons_option o others) ≡ o
    first None is later = later refl
    first (Some a) is later = ap (λ b. cond b (Some a) (get kind others)) (eq-eqb a.kind kind (is a refl))

    by_test : (b : Bool) → nat_eq g.kind kind ≡ b → ((noted kept kind ≡ None → f kind ≡ None) → get kind others ≡ f kind) → get kind (cons_option (f g.kind) others) ≡ f kind
    by_test true e later =
        let here : f g.kind ≡ f kind = ap f (eqb-true g.kind kind e) in
        first (f g.kind) (λ a is. own g.kind a is ∙ eqb-true g.kind kind e) (λ empty. (let none_here : f kind ≡ None = sym here ∙ empty in later (λ _. none_here) ∙ none_here)) ∙ here
    by_test false e later =
        get_cons kind (f g.kind) others (λ a is same. (let test : nat_eq g.kind kind ≡ true = eq-eqb g.kind kind (sym (own g.kind a is) ∙ same) in cc))
        ∙ later (λ behind. none (ap (λ b. option_map spelling_in (cond b (Some g) (find (λ f. nat_eq f.kind kind) kept))) e ∙ behind))
