-- The map that spellings mean: one attribute for each type that means one, by rising type.
use Rattle.std.proofs.Common.{◌≡◌, ℕ, zero, suc, ◌+◌, ◌<◌, ◌≤◌, Bool, true, false, cond, List, [], ◌∷◌, Option, Some, None, refl, sym, ap, ◌∙◌, subst, arith, ◌⊎◌, inl, inr}
use Rattle.std.specs.Prelude.{option_map}
use Rattle.std.specs.List.{filter_map, cons_option, range_with_len, AllByRecursion}
use Rattle.std.proofs.lemmas.Bool.{cases_lt, eq-eqb, ne_eqb}
use Rattle.rs_attrs.specs.declared.mode.Mode.{Mode}
use Rattle.rs_attrs.specs.Spellings.{Spelling, IsSpelling}
use Rattle.rs_attrs.specs.Table.{outcome_of, is_kept}
use Rattle.rs_attrs.specs.Meaning.{Attribute, attribute_with, that_counts, if_kept, kept_spelling, is_as4, value_meant, kept, get, AllAbove, IsRising, IsMeant, meaning_of}
use Rattle.rs_attrs.proofs.Fields.FirstOfType.{counts_kind}
use Rattle.rs_attrs.proofs.Fields.FirstOfTypeWalk.{types_all}

-- each type is given an attribute of its own
abbrev pub GivesOwn : (ℕ → Option Attribute) → Type 0
GivesOwn f = (kind : ℕ) (a : Attribute) → f kind ≡ Some a → a.kind ≡ kind

pub above_cons : (low : ℕ) (o : Option Attribute) (m : List Attribute) → ((a : Attribute) → o ≡ Some a → low < a.kind) → AllAbove low m → AllAbove low (cons_option o m)
above_cons low None m here later = later
above_cons low (Some a) m here later = (here a refl, later)

above_from : (f : ℕ → Option Attribute) → GivesOwn f → (low a n : ℕ) → low < a → AllAbove low (filter_map f (range_with_len a n))
above_from f own low a zero h = tt
above_from f own low a (suc n) h =
    above_cons low (f a) (filter_map f (range_with_len (a + 1) n)) (λ x e. (let kind : x.kind ≡ a = own a x e in omega arith)) (above_from f own low (a + 1) n (omega arith))

pub rising_cons : (o : Option Attribute) (m : List Attribute) → ((a : Attribute) → o ≡ Some a → AllAbove a.kind m) → IsRising m → IsRising (cons_option o m)
rising_cons None m here later = later
rising_cons (Some a) m here later = (here a refl, later)

pub rising_from : (f : ℕ → Option Attribute) → GivesOwn f → (a n : ℕ) → IsRising (filter_map f (range_with_len a n))
rising_from f own a zero = tt
rising_from f own a (suc n) =
    rising_cons (f a) (filter_map f (range_with_len (a + 1) n))
    (λ x e. (let kind : x.kind ≡ a = own a x e in above_from f own x.kind (a + 1) n (omega arith)))
    (rising_from f own (a + 1) n)

pub get_cons : (kind : ℕ) (o : Option Attribute) (m : List Attribute) → ((a : Attribute) → o ≡ Some a → a.kind ≡ kind → ⊥) → get kind (cons_option o m) ≡ get kind m
get_cons kind None m other = refl
get_cons kind (Some a) m other = ap (λ b. cond b (Some a) (get kind m)) (ne_eqb a.kind kind (other a refl))

get_below : (f : ℕ → Option Attribute) → GivesOwn f → (kind a n : ℕ) → kind < a → get kind (filter_map f (range_with_len a n)) ≡ None
get_below f own kind a zero h = refl
get_below f own kind a (suc n) h =
    get_cons kind (f a) (filter_map f (range_with_len (a + 1) n)) (λ x e same. (let is : x.kind ≡ a = own a x e in omega arith))
    ∙ get_below f own kind (a + 1) n (omega arith)

pub get_here : (kind : ℕ) (o : Option Attribute) (m : List Attribute) → ((a : Attribute) → o ≡ Some a → a.kind ≡ kind) → get kind m ≡ None → get kind (cons_option o m) ≡ o
get_here kind None m own none = none
get_here kind (Some a) m own none = ap (λ b. cond b (Some a) (get kind m)) (eq-eqb a.kind kind (own a refl))

get_from : (f : ℕ → Option Attribute) → GivesOwn f → (kind a n : ℕ) → a ≤ kind → kind < a + n → get kind (filter_map f (range_with_len a n)) ≡ f kind
get_from f own kind a zero low high = absurd (omega arith)
get_from f own kind a (suc n) low high = by_order (λ low. get_from f own kind (a + 1) n low (omega arith)) (cases_lt a kind)
  where
    by_order : (a + 1 ≤ kind → get kind (filter_map f (range_with_len (a + 1) n)) ≡ f kind) → (a < kind) ⊎ (kind ≤ a) → get kind (filter_map f (range_with_len a (suc n))) ≡ f kind
    by_order later (inl above) =
        get_cons kind (f a) (filter_map f (range_with_len (a + 1) n)) (λ x e same. (let is : x.kind ≡ a = own a x e in omega arith))
        ∙ later (omega arith)
    by_order later (inr here) =
        let same : a ≡ kind = omega arith in
        get_here kind (f a) (filter_map f (range_with_len (a + 1) n)) (λ x e. own a x e ∙ same) (get_below f own kind (a + 1) n (omega arith)) ∙ ap f same

-- ---- what spellings mean

pub kept_is : (mode : Mode) (kind : ℕ) (o : Option Spelling) (s : Spelling) → if_kept mode o ≡ Some s → (o ≡ Some s) × (is_kept (outcome_of mode s) ≡ true)
kept_is mode kind None s e = cc
kept_is mode kind (Some t) s e = by_test (is_kept (outcome_of mode t)) refl e
  where
    by_test : (b : Bool) → is_kept (outcome_of mode t) ≡ b → cond b (Some t) None ≡ Some s → (Some t ≡ Some s) × (is_kept (outcome_of mode s) ≡ true)
    by_test true p e = let same : t ≡ s = cc in (ap Some same, ap (λ s. is_kept (outcome_of mode s)) (sym same) ∙ p)
    by_test false p e = cc

-- the spelling behind an attribute
pub record Behind (mode : Mode) (ss : List Spelling) (kind : ℕ) (a : Attribute) : Type 0 where
  pub spelling : Spelling
  pub counts : that_counts kind ss ≡ Some spelling
  pub is_kept : is_kept (outcome_of mode spelling) ≡ true
  pub means : a ≡ attribute_with (value_meant mode (kept_spelling mode ss) spelling) spelling

pub behind : (mode : Mode) (ss : List Spelling) (kind : ℕ) (a : Attribute) → kept mode ss kind ≡ Some a → Behind mode ss kind a
behind mode ss kind a e = by_tests (is_as4 kind) (kept_spelling mode ss kind) refl e
  where
    by_tests : (b : Bool) (o : Option Spelling) → kept_spelling mode ss kind ≡ o
        → cond b None (option_map (λ s. attribute_with (value_meant mode (kept_spelling mode ss) s) s) o) ≡ Some a → Behind mode ss kind a
    by_tests true o p e = cc
    by_tests false None p e = cc
    by_tests false (Some s) p e =
        let both = kept_is mode kind (that_counts kind ss) s p in
        record { spelling = s; counts = both.0; is_kept = both.1; means = cc }

pub gives_own : (mode : Mode) (ss : List Spelling) → GivesOwn (kept mode ss)
gives_own mode ss kind a e =
    let b = behind mode ss kind a e in
    ap (λ a. a.kind) b.means ∙ counts_kind kind ss b.spelling b.counts

-- no type above 255 has a spelling
none_above : (kind : ℕ) (ss : List Spelling) → AllByRecursion IsSpelling ss → 256 ≤ kind → that_counts kind ss ≡ None
none_above kind [] each h = refl
none_above kind (s ∷ ss) each h =
    let byte : s.kind < 256 = each.0.kind in
    ap (λ b. cond b (Some s) (that_counts kind ss)) (ne_eqb s.kind kind (λ e. omega arith)) ∙ none_above kind ss each.1 h

kept_above : (mode : Mode) (ss : List Spelling) (kind : ℕ) → that_counts kind ss ≡ None → kept mode ss kind ≡ None
kept_above mode ss kind e =
    ap (λ o. cond (is_as4 kind) None (option_map (λ s. attribute_with (value_meant mode (kept_spelling mode ss) s) s) (if_kept mode o))) e ∙ same (is_as4 kind)
  where
    same : (b : Bool) → cond {A = Option Attribute} b None None ≡ None
    same true = refl
    same false = refl

pub is_meant : (mode : Mode) (ss : List Spelling) → AllByRecursion IsSpelling ss → IsMeant mode ss (meaning_of mode ss)
is_meant mode ss each = record { rising = rising; same = λ kind. by_case kind (cases_lt kind 256) }
  where
    own : GivesOwn (kept mode ss)
    own = gives_own mode ss

    from_0 : meaning_of mode ss ≡ filter_map (kept mode ss) (range_with_len 0 256)
    from_0 = ap (filter_map (kept mode ss)) types_all

    rising : IsRising (meaning_of mode ss)
    rising = subst IsRising (sym from_0) (rising_from (kept mode ss) own 0 256)

    by_case : (kind : ℕ) → (kind < 256) ⊎ (256 ≤ kind) → get kind (meaning_of mode ss) ≡ kept mode ss kind
    by_case kind (inl h) = ap (get kind) from_0 ∙ get_from (kept mode ss) own kind 0 256 (omega arith) (omega arith)
    by_case kind (inr h) = ap (get kind) from_0 ∙ get_above kind 0 256 (omega arith) ∙ sym (kept_above mode ss kind (none_above kind ss each h))
      where
        get_above : (kind a n : ℕ) → a + n ≤ kind → get kind (filter_map (kept mode ss) (range_with_len a n)) ≡ None
        get_above kind a zero h = refl
        get_above kind a (suc n) h =
            get_cons kind (kept mode ss a) (filter_map (kept mode ss) (range_with_len (a + 1) n)) (λ x e same. (let is : x.kind ≡ a = own a x e in omega arith))
            ∙ get_above kind (a + 1) n (omega arith)
