-- Lists of prefixes as sets: what a filter leaves, and the list that names each prefix once.
use Rattle.std.proofs.Common.{◌≡◌, ◌&&◌, ◌||◌, not, Bool, true, false, cond, List, [], ◌∷◌, refl, sym, ap, ◌∙◌, subst, nat_eq}
use Rattle.std.specs.Prelude.{filter}
use Rattle.std.specs.List.{AllByRecursion, IsDistinct}
use Rattle.std.specs.Cmp.{first_so, second_so}
use Rattle.std.proofs.lemmas.Bool.{eqb-true, eq-eqb}
use Rattle.rs_octets.specs.Prefixes.{Prefix}
use Rattle.rs_attrs.specs.Effects.{same_prefix, has_prefix, without, once}

pub same_is : (p q : Prefix) → same_prefix p q ≡ true → p ≡ q
same_is p q e =
    let bits = eqb-true p.bits q.bits (first_so (nat_eq p.bits q.bits) (nat_eq p.len q.len) e) in
    let len = eqb-true p.len q.len (second_so (nat_eq p.bits q.bits) (nat_eq p.len q.len) e) in
    λ i. record { bits = bits i; len = len i }

pub same_itself : (p : Prefix) → same_prefix p p ≡ true
same_itself p = λ i. eq-eqb p.bits p.bits refl i && eq-eqb p.len p.len refl i

same_turned : (p q : Prefix) → same_prefix p q ≡ false → same_prefix q p ≡ false
same_turned p q e = by_test (same_prefix q p) refl
  where
    by_test : (b : Bool) → same_prefix q p ≡ b → b ≡ false
    by_test true t = let other : true ≡ false = sym (subst (λ p. same_prefix p q ≡ true) (same_is q p t) (same_itself q)) ∙ e in cc
    by_test false t = refl

-- ---- what a filter leaves

pub filtered_has : (p : Prefix) (others ps : List Prefix) → has_prefix p (without ps others) ≡ (has_prefix p ps && not (has_prefix p others))
filtered_has p others [] = refl
filtered_has p others (q ∷ ps) = by_tests (same_prefix p q) (has_prefix q others) refl refl (filtered_has p others ps)
  where
    rest : List Prefix
    rest = without ps others

    by_tests : (same other : Bool) → same_prefix p q ≡ same → has_prefix q others ≡ other → has_prefix p rest ≡ (has_prefix p ps && not (has_prefix p others))
        → has_prefix p (cond (not other) (q ∷ rest) rest) ≡ ((same || has_prefix p ps) && not (has_prefix p others))
    by_tests true true e f later =
        let here : has_prefix p others ≡ true = ap (λ p. has_prefix p others) (same_is p q e) ∙ f in
        later ∙ (λ i. has_prefix p ps && not (here i)) ∙ none (has_prefix p ps) ∙ sym (ap not here)
      where
        none : (b : Bool) → (b && false) ≡ false
        none true = refl
        none false = refl
    by_tests true false e f later =
        let here : has_prefix p others ≡ false = ap (λ p. has_prefix p others) (same_is p q e) ∙ f in
        ap (λ b. b || has_prefix p rest) e ∙ sym (ap not here)
    by_tests false true e f later = later
    by_tests false false e f later = ap (λ b. b || has_prefix p rest) e ∙ later

apart_filtered : (p : Prefix) (keep : Prefix → Bool) (xs : List Prefix) → AllByRecursion (λ y. same_prefix p y ≡ false) xs → AllByRecursion (λ y. same_prefix p y ≡ false) (filter keep xs)
apart_filtered p keep [] all = tt
apart_filtered p keep (x ∷ xs) all = by_test (keep x) (apart_filtered p keep xs all.1)
  where
    by_test : (b : Bool) → AllByRecursion (λ y. same_prefix p y ≡ false) (filter keep xs) → AllByRecursion (λ y. same_prefix p y ≡ false) (cond b (x ∷ filter keep xs) (filter keep xs))
    by_test true others = (all.0, others)
    by_test false others = others

-- a filter leaves each once
pub distinct_filtered : (keep : Prefix → Bool) (xs : List Prefix) → IsDistinct same_prefix xs → IsDistinct same_prefix (filter keep xs)
unfolding IsDistinct
distinct_filtered keep [] is = tt
distinct_filtered keep (x ∷ xs) is = by_test (keep x) (distinct_filtered keep xs is.1)
  where
    by_test : (b : Bool) → IsDistinct same_prefix (filter keep xs) → IsDistinct same_prefix (cond b (x ∷ filter keep xs) (filter keep xs))
    by_test true others = (apart_filtered x keep xs is.0, others)
    by_test false others = others

-- ---- each once

apart_without : (p : Prefix) (xs : List Prefix) → AllByRecursion (λ y. same_prefix p y ≡ false) (without xs (p ∷ []))
apart_without p [] = tt
apart_without p (x ∷ xs) = by_test (same_prefix x p) refl (apart_without p xs)
  where
    by_test : (b : Bool) → same_prefix x p ≡ b → AllByRecursion (λ y. same_prefix p y ≡ false) (without xs (p ∷ []))
        → AllByRecursion (λ y. same_prefix p y ≡ false) (cond (not (b || false)) (x ∷ without xs (p ∷ [])) (without xs (p ∷ [])))
    by_test true t others = others
    by_test false t others = (same_turned x p t, others)

pub once_distinct : (ps : List Prefix) → IsDistinct same_prefix (once ps)
unfolding IsDistinct
once_distinct [] = tt
once_distinct (p ∷ ps) = (apart_without p (once ps), distinct_filtered (λ q. not (has_prefix q (p ∷ []))) (once ps) (once_distinct ps))

first_or_later : (a b : Bool) → (a || (b && not (a || false))) ≡ (a || b)
first_or_later true b = refl
first_or_later false true = refl
first_or_later false false = refl

pub once_has : (q : Prefix) (ps : List Prefix) → has_prefix q (once ps) ≡ has_prefix q ps
once_has q [] = refl
once_has q (p ∷ ps) =
    ap (λ b. same_prefix q p || b) (filtered_has q (p ∷ []) (once ps)) ∙ first_or_later (same_prefix q p) (has_prefix q (once ps)) ∙ ap (λ b. same_prefix q p || b) (once_has q ps)
