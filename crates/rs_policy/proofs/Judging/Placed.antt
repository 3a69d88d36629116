-- Lists written out, each rule with its place.
use Rattle.std.proofs.Common.{◌≡◌, ℕ, ◌+◌, ◌-◌, ◌<◌, ◌≤◌, Bool, true, false, List, [], ◌∷◌, ◌++◌, map, length, length-append, drop, get_or, find, Option, Some, None, option_map, refl, sym, ap, ◌∙◌, arith, eq-eqb, slice_get, if◌then◌else◌}
use Rattle.std.specs.Prelude.{IfSome}
use Rattle.std.specs.List.{AllByRecursion}
use Rattle.std.specs.Option.{option_or}
use Rattle.std.proofs.lemmas.List.{drop_more, drop_all, map-append, append_assoc}
use Rattle.std.proofs.lemmas.List.Folds.{find-append}
use Rattle.rs_policy.specs.Configuration.{SharedRules, no_shared, rules_in, written_out}
use Rattle.rs_policy.specs.Verdicts.{matches}
use Rattle.rs_policy.specs.Reasons.{Placed, used_from, placed_in, placed_from, at_of, decider, own_rule, used_rule, rule_at, DeciderDecides}
use Rattle.rs_policy.specs.declared.rules.Rule.{Rule}
use Rattle.rs_policy.specs.declared.rules.Item.{Item}
use Rattle.rs_policy.specs.declared.rules.Item.TheVariants.{Own, Use}
use Rattle.rs_policy.specs.declared.rules.reasons.Decider.{Decider}
use Rattle.rs_policy.specs.declared.rules.reasons.Decider.TheVariants as D

abbrev pub found : (Rule → Bool) → List Placed → Option Placed
found test ps = find (λ p. test p.rule) ps

found_if : (test : Rule → Bool) (p : Placed) (ps : List Placed) (b : Bool) → test p.rule ≡ b → found test (p ∷ ps) ≡ (if b then Some p else found test ps)
found_if test p ps b e = ap (λ b. if b then Some p else found test ps) e

-- ---- the walk over the rules that are used at a place

used_next : (place number n : ℕ) (rules : List Rule) (i : ℕ) (rule : Rule) → i < length rules → rule ≡ get_or rules i rule
    → used_from place number n (drop i rules) ≡ record { at = D.Used place number n; rule = rule } ∷ used_from place number (n + 1) (drop (i + 1) rules)
used_next place number n rules i rule within is =
    ap (used_from place number n) (drop_more rules i rule within)
    ∙ ap (λ x. record { at = D.Used place number n; rule = x } ∷ used_from place number (n + 1) (drop (i + 1) rules)) (sym is)

pub used_here : (test : Rule → Bool) (place number n : ℕ) (rules : List Rule) (i : ℕ) (rule : Rule) → i < length rules → rule ≡ get_or rules i rule → test rule ≡ true
    → found test (used_from place number n (drop i rules)) ≡ Some (record { at = D.Used place number n; rule = rule })
used_here test place number n rules i rule within is e =
    ap (found test) (used_next place number n rules i rule within is)
    ∙ found_if test (record { at = D.Used place number n; rule = rule }) (used_from place number (n + 1) (drop (i + 1) rules)) true e

pub used_further : (test : Rule → Bool) (place number n : ℕ) (rules : List Rule) (i : ℕ) (rule : Rule) → i < length rules → rule ≡ get_or rules i rule → test rule ≡ false
    → found test (used_from place number n (drop i rules)) ≡ found test (used_from place number (n + 1) (drop (i + 1) rules))
used_further test place number n rules i rule within is e =
    ap (found test) (used_next place number n rules i rule within is)
    ∙ found_if test (record { at = D.Used place number n; rule = rule }) (used_from place number (n + 1) (drop (i + 1) rules)) false e

pub used_end : (test : Rule → Bool) (place number n : ℕ) (rules : List Rule) (i : ℕ) → length rules ≤ i → found test (used_from place number n (drop i rules)) ≡ None
used_end test place number n rules i past = ap (λ x. found test (used_from place number n x)) (drop_all i rules past)

-- ---- the walk over the places of a list

placed_next : (shared : List SharedRules) (n : ℕ) (items : List Item) (i : ℕ) (item : Item) → i < length items → item ≡ get_or items i item
    → placed_from shared n (drop i items) ≡ placed_in shared n item ++ placed_from shared (n + 1) (drop (i + 1) items)
placed_next shared n items i item within is =
    ap (placed_from shared n) (drop_more items i item within) ∙ ap (λ x. placed_in shared n x ++ placed_from shared (n + 1) (drop (i + 1) items)) (sym is)

found_next : (test : Rule → Bool) (shared : List SharedRules) (n : ℕ) (items : List Item) (i : ℕ) (item : Item) → i < length items → item ≡ get_or items i item
    → found test (placed_from shared n (drop i items)) ≡ option_or (found test (placed_in shared n item)) (found test (placed_from shared (n + 1) (drop (i + 1) items)))
found_next test shared n items i item within is =
    ap (found test) (placed_next shared n items i item within is)
    ∙ find-append (λ (p : Placed). test p.rule) (placed_in shared n item) (placed_from shared (n + 1) (drop (i + 1) items))

at_first : (o rest : Option Placed) (at : Decider) → Some at ≡ option_map (λ p. p.at) o → at_of (option_or o rest) ≡ at
at_first None rest at e = cc
at_first (Some p) rest at e = cc

none_first : (o rest : Option Placed) → None ≡ option_map (λ p. p.at) o → option_or o rest ≡ rest
none_first None rest e = refl
none_first (Some p) rest e = cc

pub placed_here : (test : Rule → Bool) (shared : List SharedRules) (n : ℕ) (items : List Item) (i : ℕ) (item : Item) (at : Decider) → i < length items → item ≡ get_or items i item
    → Some at ≡ option_map (λ p. p.at) (found test (placed_in shared n item)) → at_of (found test (placed_from shared n (drop i items))) ≡ at
placed_here test shared n items i item at within is e =
    ap at_of (found_next test shared n items i item within is)
    ∙ at_first (found test (placed_in shared n item)) (found test (placed_from shared (n + 1) (drop (i + 1) items))) at e

pub placed_further : (test : Rule → Bool) (shared : List SharedRules) (n : ℕ) (items : List Item) (i : ℕ) (item : Item) → i < length items → item ≡ get_or items i item
    → None ≡ option_map (λ p. p.at) (found test (placed_in shared n item)) → found test (placed_from shared n (drop i items)) ≡ found test (placed_from shared (n + 1) (drop (i + 1) items))
placed_further test shared n items i item within is e =
    found_next test shared n items i item within is
    ∙ none_first (found test (placed_in shared n item)) (found test (placed_from shared (n + 1) (drop (i + 1) items))) e

pub placed_end : (test : Rule → Bool) (shared : List SharedRules) (n : ℕ) (items : List Item) (i : ℕ) → length items ≤ i → found test (placed_from shared n (drop i items)) ≡ None
placed_end test shared n items i past = ap (λ x. found test (placed_from shared n x)) (drop_all i items past)

-- ---- the rules are those of the list

rule_if : (b : Bool) (p : Placed) (o : Option Placed) → option_map (λ p. p.rule) (if b then Some p else o) ≡ (if b then Some p.rule else option_map (λ p. p.rule) o)
rule_if true p o = refl
rule_if false p o = refl

rule_found : (test : Rule → Bool) (ps : List Placed) → option_map (λ p. p.rule) (found test ps) ≡ find test (map (λ p. p.rule) ps)
rule_found test [] = refl
rule_found test (p ∷ ps) = rule_if (test p.rule) p (found test ps) ∙ ap (λ o. if test p.rule then Some p.rule else o) (rule_found test ps)

used_rules : (place number n : ℕ) (rules : List Rule) → map (λ p. p.rule) (used_from place number n rules) ≡ rules
used_rules place number n [] = refl
used_rules place number n (rule ∷ rules) = ap (λ rest. rule ∷ rest) (used_rules place number (n + 1) rules)

rules_there : (shared : List SharedRules) (n : ℕ) (item : Item) → map (λ p. p.rule) (placed_in shared n item) ≡ rules_in shared item
rules_there shared n (Own rule) = refl
rules_there shared n (Use number) = used_rules n (number + 1) 1 (get_or shared number no_shared).rules

rules_placed : (shared : List SharedRules) (n : ℕ) (items : List Item) → map (λ p. p.rule) (placed_from shared n items) ≡ written_out shared items
rules_placed shared n [] = refl
rules_placed shared n (item ∷ items) =
    map-append (λ (p : Placed). p.rule) (placed_in shared n item) (placed_from shared (n + 1) items)
    ∙ (ap (λ rules. rules ++ map (λ p. p.rule) (placed_from shared (n + 1) items)) (rules_there shared n item)
    ∙ ap (λ rules. rules_in shared item ++ rules) (rules_placed shared (n + 1) items))

-- ---- each stands where its place says

seam : {A : Type 0} (front : List A) (x : A) (rest : List A) → slice_get (front ++ x ∷ rest) (length front) ≡ Some x
seam [] x rest = refl
seam (y ∷ front) x rest = seam front x rest

-- number i, from 0, which is at place i + 1
at_seam : {A : Type 0} (xs front : List A) (x : A) (rest : List A) (i : ℕ) → xs ≡ front ++ x ∷ rest → length front ≡ i → slice_get xs (i + 1 - 1) ≡ Some x
at_seam xs front x rest i parts count =
    ap (slice_get xs) (let e : i + 1 - 1 ≡ length front = omega (arith, count) in e) ∙ (ap (λ ys. slice_get ys (length front)) parts ∙ seam front x rest)

longer : {A : Type 0} (front : List A) (x : A) (i : ℕ) → length front ≡ i → length (front ++ x ∷ []) ≡ i + 1
longer front x i count = omega (arith, length-append front (x ∷ []), count)

abbrev IsRight : List SharedRules → List Item → Placed → Type 0
IsRight shared items p = rule_at shared items p.at ≡ Some p.rule

used_right : (shared : List SharedRules) (all : List Item) (i n : ℕ) (front rest : List Rule) (k : ℕ) → slice_get all (i + 1 - 1) ≡ Some (Use n)
    → (get_or shared n no_shared).rules ≡ front ++ rest → length front ≡ k → AllByRecursion (IsRight shared all) (used_from (i + 1) (n + 1) (k + 1) rest)
used_right shared all i n front [] k there parts count = tt
used_right shared all i n front (rule ∷ rest) k there parts count =
    let rules : List Rule = (get_or shared n no_shared).rules in (
      ap (used_rule shared (n + 1) (k + 1)) there
          ∙ (ap (λ b. if b then slice_get rules (k + 1 - 1) else None) (eq-eqb (n + 1) (n + 1) refl)
          ∙ at_seam rules front rule rest k parts count),
      used_right shared all i n (front ++ rule ∷ []) rest (k + 1) there (parts ∙ sym (append_assoc front (rule ∷ []) rest)) (longer front rule k count),
    )

right_there : (shared : List SharedRules) (all : List Item) (i : ℕ) (item : Item) → slice_get all (i + 1 - 1) ≡ Some item → AllByRecursion (IsRight shared all) (placed_in shared (i + 1) item)
right_there shared all i (Own rule) there = (ap own_rule there, tt)
right_there shared all i (Use n) there = used_right shared all i n [] (get_or shared n no_shared).rules 0 there refl refl

all_joined : {A : Type 0} (P : A → Type 0) (xs ys : List A) → AllByRecursion P xs → AllByRecursion P ys → AllByRecursion P (xs ++ ys)
all_joined P [] ys a b = b
all_joined P (x ∷ xs) ys a b = (a.0, all_joined P xs ys a.1 b)

placed_right : (shared : List SharedRules) (all front items : List Item) (i : ℕ) → all ≡ front ++ items → length front ≡ i → AllByRecursion (IsRight shared all) (placed_from shared (i + 1) items)
placed_right shared all front [] i parts count = tt
placed_right shared all front (item ∷ items) i parts count =
    all_joined (IsRight shared all) (placed_in shared (i + 1) item) (placed_from shared (i + 1 + 1) items)
    (right_there shared all i item (at_seam all front item items i parts count))
    (placed_right shared all (front ++ item ∷ []) items (i + 1) (parts ∙ sym (append_assoc front (item ∷ []) items)) (longer front item i count))

-- ---- the first that matches stands where the decider says

if_found : (P : Placed → Type 0) (b : Bool) (p : Placed) (o : Option Placed) → P p → IfSome o P → IfSome (if b then Some p else o) P
if_found P true p o h rest = h
if_found P false p o h rest = rest

of_found : (P : Placed → Type 0) (test : Rule → Bool) (ps : List Placed) → AllByRecursion P ps → IfSome (found test ps) P
of_found P test [] all = tt
of_found P test (p ∷ ps) all = if_found P (test p.rule) p (found test ps) all.0 (of_found P test ps all.1)

right_found : (shared : List SharedRules) (items : List Item) (o : Option Placed) → IfSome o (IsRight shared items) → rule_at shared items (at_of o) ≡ option_map (λ p. p.rule) o
right_found shared items None h = refl
right_found shared items (Some p) h = h

pub decider_decides : DeciderDecides
unfolding decider
decider_decides lists shared items r =
    let test : Rule → Bool = λ rule. matches lists rule r in
    right_found shared items (found test (placed_from shared 1 items))
    (of_found (IsRight shared items) test (placed_from shared 1 items) (placed_right shared items [] items 0 refl refl))
    ∙ (rule_found test (placed_from shared 1 items) ∙ ap (find test) (rules_placed shared 1 items))
