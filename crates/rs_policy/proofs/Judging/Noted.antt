-- A note says what the import list makes of a route on its way to any client.
use Rattle.std.proofs.Common.{◌≡◌, ◌≢◌, ℕ, zero, suc, ◌+◌, ◌-◌, ◌*◌, ◌/◌, ◌%◌, ◌<◌, ◌≤◌, ◌==◌, Bool, true, false, List, [], ◌∷◌, length, find, Option, Some, None, is_some, option_map, refl, sym, ap, ◌∙◌, arith, if◌then◌else◌}
use Rattle.std.specs.Prelude.{not, ◌&&◌, unwrap_or, slice_get, slice_index_or}
use Rattle.std.specs.List.{AllByRecursion}
use Rattle.std.proofs.lemmas.Bool.{and_parts}
use Rattle.std.proofs.lemmas.List.Elements.{recursion_from_All}
use Rattle.std.proofs.lemmas.Nat.{div-mul-add, mod-mul-add}
use Rattle.rs_octets.specs.Prefixes.{Prefix}
use Rattle.rs_attrs.specs.Meaning.{Attribute}
use Rattle.rs_policy.specs.Configuration.{SharedRules, Configuration, no_shared, no_policy, policy_of, stated_of}
use Rattle.rs_policy.specs.Noted.{plainly, is_plain, import_outcome, place_of, rule_of, note_by, note_of_import, rule_there, rule_noted, IsRead}
use Rattle.rs_policy.specs.Reasons.{decider, own_rule, used_rule, rule_at}
use Rattle.rs_policy.specs.Verdicts.{Passing, dropped, joined, passing, passing_by, announced_route, matches, outcome, verdict}
use Rattle.rs_policy.specs.declared.rules.Action.{Action}
use Rattle.rs_policy.specs.declared.rules.Disposition.{Disposition}
use Rattle.rs_policy.specs.declared.rules.Disposition.TheVariants as P
use Rattle.rs_policy.specs.declared.rules.Rule.{Rule}
use Rattle.rs_policy.specs.declared.rules.Item.{Item}
use Rattle.rs_policy.specs.declared.rules.Item.TheVariants.{Own, Use}
use Rattle.rs_policy.specs.declared.rules.reasons.Decider.{Decider}
use Rattle.rs_policy.specs.declared.rules.reasons.Decider.TheVariants as D
use Rattle.rs_policy.proofs.Judging.Placed.{decider_decides}

-- ---- a plain passing

is_nothing : {A : Type 0} (o : Option A) → not (is_some o) ≡ true → o ≡ None
is_nothing None e = refl
is_nothing (Some a) e = cc

is_empty : {A : Type 0} (xs : List A) → (length xs == 0) ≡ true → xs ≡ []
is_empty [] e = refl
is_empty (x ∷ xs) e = grind arith

is_false : (b : Bool) → not b ≡ true → b ≡ false
is_false false e = refl
is_false true e = cc

plain_is : (p : Passing) → is_plain p ≡ true → plainly ≡ p
plain_is p e =
    let preference = and_parts (not (is_some p.preference)) (not p.all_communities && (not p.all_large && (length p.communities == 0 && length p.large == 0))) e in
    let all = and_parts (not p.all_communities) (not p.all_large && (length p.communities == 0 && length p.large == 0)) preference.1 in
    let all_large = and_parts (not p.all_large) (length p.communities == 0 && length p.large == 0) all.1 in
    let lists = and_parts (length p.communities == 0) (length p.large == 0) all_large.1 in
    λ i. record {
      preference = sym (is_nothing p.preference preference.0) i;
      communities = sym (is_empty p.communities lists.0) i;
      all_communities = sym (is_false p.all_communities all.0) i;
      large = sym (is_empty p.large lists.1) i;
      all_large = sym (is_false p.all_large all_large.0) i;
    }

-- ---- the rule that stands where the decider says

within : {A : Type 0} (xs : List A) (k : ℕ) (x : A) → slice_get xs k ≡ Some x → k < length xs
within [] k x e = absurd (cc e)
within (y ∷ xs) zero x e = omega arith
within (y ∷ xs) (suc k) x e = let h : k < length xs = within xs k x e in omega arith

if_there : (b : Bool) (o : Option Rule) (rule : Rule) → (if b then o else None) ≡ Some rule → o ≡ Some rule
if_there true o rule e = e
if_there false o rule e = cc e

abbrev StandsThere : List SharedRules → ℕ → Option Item → Rule → Type 0
StandsThere shared n o rule = (item : Item) × ((o ≡ Some item) × (rule_there shared n (Some item) ≡ Some rule))

own_there : (shared : List SharedRules) (o : Option Item) (rule : Rule) → own_rule o ≡ Some rule → StandsThere shared 0 o rule
own_there shared None rule e = absurd (cc e)
own_there shared (Some (Own r)) rule e = (Own r, (refl, e))
own_there shared (Some (Use k)) rule e = absurd (cc e)

used_there : (shared : List SharedRules) (number n : ℕ) (o : Option Item) (rule : Rule) → used_rule shared number n o ≡ Some rule → StandsThere shared n o rule
used_there shared number n None rule e = absurd (cc e)
used_there shared number n (Some (Own r)) rule e = absurd (cc e)
used_there shared number n (Some (Use k)) rule e = (Use k, (refl, if_there (number == k + 1) (slice_get (slice_index_or shared k no_shared).rules (n - 1)) rule e))

there : (shared : List SharedRules) (items : List Item) (d : Decider) (rule : Rule) → rule_at shared items d ≡ Some rule → StandsThere shared (rule_of d) (slice_get items (place_of d - 1)) rule
there shared items D.Default rule e = absurd (cc e)
there shared items (D.Own place) rule e = own_there shared (slice_get items (place - 1)) rule e
there shared items (D.Used place number n) rule e = used_there shared number n (slice_get items (place - 1)) rule e

few_used_at : (shared : List SharedRules) → AllByRecursion (λ r. length r.rules ≤ 64) shared → (n : ℕ) → length (slice_index_or shared n no_shared).rules ≤ 64
few_used_at [] all n = omega arith
few_used_at (s ∷ shared) all zero = all.0
few_used_at (s ∷ shared) all (suc n) = few_used_at shared all.1 n

used_few : (shared : List SharedRules) (number n : ℕ) (o : Option Item) (rule : Rule) → AllByRecursion (λ r. length r.rules ≤ 64) shared → used_rule shared number n o ≡ Some rule → n ≤ 64
used_few shared number n None rule all e = absurd (cc e)
used_few shared number n (Some (Own r)) rule all e = absurd (cc e)
used_few shared number n (Some (Use k)) rule all e =
    let rules : List Rule = (slice_index_or shared k no_shared).rules in
    let below : n - 1 < length rules = within rules (n - 1) rule (if_there (number == k + 1) (slice_get rules (n - 1)) rule e) in
    let few : length rules ≤ 64 = few_used_at shared all k in
    omega arith

rule_few : (shared : List SharedRules) (items : List Item) (d : Decider) (rule : Rule) → AllByRecursion (λ r. length r.rules ≤ 64) shared → rule_at shared items d ≡ Some rule → rule_of d ≤ 64
rule_few shared items D.Default rule all e = omega arith
rule_few shared items (D.Own place) rule all e = omega arith
rule_few shared items (D.Used place number n) rule all e = used_few shared number n (slice_get items (place - 1)) rule all e

place_few : (shared : List SharedRules) (items : List Item) (d : Decider) (rule : Rule) → length items ≤ 64 → rule_at shared items d ≡ Some rule → place_of d ≤ 64
place_few shared items d rule few e =
    let h = there shared items d rule e in
    let below : place_of d - 1 < length items = within items (place_of d - 1) h.0 h.1.0 in
    omega arith

noted_rule : (shared : List SharedRules) (items : List Item) (d : Decider) (rule : Rule) → rule_of d ≤ 64 → rule_at shared items d ≡ Some rule
    → rule_noted shared items (place_of d * 128 + rule_of d + 2) ≡ Some rule
noted_rule shared items d rule few e =
    let h = there shared items d rule e in
    let small : rule_of d < 128 = omega arith in
    let number : place_of d * 128 + rule_of d + 2 - 2 ≡ place_of d * 128 + rule_of d = omega arith in
    let place : (place_of d * 128 + rule_of d + 2 - 2) / 128 ≡ place_of d = ap (λ k. k / 128) number ∙ div-mul-add (place_of d) 128 (rule_of d) small in
    let rest : (place_of d * 128 + rule_of d + 2 - 2) % 128 ≡ rule_of d = ap (λ k. k % 128) number ∙ mod-mul-add (place_of d) 128 (rule_of d) small in
    (λ i. rule_there shared (rest i) (slice_get items (place i - 1))) ∙ (ap (rule_there shared (rule_of d)) h.1.0 ∙ h.1.1)

-- ---- what decided

found_some : (default : Disposition) (o : Option Rule) (q : Passing) → passing_by default o ≡ Some q → is_plain q ≡ false → (rule : Rule) × ((o ≡ Some rule) × (passing rule.action ≡ Some q))
found_some P.Drop None q e other = absurd (cc e)
found_some P.Pass None q e other = let f : true ≡ false = ap (λ o. is_plain (unwrap_or o q)) e ∙ other in absurd (cc f)
found_some default (Some rule) q e other = (rule, (refl, e))

abbrev import_decider : Configuration → ℕ → Prefix → List Attribute → Decider
import_decider s from p m = decider s.lists s.shared (stated_of s from).import (announced_route s from from p m)

abbrev Decides : Configuration → ℕ → Prefix → List Attribute → Passing → Type 0
Decides s from p m q = (rule : Rule) × ((rule_at s.shared (stated_of s from).import (import_decider s from p m) ≡ Some rule) × (passing rule.action ≡ Some q))

decides : (s : Configuration) (from : ℕ) (p : Prefix) (m : List Attribute) (q : Passing) → import_outcome s from from p m ≡ Some q → is_plain q ≡ false → Decides s from p m q
unfolding outcome
decides s from p m q e other =
    let r = announced_route s from from p m in
    let found = found_some s.top.default (find (λ rule. matches s.lists rule r) (policy_of s from).import) q e other in
    (found.0, (decider_decides s.lists s.shared (stated_of s from).import r ∙ found.1.0, found.1.1))

few_stated : (s : Configuration) (from : ℕ) → IsRead s → from < length s.clients → length (stated_of s from).import ≤ 64
few_stated s from read known =
    let count : length s.policies ≡ length s.clients = read.sound.policies in
    read.few from no_policy (omega arith)

-- a rule that decides has a note
pub decider_small : (s : Configuration) (from : ℕ) (p : Prefix) (m : List Attribute) (q : Passing) → IsRead s → from < length s.clients → import_outcome s from from p m ≡ Some q → is_plain q ≡ false
    → (place_of (import_decider s from p m) ≤ 64) × (rule_of (import_decider s from p m) ≤ 64)
decider_small s from p m q read known e other =
    let h = decides s from p m q e other in
    let items = (stated_of s from).import in (
      place_few s.shared items (import_decider s from p m) h.0 (few_stated s from read known) h.1.0,
      rule_few s.shared items (import_decider s from p m) h.0 (recursion_from_All (λ r. length r.rules ≤ 64) s.shared read.few_used) h.1.0,
    )

-- ---- what a note says

noted_0 : (o : Option Passing) (d : Decider) → 0 ≡ note_by o d → None ≡ o
noted_0 None d e = refl
noted_0 (Some p) d e = grind arith

plain_by : (p : Passing) (d : Decider) (b : Bool) → is_plain p ≡ b → ◌≡◌ {A = ℕ} 1 (if b then 1 else place_of d * 128 + rule_of d + 2) → Some plainly ≡ Some p
plain_by p d true is e = ap Some (plain_is p is)
plain_by p d false is e = absurd (omega (arith, e))

noted_1 : (o : Option Passing) (d : Decider) → 1 ≡ note_by o d → Some plainly ≡ o
noted_1 None d e = absurd (omega (arith, e))
noted_1 (Some p) d e = plain_by p d (is_plain p) refl e

abbrev SaysRule : Option Passing → Decider → ℕ → Type 0
SaysRule o d n = (q : Passing) × ((o ≡ Some q) × ((is_plain q ≡ false) × (n ≡ place_of d * 128 + rule_of d + 2)))

rule_by : (q : Passing) (d : Decider) (n : ℕ) (b : Bool) → is_plain q ≡ b → n ≡ (if b then 1 else place_of d * 128 + rule_of d + 2) → n ≢ 1 → SaysRule (Some q) d n
rule_by q d n true is e not_1 = absurd (not_1 e)
rule_by q d n false is e not_1 = (q, (refl, (is, e)))

noted_2 : (o : Option Passing) (d : Decider) (n : ℕ) → n ≡ note_by o d → n ≢ 0 → n ≢ 1 → SaysRule o d n
noted_2 None d n e not_0 not_1 = absurd (not_0 e)
noted_2 (Some q) d n e not_0 not_1 = rule_by q d n (is_plain q) refl e not_1

pub none_noted : (s : Configuration) (from to : ℕ) (p : Prefix) (m : List Attribute) → IsRead s → from < length s.clients → 0 ≡ note_of_import s from p m → None ≡ import_outcome s from to p m
unfolding note_of_import
none_noted s from to p m read known e = noted_0 (import_outcome s from from p m) (import_decider s from p m) e ∙ read.imports from from to p m known

pub plain_noted : (s : Configuration) (from to : ℕ) (p : Prefix) (m : List Attribute) → IsRead s → from < length s.clients → 1 ≡ note_of_import s from p m → Some plainly ≡ import_outcome s from to p m
unfolding note_of_import
plain_noted s from to p m read known e = noted_1 (import_outcome s from from p m) (import_decider s from p m) e ∙ read.imports from from to p m known

pub rule_is_noted : (s : Configuration) (from to : ℕ) (p : Prefix) (m : List Attribute) (n : ℕ) → IsRead s → from < length s.clients → n ≡ note_of_import s from p m → n ≢ 0 → n ≢ 1
    → (rule : Rule) × ((rule_noted s.shared (stated_of s from).import n ≡ Some rule) × (passing rule.action ≡ import_outcome s from to p m))
unfolding note_of_import
rule_is_noted s from to p m n read known e not_0 not_1 =
    let d = import_decider s from p m in
    let items = (stated_of s from).import in
    let h = noted_2 (import_outcome s from from p m) d n e not_0 not_1 in
    let k = decides s from p m h.0 h.1.0 h.1.1.0 in
    let few : rule_of d ≤ 64 = rule_few s.shared items d k.0 (recursion_from_All (λ r. length r.rules ≤ 64) s.shared read.few_used) k.1.0 in
    (k.0, (ap (rule_noted s.shared items) h.1.1.1 ∙ noted_rule s.shared items d k.0 few k.1.0, k.1.1 ∙ (sym h.1.0 ∙ read.imports from from to p m known)))

-- what the rule does is found
pub acts_alike : (o : Option Rule) (rule : Rule) (a : Action) → Some a ≡ option_map (λ rule. rule.action) o → o ≡ Some rule → passing a ≡ passing rule.action
acts_alike o rule a e f = ap (λ x. passing (unwrap_or x a)) (e ∙ ap (option_map (λ (rule : Rule). rule.action)) f)

pub none_acts : (o : Option Rule) (rule : Rule) → None ≡ option_map (λ rule. rule.action) o → o ≡ Some rule → false ≡ true
none_acts o rule e f = ap is_some (e ∙ ap (option_map (λ (rule : Rule). rule.action)) f)

-- the import list drops it
pub drops : (s : Configuration) (from to : ℕ) (p : Prefix) (m : List Attribute) → None ≡ import_outcome s from to p m → dropped ≡ verdict s from to p m
unfolding verdict
drops s from to p m e = ap (λ o. joined o (outcome s.top.default s.lists (policy_of s to).export (announced_route s from to p m))) e
