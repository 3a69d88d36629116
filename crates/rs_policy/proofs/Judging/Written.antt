-- Lists with the rules that they use written out.
use Rattle.std.proofs.Common.{◌≡◌, ℕ, ◌+◌, ◌<◌, ◌≤◌, Bool, List, ◌∷◌, ◌++◌, length, drop, get_or, find, Option, Some, None, option_map, refl, sym, ap, ◌∙◌}
use Rattle.std.specs.Option.{option_or}
use Rattle.std.proofs.lemmas.List.{drop_more, drop_all}
use Rattle.std.proofs.lemmas.List.Folds.{find-append}
use Rattle.rs_policy.specs.Configuration.{SharedRules, rules_in, written_out}
use Rattle.rs_policy.specs.declared.rules.Action.{Action}
use Rattle.rs_policy.specs.declared.rules.Item.{Item}
use Rattle.rs_policy.specs.declared.rules.Rule.{Rule}

abbrev pub action_by : (Rule → Bool) → List Rule → Option Action
action_by test rules = option_map (λ rule. rule.action) (find test rules)

none_found : (o : Option Rule) → option_map (λ rule. rule.action) o ≡ None → o ≡ None
none_found None e = refl
none_found (Some rule) e = cc

-- what is left of a list from one place on
pub drop_here : {A : Type 0} (xs : List A) (i : ℕ) (x : A) → i < length xs → x ≡ get_or xs i x → drop i xs ≡ x ∷ drop (i + 1) xs
drop_here xs i x within is = drop_more xs i x within ∙ ap (λ y. y ∷ drop (i + 1) xs) (sym is)

-- the rules from one place on
written_next : (shared : List SharedRules) (items : List Item) (i : ℕ) (item : Item) → i < length items → item ≡ get_or items i item
    → written_out shared (drop i items) ≡ rules_in shared item ++ written_out shared (drop (i + 1) items)
written_next shared items i item within is =
    ap (written_out shared) (drop_here items i item within is)

-- none there matches
pub none_there : (test : Rule → Bool) (shared : List SharedRules) (items : List Item) (i : ℕ) (item : Item) → i < length items → item ≡ get_or items i item
    → action_by test (rules_in shared item) ≡ None
    → find test (written_out shared (drop i items)) ≡ find test (written_out shared (drop (i + 1) items))
none_there test shared items i item within is none =
    ap (find test) (written_next shared items i item within is)
    ∙ (find-append test (rules_in shared item) (written_out shared (drop (i + 1) items))
    ∙ rw (none_found (find test (rules_in shared item)) none) refl)

some_found : (o rest : Option Rule) (action : Action) → option_map (λ rule. rule.action) o ≡ Some action → option_map (λ rule. rule.action) (option_or o rest) ≡ Some action
some_found None rest action e = cc
some_found (Some rule) rest action e = e

-- one there matches
pub some_there : (test : Rule → Bool) (shared : List SharedRules) (items : List Item) (i : ℕ) (item : Item) (action : Action) → i < length items → item ≡ get_or items i item
    → action_by test (rules_in shared item) ≡ Some action
    → action_by test (written_out shared (drop i items)) ≡ Some action
some_there test shared items i item action within is some =
    ap (action_by test) (written_next shared items i item within is)
    ∙ (ap (option_map (λ rule. rule.action)) (find-append test (rules_in shared item) (written_out shared (drop (i + 1) items)))
    ∙ some_found (find test (rules_in shared item)) (find test (written_out shared (drop (i + 1) items))) action some)

pub none_left : (test : Rule → Bool) (shared : List SharedRules) (items : List Item) (i : ℕ) → length items ≤ i → find test (written_out shared (drop i items)) ≡ None
none_left test shared items i past = ap (λ x. find test (written_out shared x)) (drop_all i items past)
