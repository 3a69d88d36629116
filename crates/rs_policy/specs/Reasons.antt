-- Which rule of a list decides on a route, and where it stands. All places are counted from 1.
use Rattle.std.specs.Prelude.{◌≡◌, ℕ, ◌+◌, ◌-◌, ◌==◌, List, [], ◌∷◌, ◌++◌, slice_get, slice_index_or, find, Option, Some, None, is_some, if◌then◌else◌}
use Rattle.rs_octets.specs.Prefixes.{Prefix}
use Rattle.rs_attrs.specs.Meaning.{Attribute}
use Rattle.rs_policy.specs.Configuration.{NamedList, SharedRules, Configuration, no_shared, stated_of, policy_of, written_out}
use Rattle.rs_policy.specs.Verdicts.{AnnouncedRoute, announced_route, matches, outcome}
use Rattle.rs_policy.specs.declared.rules.Rule.{Rule}
use Rattle.rs_policy.specs.declared.rules.Item.{Item}
use Rattle.rs_policy.specs.declared.rules.Item.TheVariants.{Own, Use}
use Rattle.rs_policy.specs.declared.rules.reasons.Decider.{Decider}
use Rattle.rs_policy.specs.declared.rules.reasons.Decider.TheVariants as D
use Rattle.rs_policy.specs.declared.rules.reasons.Reasons.{Reasons}

-- a rule of a list that is written out, and where it stands
pub record Placed : Type 0 where
  pub at : Decider
  pub rule : Rule

-- rules that are used at a place of a list, from one on
abbrev pub used_from : ℕ → ℕ → ℕ → List Rule → List Placed
used_from place number n [] = []
used_from place number n (rule ∷ rules) = record { at = D.Used place number n; rule = rule } ∷ used_from place number (n + 1) rules

-- the rules that stand at a place of a list
abbrev pub placed_in : List SharedRules → ℕ → Item → List Placed
placed_in shared place (Own rule) = record { at = D.Own place; rule = rule } ∷ []
placed_in shared place (Use n) = used_from place (n + 1) 1 (slice_index_or shared n no_shared).rules

-- a list written out, from a place on
abbrev pub placed_from : List SharedRules → ℕ → List Item → List Placed
placed_from shared place [] = []
placed_from shared place (item ∷ items) = placed_in shared place item ++ placed_from shared (place + 1) items

abbrev pub at_of : Option Placed → Decider
at_of None = D.Default
at_of (Some p) = p.at

-- the first rule that matches, of the list written out
unfoldable pub decider : List NamedList → List SharedRules → List Item → AnnouncedRoute → Decider
decider lists shared items r = at_of (find (λ p. matches lists p.rule r) (placed_from shared 1 items))

-- of both lists: of the receiver's export list where the sender's import list passes the route
unfoldable pub reasons : Configuration → ℕ → ℕ → Prefix → List Attribute → Reasons
reasons s from to p m =
    let r = announced_route s from to p m in
    record {
      import = decider s.lists s.shared (stated_of s from).import r;
      export = if is_some (outcome s.top.default s.lists (policy_of s from).import r) then Some (decider s.lists s.shared (stated_of s to).export r) else None;
    }

-- the rule at such a place of a list

abbrev pub own_rule : Option Item → Option Rule
own_rule None = None
own_rule (Some (Own rule)) = Some rule
own_rule (Some (Use n)) = None

abbrev pub used_rule : List SharedRules → ℕ → ℕ → Option Item → Option Rule
used_rule shared number rule None = None
used_rule shared number rule (Some (Own r)) = None
used_rule shared number rule (Some (Use n)) = if number == n + 1 then slice_get (slice_index_or shared n no_shared).rules (rule - 1) else None

abbrev pub rule_at : List SharedRules → List Item → Decider → Option Rule
rule_at shared items D.Default = None
rule_at shared items (D.Own place) = own_rule (slice_get items (place - 1))
rule_at shared items (D.Used place number rule) = used_rule shared number rule (slice_get items (place - 1))

-- where the decider says, there stands the rule by which the list's verdict is defined; and none where none matches
abbrev pub DeciderDecides : Type 0
DeciderDecides =
    (lists : List NamedList) (shared : List SharedRules) (items : List Item) (r : AnnouncedRoute)
    → rule_at shared items (decider lists shared items r) ≡ find (λ rule. matches lists rule r) (written_out shared items)
