-- What the sender's import list makes of a route, as a number: it is the same for all receivers, and stands beside the route.
use Rattle.std.specs.Prelude.{ℕ, ◌+◌, ◌-◌, ◌*◌, ◌/◌, ◌%◌, ◌≤◌, ◌==◌, Bool, false, not, ◌&&◌, List, [], length, slice_get, slice_index_or, Option, Some, None, is_some, if◌then◌else◌}
use Rattle.std.specs.List.{All}
use Rattle.rs_octets.specs.Prefixes.{Prefix}
use Rattle.rs_attrs.specs.Meaning.{Attribute}
use Rattle.rs_policy.specs.Configuration.{SharedRules, Configuration, no_shared, policy_of, stated_of}
use Rattle.rs_policy.specs.Reasons.{decider}
use Rattle.rs_policy.specs.Sound.{IsSound}
use Rattle.rs_policy.specs.Verdicts.{Passing, announced_route, outcome, AsksNoReceiver}
use Rattle.rs_policy.specs.declared.rules.Rule.{Rule}
use Rattle.rs_policy.specs.declared.rules.Item.{Item}
use Rattle.rs_policy.specs.declared.rules.Item.TheVariants.{Own, Use}
use Rattle.rs_policy.specs.declared.rules.reasons.Decider.{Decider}
use Rattle.rs_policy.specs.declared.rules.reasons.Decider.TheVariants as D

abbrev pub plainly : Passing
plainly = record { preference = None; communities = []; all_communities = false; large = []; all_large = false }

-- no preference is given, and no community taken away
abbrev pub is_plain : Passing → Bool
is_plain p =
    not (is_some p.preference)
    && (not p.all_communities
    && (not p.all_large
    && (length p.communities == 0
    && length p.large == 0)))

-- what the import list makes of a route on its way to a client
abbrev pub import_outcome : Configuration → ℕ → ℕ → Prefix → List Attribute → Option Passing
import_outcome s from to p m = outcome s.top.default s.lists (policy_of s from).import (announced_route s from to p m)

-- where in a list the rule stands that decided, or the use of it, from 1
abbrev pub place_of : Decider → ℕ
place_of D.Default = 0
place_of (D.Own place) = place
place_of (D.Used place number rule) = place

-- and where among the rules that are used there, from 1; 0 where the rule is the list's own
abbrev pub rule_of : Decider → ℕ
rule_of D.Default = 0
rule_of (D.Own place) = 0
rule_of (D.Used place number rule) = rule

-- 0: the route is dropped; 1: it is passed plainly; above: the rule that decided, both of whose places are at most 64
abbrev pub note_by : Option Passing → Decider → ℕ
note_by None d = 0
note_by (Some p) d = if is_plain p then 1 else place_of d * 128 + rule_of d + 2

-- no receiver is asked for, so any can stand there: the sender itself does
unfoldable pub note_of_import : Configuration → ℕ → Prefix → List Attribute → ℕ
note_of_import s from p m =
    let r = announced_route s from from p m in
    note_by (outcome s.top.default s.lists (policy_of s from).import r) (decider s.lists s.shared (stated_of s from).import r)

-- the rule that is meant

abbrev pub rule_there : List SharedRules → ℕ → Option Item → Option Rule
rule_there shared rule None = None
rule_there shared rule (Some (Own r)) = Some r
rule_there shared rule (Some (Use n)) = slice_get (slice_index_or shared n no_shared).rules (rule - 1)

abbrev pub rule_noted : List SharedRules → List Item → ℕ → Option Rule
rule_noted shared items note = rule_there shared ((note - 2) % 128) (slice_get items ((note - 2) / 128 - 1))

-- what a configuration that was read from a text keeps
pub record IsRead (s : Configuration) : Type 0 where
  pub sound : IsSound s
  pub imports : AsksNoReceiver s
  pub few : All (λ p. length p.import ≤ 64) s.policies
  pub few_used : All (λ r. length r.rules ≤ 64) s.shared
