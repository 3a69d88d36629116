-- What is told of each list that decides on a route.
use Rattle.std.specs.Prelude.{ℕ, Bool, true, false, List, Option, option_map, is_some}
use Rattle.rs_octets.specs.Prefixes.{Prefix}
use Rattle.rs_attrs.specs.Meaning.{Attribute}
use Rattle.rs_policy.specs.Configuration.{Configuration, client_of, shared_at}
use Rattle.rs_policy.specs.Verdicts.{Judgement, dropped, passed, verdict}
use Rattle.rs_policy.specs.Reasons.{reasons}
use Rattle.rs_policy.specs.declared.faults.List.{List as RuleList}
use Rattle.rs_policy.specs.declared.faults.List.TheVariants.{Import, Export}
use Rattle.rs_policy.specs.declared.rules.reasons.Decider.{Decider}
use Rattle.rs_policy.specs.declared.rules.reasons.Decider.TheVariants as D
use Rattle.rs_reasons.specs.declared.reason.Cause.{Cause}
use Rattle.rs_reasons.specs.declared.reason.Cause.TheVariants as C
use Rattle.rs_reasons.specs.declared.reason.Reason.{Reason}

-- what decided in a list: the default, a rule of its own, or a rule of those of a name that it uses
pub data Told : Type 0 where
  by_default : Told
  by_own : (place : ℕ) → Told
  by_used : (place : ℕ) (name : List ℕ) (rule : ℕ) → Told

abbrev pub cause_of : Configuration → Decider → Told
cause_of s D.Default = by_default
cause_of s (D.Own place) = by_own place
cause_of s (D.Used place rules rule) = by_used place (shared_at s rules).name rule

-- whose list it is, by its name, what decided there, and whether the list passes the route
pub record Account : Type 0 where
  pub list : RuleList
  pub client : List ℕ
  pub cause : Told
  pub passes : Bool

abbrev pub account : Configuration → RuleList → ℕ → Decider → Bool → Account
account s list c decider passes = record { list = list; client = (client_of s c).name; cause = cause_of s decider; passes = passes }

abbrev pub is_passed : Judgement → Bool
is_passed dropped = false
is_passed (passed n t) = true

-- the import list passes the route where the export list is asked
abbrev pub import_account : Configuration → ℕ → ℕ → Prefix → List Attribute → Account
import_account s from to p m = let r = reasons s from to p m in account s Import from r.import (is_some r.export)

abbrev pub export_account : Configuration → ℕ → ℕ → Prefix → List Attribute → Option Account
export_account s from to p m = option_map (λ d. account s Export to d (is_passed (verdict s from to p m))) (reasons s from to p m).export

-- what a reason says

abbrev pub cause_said : Cause → Told
cause_said C.Default = by_default
cause_said (C.Own place) = by_own place
cause_said (C.Used place name rule) = by_used place name.now rule

abbrev pub said : Reason → Account
said r = record { list = r.list; client = r.client.now; cause = cause_said r.cause; passes = r.passes }
