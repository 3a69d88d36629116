-- What the note of a route says of its import list.
use Rattle.std.proofs.Common.{◌≡◌, ◌+◌, ◌*◌, ◌==◌, ℕ, Bool, true, false, not, Option, Some, None, refl, arith}
use Rattle.std.specs.Prelude.{is_some, if◌then◌else◌, List}
use Rattle.std.proofs.lemmas.Bool.Decides.{nat_tests}
use Rattle.std.proofs.lemmas.Grind.{common_steps}
use Rattle.rs_octets.specs.Prefixes.{Prefix}
use Rattle.rs_attrs.specs.Meaning.{Attribute}
use Rattle.rs_policy.specs.Configuration.{Configuration, policy_of, stated_of}
use Rattle.rs_policy.specs.Noted.{import_outcome, is_plain, note_by, note_of_import, place_of, rule_of}
use Rattle.rs_policy.specs.Reasons.{decider}
use Rattle.rs_policy.specs.Verdicts.{Passing, announced_route, outcome}
use Rattle.rs_policy.specs.declared.rules.reasons.Decider.{Decider}

above_two : (a b : ℕ) → (a * 128 + b + 2 == 0) ≡ false
above_two a b = grind (arith, nat_tests, common_steps)

by_note : (o : Option Passing) (d : Decider) → not (note_by o d == 0) ≡ is_some o
by_note None d = refl
by_note (Some passing) d = one (is_plain passing)
  where
    one : (b : Bool) → not ((if b then 1 else place_of d * 128 + rule_of d + 2) == 0) ≡ true
    one true = refl
    one false = rw above_two refl

-- it is not 0 exactly where the list passes the route
pub passed_by_note : (s : Configuration) (from : ℕ) (p : Prefix) (m : List Attribute) → not (note_of_import s from p m == 0) ≡ is_some (import_outcome s from from p m)
unfolding note_of_import
passed_by_note s from p m =
    let r = announced_route s from from p m in
    by_note (outcome s.top.default s.lists (policy_of s from).import r) (decider s.lists s.shared (stated_of s from).import r)
