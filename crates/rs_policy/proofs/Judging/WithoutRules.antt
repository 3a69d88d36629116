-- Where neither list has a rule, what becomes of a route is the default's; and the same becomes of it for two whose lists are alike.
use Rattle.std.proofs.Common.{◌≡◌, ◌∙◌, ℕ, ◌<◌, false, Some, List, [], length, find, sym, ap, refl}
use Rattle.rs_octets.specs.Prefixes.{Prefix}
use Rattle.rs_attrs.specs.Meaning.{Attribute}
use Rattle.rs_policy.specs.Configuration.{NamedList, Configuration, client_of, policy_of}
use Rattle.rs_policy.specs.Documents.{rules_name_peer}
use Rattle.rs_policy.proofs.Accepted.Imports.{found_alike, sent_to}
use Rattle.rs_policy.specs.Verdicts.{AnnouncedRoute, AsksNoReceiver, announced_route, joined, matches, outcome, passing_by, passing_by_default, verdict}
use Rattle.rs_policy.specs.Noted.{import_outcome, plainly}
use Rattle.rs_policy.specs.declared.rules.Disposition.{Disposition}
use Rattle.rs_policy.specs.declared.rules.Disposition.TheVariants as D
use Rattle.rs_policy.specs.declared.rules.Rule.{Rule}

nothing_matches : (default : Disposition) (lists : List NamedList) (rules : List Rule) (r : AnnouncedRoute) → rules ≡ [] → outcome default lists rules r ≡ passing_by_default default
unfolding outcome
nothing_matches default lists rules r e = ap (λ x. passing_by default (find (λ rule. matches lists rule r) x)) e

pub default_decides : (s : Configuration) (from to : ℕ) (p : Prefix) (m : List Attribute) → (policy_of s from).import ≡ [] → (policy_of s to).export ≡ []
    → joined (passing_by_default s.top.default) (passing_by_default s.top.default) ≡ verdict s from to p m
unfolding verdict
default_decides s from to p m no_import no_export =
    let r : AnnouncedRoute = announced_route s from to p m in
    λ i. joined (sym (nothing_matches s.top.default s.lists (policy_of s from).import r no_import) i) (sym (nothing_matches s.top.default s.lists (policy_of s to).export r no_export) i)

by_default : (default : Disposition) → joined (passing_by_default default) (passing_by_default default) ≡ joined (Some plainly) (passing_by_default default)
by_default D.Drop = refl
by_default D.Pass = refl

pub plainly_through : (s : Configuration) (from to : ℕ) (p : Prefix) (m : List Attribute) → Some plainly ≡ import_outcome s from to p m → (policy_of s to).export ≡ []
    → joined (passing_by_default s.top.default) (passing_by_default s.top.default) ≡ verdict s from to p m
unfolding verdict
plainly_through s from to p m is no_export =
    by_default s.top.default
    ∙ λ i. joined (is i) (sym (nothing_matches s.top.default s.lists (policy_of s to).export (announced_route s from to p m) no_export) i)

-- where both receivers have the same export rules, which don't ask who the receiver is, the same becomes of a route for both
pub with_same_exports : (s : Configuration) (one other : ℕ) → AsksNoReceiver s → (policy_of s one).export ≡ (policy_of s other).export → rules_name_peer (policy_of s one).export ≡ false
    → (from : ℕ) (p : Prefix) (m : List Attribute) → from < length s.clients → verdict s from one p m ≡ verdict s from other p m
unfolding verdict outcome
with_same_exports s one other asks same none from p m known =
    let r : AnnouncedRoute = announced_route s from one p m in
    let n : ℕ = (client_of s other).client_as in
    λ i. joined (asks from one other p m known i)
    (passing_by s.top.default ((found_alike s.lists (policy_of s one).export r n none ∙ ap (λ rules. find (λ rule. matches s.lists rule (sent_to r n)) rules) same) i))
