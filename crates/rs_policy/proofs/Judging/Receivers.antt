-- Where no community is as a test asks that names the receiver, the same becomes of a route for all receivers with the same rules.
use Rattle.std.proofs.Common.{◌≡◌, ◌∙◌, ℕ, Bool, true, false, ◌&&◌, ◌||◌, ◌/◌, ◌%◌, Option, Some, None, option_map, List, [], ◌∷◌, find, refl, sym, ap, if◌then◌else◌}
use Rattle.std.specs.Prelude.{unwrap_or}
use Rattle.std.specs.List.{list_any}
use Rattle.rs_attrs.specs.Getters.{communities_of, large_communities_of}
use Rattle.rs_attrs.specs.Meaning.{Attribute}
use Rattle.rs_attrs.specs.Patterns.{is_like, is_like_large, part_is}
use Rattle.rs_policy.specs.Alike.{ReceiversAreAlike}
use Rattle.rs_policy.specs.Asking.{asks_receiver}
use Rattle.rs_policy.specs.Configuration.{NamedList, Configuration, client_of, policy_of}
use Rattle.rs_policy.specs.Patterns.{large_names_peer, large_pattern_for, large_pattern_for_any, names_peer, number_for, number_for_any, pattern_for, pattern_for_any}
use Rattle.rs_policy.specs.Verdicts.{AnnouncedRoute, AsksNoReceiver, announced_route, has_community, has_large_community, joined, matches, outcome, passing_by, verdict}
use Rattle.rs_policy.specs.declared.rules.CommunityTest.{CommunityTest}
use Rattle.rs_policy.specs.declared.rules.LargeCommunityTest.{LargeCommunityTest}
use Rattle.rs_policy.specs.declared.rules.Part.{Part}
use Rattle.rs_policy.specs.declared.rules.Part.TheVariants.{Number, Any, Peer}
use Rattle.rs_policy.specs.declared.rules.Rule.{Rule}
use Rattle.rs_policy.proofs.Accepted.Imports.{IsAskedAlike, large_pattern_alike, matches_asked, pattern_alike, sent_to}

neither : (a b : Bool) → (a || b) ≡ false → (a ≡ false) × (b ≡ false)
neither true b e = absurd (cc e)
neither false b e = (refl, e)

-- what is asked of some receiver is wider than what is asked of one
abbrev Wider : Bool → Bool → Type 0
Wider a b = b ≡ false → a ≡ false

both_wider : (a b c d : Bool) → Wider a c → Wider b d → Wider (a && b) (c && d)
both_wider false b c d first second none = refl
both_wider true b false d first second none = absurd (let e = first refl in cc e)
both_wider true b true d first second none = second none

part_wider : (p : Part) (n x : ℕ) → Wider (part_is (number_for n p) x) (part_is (number_for_any p) x)
part_wider (Number k) n x none = none
part_wider Any n x none = none
part_wider Peer n x none = absurd (cc none)

like_wider : (t : CommunityTest) (n c : ℕ) → Wider (is_like (pattern_for n t) c) (is_like (pattern_for_any t) c)
like_wider t n c =
    both_wider (part_is (number_for n t.high) (c / 65536)) (part_is (number_for n t.low) (c % 65536)) (part_is (number_for_any t.high) (c / 65536)) (part_is (number_for_any t.low) (c % 65536))
    (part_wider t.high n (c / 65536)) (part_wider t.low n (c % 65536))

none_like : {X : Type 0} (one any : X → Bool) → ((x : X) → Wider (one x) (any x)) → (xs : List X) → Wider (list_any one xs) (list_any any xs)
none_like one any wider [] none = refl
none_like one any wider (x ∷ xs) none =
    let both = neither (any x) (list_any any xs) none in
    ap (λ b. b || list_any one xs) (wider x both.0) ∙ none_like one any wider xs both.1

-- a test has the same answer for all receivers
community_asked : (t : CommunityTest) (cs : List ℕ) (m n : ℕ) (names : Bool) → names_peer t ≡ names → (names && list_any (is_like (pattern_for_any t)) cs) ≡ false → list_any (is_like (pattern_for m t)) cs ≡ list_any (is_like (pattern_for n t)) cs
community_asked t cs m n false e none = ap (λ p. list_any (is_like p) cs) (pattern_alike t m n e)
community_asked t cs m n true e none =
    none_like (is_like (pattern_for m t)) (is_like (pattern_for_any t)) (like_wider t m) cs none
    ∙ sym (none_like (is_like (pattern_for n t)) (is_like (pattern_for_any t)) (like_wider t n) cs none)

-- the three parts of a large community
three_wider : (t : LargeCommunityTest) (n global first second : ℕ) → Wider (part_is (number_for n t.global) global && part_is (number_for n t.first) first && part_is (number_for n t.second) second)
    (part_is (number_for_any t.global) global && part_is (number_for_any t.first) first && part_is (number_for_any t.second) second)
three_wider t n global first second =
    both_wider (part_is (number_for n t.global) global && part_is (number_for n t.first) first) (part_is (number_for n t.second) second)
    (part_is (number_for_any t.global) global && part_is (number_for_any t.first) first) (part_is (number_for_any t.second) second)
    (both_wider (part_is (number_for n t.global) global) (part_is (number_for n t.first) first) (part_is (number_for_any t.global) global) (part_is (number_for_any t.first) first)
    (part_wider t.global n global) (part_wider t.first n first))
    (part_wider t.second n second)

large_asked : (t : LargeCommunityTest) (m : List Attribute) (k n : ℕ) (names : Bool) → large_names_peer t ≡ names → (names && list_any (is_like_large (large_pattern_for_any t)) (large_communities_of m)) ≡ false
    → list_any (is_like_large (large_pattern_for k t)) (large_communities_of m) ≡ list_any (is_like_large (large_pattern_for n t)) (large_communities_of m)
large_asked t m k n false e none = ap (λ p. list_any (is_like_large p) (large_communities_of m)) (large_pattern_alike t k n e)
large_asked t m k n true e none =
    none_like (is_like_large (large_pattern_for k t)) (is_like_large (large_pattern_for_any t)) (λ c. three_wider t k c.global c.first c.second) (large_communities_of m) none
    ∙ sym (none_like (is_like_large (large_pattern_for n t)) (is_like_large (large_pattern_for_any t)) (λ c. three_wider t n c.global c.first c.second) (large_communities_of m) none)

community_same : (o : Option CommunityTest) (r : AnnouncedRoute) (n : ℕ) → unwrap_or (option_map (λ t. names_peer t && list_any (is_like (pattern_for_any t)) (communities_of r.attributes)) o) false ≡ false → IsAskedAlike has_community r n o
community_same None r n none = refl
community_same (Some t) r n none = community_asked t (communities_of r.attributes) r.to_as n (names_peer t) refl none

large_same : (o : Option LargeCommunityTest) (r : AnnouncedRoute) (n : ℕ) → unwrap_or (option_map (λ t. large_names_peer t && list_any (is_like_large (large_pattern_for_any t)) (large_communities_of r.attributes)) o) false ≡ false
    → IsAskedAlike has_large_community r n o
large_same None r n none = refl
large_same (Some t) r n none = large_asked t r.attributes r.to_as n (large_names_peer t) refl none

found_same : (lists : List NamedList) (rules : List Rule) (r : AnnouncedRoute) (n : ℕ) → list_any (asks_receiver r.attributes) rules ≡ false
    → find (λ rule. matches lists rule r) rules ≡ find (λ rule. matches lists rule (sent_to r n)) rules
found_same lists [] r n none = refl
found_same lists (rule ∷ rules) r n none =
    let asked : Rule → Bool = asks_receiver r.attributes in
    let here = neither (asked rule) (list_any asked rules) none in
    let tests =
    neither (unwrap_or (option_map (λ t. names_peer t && list_any (is_like (pattern_for_any t)) (communities_of r.attributes)) rule.tests.community) false)
    (unwrap_or (option_map (λ t. large_names_peer t && list_any (is_like_large (large_pattern_for_any t)) (large_communities_of r.attributes)) rule.tests.large_community) false) here.0 in
    ap (λ b. if b then Some rule else find (λ rule. matches lists rule r) rules) (matches_asked lists rule r n (community_same rule.tests.community r n tests.0) (large_same rule.tests.large_community r n tests.1))
    ∙ ap (λ o. if matches lists rule (sent_to r n) then Some rule else o) (found_same lists rules r n here.1)

pub receivers_alike : (s : Configuration) (to : ℕ) (m : List Attribute) → AsksNoReceiver s → list_any (asks_receiver m) (policy_of s to).export ≡ false → ReceiversAreAlike s to m
unfolding verdict outcome
receivers_alike s to m asks none from other p known same =
    let r : AnnouncedRoute = announced_route s from to p m in
    let n : ℕ = (client_of s other).client_as in
    λ i. joined (asks from to other p m known i)
    (passing_by s.top.default ((found_same s.lists (policy_of s to).export r n none ∙ ap (λ rules. find (λ rule. matches s.lists rule (sent_to r n)) rules) same) i))
