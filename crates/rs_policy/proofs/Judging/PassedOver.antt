-- A rule doesn't match a route whose prefix isn't in its range, or that lacks a community for which it asks.
use Rattle.std.proofs.Common.{◌≡◌, ◌==◌, ◌&&◌, ◌||◌, Bool, not, Some, None, true, false, List, [], ◌∷◌, refl, sym, ap, ◌∙◌}
use Rattle.std.specs.Prelude.{if◌then◌else◌}
use Rattle.std.specs.List.{list_any}
use Rattle.std.proofs.Math.Bool.{and-false}
use Rattle.rs_attrs.specs.Getters.{communities_of, large_communities_of}
use Rattle.rs_attrs.specs.Meaning.{Attribute}
use Rattle.rs_attrs.specs.Patterns.{is_like, is_like_large}
use Rattle.rs_policy.specs.Configuration.{NamedList, list_at}
use Rattle.rs_policy.specs.Verdicts.{AnnouncedRoute, attributes_match, has_community, has_large_community, has_prefix, holds, in_range, matches, next_hop_is_peer, origin_as_is, origin_in, path_matches}
use Rattle.rs_policy.specs.declared.rules.CommunityTest.{CommunityTest}
use Rattle.rs_policy.specs.declared.rules.LargeCommunityTest.{LargeCommunityTest}
use Rattle.rs_policy.specs.declared.rules.Range.{Range}
use Rattle.rs_policy.specs.declared.rules.Rule.{Rule}

-- where none is like what each is like, there is none
none_there : {X : Type 0} (any : X → Bool) → ((x : X) → any x ≡ true) → (xs : List X) → list_any any xs ≡ false → xs ≡ []
none_there any like [] none = refl
none_there any like (x ∷ xs) none = absurd (let e : true ≡ false = sym (ap (λ b. b || list_any any xs) (like x)) ∙ none in cc e)

pub no_community : (m : List Attribute) → list_any (is_like (record { high = None; low = None })) (communities_of m) ≡ false → communities_of m ≡ []
no_community m none = none_there (is_like (record { high = None; low = None })) (λ c. refl) (communities_of m) none

pub no_large_community : (m : List Attribute) → list_any (is_like_large (record { global = None; first = None; second = None })) (large_communities_of m) ≡ false → large_communities_of m ≡ []
no_large_community m none = none_there (is_like_large (record { global = None; first = None; second = None })) (λ c. refl) (large_communities_of m) none

pub out_of_range : (lists : List NamedList) (rule : Rule) (r : AnnouncedRoute) (range : Range) → rule.range ≡ Some range → in_range range r.prefix ≡ false → matches lists rule r ≡ false
unfolding matches
out_of_range lists rule r range asks out =
    let rest =
    holds (λ n. has_prefix (list_at lists n) r.prefix) rule.tests.prefix_in
    && (holds (λ c. c == r.from) rule.tests.from
    && (holds (λ b. if b then next_hop_is_peer r else not (next_hop_is_peer r)) rule.tests.next_hop_is_peer
    && attributes_match lists rule.tests r)) in
    ap (λ o. holds (λ range. in_range range r.prefix) o && rest) asks ∙ ap (λ b. b && rest) out

-- where the attributes don't match
fails : (lists : List NamedList) (rule : Rule) (r : AnnouncedRoute) → attributes_match lists rule.tests r ≡ false → matches lists rule r ≡ false
unfolding matches
fails lists rule r none =
    let range = holds (λ range. in_range range r.prefix) rule.range in
    let listed = holds (λ n. has_prefix (list_at lists n) r.prefix) rule.tests.prefix_in in
    let from = holds (λ c. c == r.from) rule.tests.from in
    let next = holds (λ b. if b then next_hop_is_peer r else not (next_hop_is_peer r)) rule.tests.next_hop_is_peer in
    ap (λ b. range && (listed && (from && (next && b)))) none
    ∙ ap (λ b. range && (listed && (from && b))) (and-false next)
    ∙ ap (λ b. range && (listed && b)) (and-false from)
    ∙ ap (λ b. range && b) (and-false listed)
    ∙ and-false range

pub without_community : (lists : List NamedList) (rule : Rule) (r : AnnouncedRoute) (t : CommunityTest) → rule.tests.community ≡ Some t → has_community t r ≡ false → matches lists rule r ≡ false
unfolding attributes_match
without_community lists rule r t asks lacks =
    let rest =
    holds (λ t. has_large_community t r) rule.tests.large_community
    && (holds (λ n. origin_as_is n r) rule.tests.origin_as
    && (holds (λ n. origin_in (list_at lists n) r) rule.tests.origin_in
    && path_matches lists rule.tests r)) in
    fails lists rule r (ap (λ o. holds (λ t. has_community t r) o && rest) asks ∙ ap (λ b. b && rest) lacks)

pub without_large_community : (lists : List NamedList) (rule : Rule) (r : AnnouncedRoute) (t : LargeCommunityTest) → rule.tests.large_community ≡ Some t → has_large_community t r ≡ false → matches lists rule r ≡ false
unfolding attributes_match
without_large_community lists rule r t asks lacks =
    let short = holds (λ t. has_community t r) rule.tests.community in
    let rest =
    holds (λ n. origin_as_is n r) rule.tests.origin_as
    && (holds (λ n. origin_in (list_at lists n) r) rule.tests.origin_in
    && path_matches lists rule.tests r) in
    fails lists rule r (ap (λ o. short && (holds (λ t. has_large_community t r) o && rest)) asks ∙ ap (λ b. short && (b && rest)) lacks ∙ and-false short)
