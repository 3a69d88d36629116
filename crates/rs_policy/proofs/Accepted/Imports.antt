-- No rule of an import list names the receiver, so that what the list makes of a route is the same for all.
use Rattle.std.proofs.Common.{◌≡◌, ℕ, ◌+◌, ◌≤◌, ◌==◌, length, ◌&&◌, ◌||◌, Bool, true, false, List, [], ◌∷◌, find, get_or, Option, Some, None, Ok, option_map, refl, ap, subst, ◌∙◌, bytes_eq, arith, if◌then◌else◌}
use Rattle.std.specs.Prelude.{IfSome, codes, not, unwrap_or}
use Rattle.std.specs.List.{All, list_any}
use Rattle.std.proofs.lemmas.Bool.{and_parts, or_parts}
use Rattle.std.proofs.lemmas.List.Folds.{list_any-append}
use Rattle.std.proofs.lemmas.List.Quantifiers.{position-Some}
use Rattle.toml.specs.Data.{Data, table}
use Rattle.rs_attrs.specs.Getters.{communities_of, large_communities_of}
use Rattle.rs_attrs.specs.Patterns.{is_like, is_like_large}
use Rattle.rs_policy.specs.Texts.{number_to, both, colon, part_of, last_part_of, community_of, local_data_of, large_community_of}
use Rattle.rs_policy.specs.Patterns.{number_for, pattern_for, large_pattern_for, is_peer, names_peer, large_names_peer, tests_name_peer}
use Rattle.rs_policy.specs.Values.{text_as, answer}
use Rattle.rs_policy.specs.Configuration.{Client, NamedList, SharedRules, Stated, Configuration, client_of, list_at, no_shared, no_policy, policy_of, rules_in, written_out, policy_written}
use Rattle.rs_policy.specs.Documents.{rules_name_peer, may_stand, shared_named, client_place, shared_place, list_key, rule_place, document_checks, configuration_of, config_of}
use Rattle.rs_policy.specs.Verdicts.{AnnouncedRoute, announced_route, in_range, has_prefix, next_hop_is_peer, origin_as_is, origin_in, has_community, has_large_community, holds, path_matches, attributes_match, matches, passing_by, outcome, AsksNoReceiver}
use Rattle.rs_policy.specs.Accepted.{SaysRule, SaysEach, SaysItem, SaysShared, SaysPolicy, Says}
use Rattle.rs_policy.specs.Noted.{IsRead}
use Rattle.rs_policy.specs.Sound.{IsSound}
use Rattle.rs_policy.specs.declared.faults.Key.TheVariants as K
use Rattle.rs_policy.specs.declared.faults.List.TheVariants.{Import, Shared}
use Rattle.rs_policy.specs.declared.faults.Place.{Place}
use Rattle.rs_policy.specs.declared.rules.CommunityTest.{CommunityTest}
use Rattle.rs_policy.specs.declared.rules.LargeCommunityTest.{LargeCommunityTest}
use Rattle.rs_policy.specs.declared.rules.Part.{Part}
use Rattle.rs_policy.specs.declared.rules.Part.TheVariants.{Number, Any, Peer}
use Rattle.rs_policy.specs.declared.rules.Rule.{Rule}
use Rattle.rs_policy.specs.declared.rules.Item.{Item}
use Rattle.rs_policy.specs.declared.rules.Item.TheVariants.{Own, Use}
use Rattle.rs_policy.proofs.Accepted.Passing.{accepted_says, answer_says}
use Rattle.rs_policy.proofs.Accepted.SoundKeys.{few_at, few_needed, at_maybe, at_required, both_by, map_by, text_is}
use Rattle.rs_policy.proofs.Accepted.Soundness.{each_all, each_count, says_sound, answer_sound}

-- ---- a part that isn't `peer`

no_peer : (high : ℕ) (text : List ℕ) (p : Part) → part_of false high text ≡ Some p → is_peer p ≡ false
no_peer high text p e = map_by (λ p. is_peer p ≡ false) Number (number_to high text) p (λ n f. refl) e

any_by : (b : Bool) (o : Option Part) (p : Part) → ((p : Part) → o ≡ Some p → is_peer p ≡ false) → (if b then Some Any else o) ≡ Some p → is_peer p ≡ false
any_by true o p every e = subst (λ p. is_peer p ≡ false) (let f : Any ≡ p = cc in f) refl
any_by false o p every e = every p e

no_last_peer : (high : ℕ) (text : List ℕ) (p : Part) → last_part_of false high text ≡ Some p → is_peer p ≡ false
no_last_peer high text p e = any_by (bytes_eq text (codes "*")) (part_of false high text) p (no_peer high text) e

neither_true : (a b : Bool) → a ≡ false → b ≡ false → (a || b) ≡ false
neither_true a b e f = ap (λ x. x || b) e ∙ f

community_without : (text : List ℕ) (t : CommunityTest) → community_of false text ≡ Some t → names_peer t ≡ false
unfolding community_of
community_without text t e =
    map_by (λ t. names_peer t ≡ false) (λ (p : Part × Part). let t : CommunityTest = record { high = p.0; low = p.1 } in t) (both (part_of false 65535) colon (last_part_of false 65535) text) t
    (λ p f. let h : (is_peer p.0 ≡ false) × (is_peer p.1 ≡ false) =
    both_by (λ p. is_peer p ≡ false) (λ p. is_peer p ≡ false) (part_of false 65535) colon (last_part_of false 65535) (no_peer 65535) (no_last_peer 65535) text p f in
    neither_true (is_peer p.0) (is_peer p.1) h.0 h.1) e

abbrev AreNone : Part × Part → Type 0
AreNone p = (is_peer p.0 ≡ false) × (is_peer p.1 ≡ false)

local_by : (b : Bool) (o : Option (Part × Part)) (p : Part × Part) → ((p : Part × Part) → o ≡ Some p → AreNone p) → (if b then Some (Any, Any) else o) ≡ Some p → AreNone p
local_by true o p every e = subst AreNone (let f : (Any, Any) ≡ p = cc in f) (refl, refl)
local_by false o p every e = every p e

no_local_peer : (text : List ℕ) (p : Part × Part) → local_data_of false text ≡ Some p → AreNone p
no_local_peer text p e =
    local_by (bytes_eq text (codes "*:*")) (both (part_of false 4294967295) colon (last_part_of false 4294967295) text) p
    (λ p f. both_by (λ p. is_peer p ≡ false) (λ p. is_peer p ≡ false) (part_of false 4294967295) colon (last_part_of false 4294967295) (no_peer 4294967295) (no_last_peer 4294967295) text p f) e

large_without : (text : List ℕ) (t : LargeCommunityTest) → large_community_of false text ≡ Some t → large_names_peer t ≡ false
unfolding large_community_of
large_without text t e =
    map_by (λ t. large_names_peer t ≡ false) (λ (p : Part × (Part × Part)). let t : LargeCommunityTest = record { global = p.0; first = p.1.0; second = p.1.1 } in t)
    (both (part_of false 4294967295) colon (local_data_of false) text) t
    (λ p f. let h : (is_peer p.0 ≡ false) × AreNone p.1 = both_by (λ p. is_peer p ≡ false) AreNone (part_of false 4294967295) colon (local_data_of false) (no_peer 4294967295) no_local_peer text p f in
    neither_true (is_peer p.0) (is_peer p.1.0 || is_peer p.1.1) h.0 (neither_true (is_peer p.1.0) (is_peer p.1.1) h.1.0 h.1.1)) e

-- ---- a rule of an import list

given_by : {A : Type 0} (test : A → Bool) (o : Option A) → IfSome o (λ a. test a ≡ false) → unwrap_or (option_map test o) false ≡ false
given_by test None h = refl
given_by test (Some a) h = h

abbrev import_place : ℕ → ℕ → Place
import_place n r = rule_place n Import r

rule_without : (clients : List Client) (lists : List NamedList) (n r : ℕ) (d : Data) (rule : Rule) → SaysRule clients lists (import_place n r) d rule → tests_name_peer rule.tests ≡ false
unfolding tests_name_peer
rule_without clients lists n r d rule h =
    neither_true (unwrap_or (option_map names_peer rule.tests.community) false) (unwrap_or (option_map large_names_peer rule.tests.large_community) false)
    (given_by names_peer rule.tests.community
    (at_maybe (λ t. names_peer t ≡ false) (text_as (community_of false)) (import_place n r) K.Community d rule.tests.community
    (λ d v e. text_is (λ t. names_peer t ≡ false) (community_of false) d v community_without e) h.tests.community))
    (given_by large_names_peer rule.tests.large_community
    (at_maybe (λ t. large_names_peer t ≡ false) (text_as (large_community_of false)) (import_place n r) K.LargeCommunity d rule.tests.large_community
    (λ d v e. text_is (λ t. large_names_peer t ≡ false) (large_community_of false) d v large_without e) h.tests.large_community))

not_true : (b : Bool) → not b ≡ true → b ≡ false
not_true false e = refl
not_true true e = cc

named_without : (shared : List SharedRules) (name : List ℕ) (n : ℕ) → shared_named false shared name ≡ Some n → rules_name_peer (get_or shared n no_shared).rules ≡ false
named_without shared name n e =
    let found = position-Some (λ (s : SharedRules). bytes_eq s.name name && may_stand false s.rules) shared n no_shared e in
    let s : SharedRules = get_or shared n no_shared in
    not_true (rules_name_peer s.rules) (and_parts (bytes_eq s.name name) (may_stand false s.rules) found.1).1

item_without : (clients : List Client) (lists : List NamedList) (shared : List SharedRules) (n r : ℕ) (d : Data) (item : Item) → SaysItem clients lists shared (import_place n r) d item
    → rules_name_peer (rules_in shared item) ≡ false
item_without clients lists shared n r d (Own rule) h = neither_true (tests_name_peer rule.tests) false (rule_without clients lists n r d rule h.1) refl
item_without clients lists shared n r d (Use place) h =
    at_required (λ u. rules_name_peer (get_or shared u no_shared).rules ≡ false) (text_as (shared_named false shared)) (import_place n r) K.Use d place
    (λ d v e. text_is (λ u. rules_name_peer (get_or shared u no_shared).rules ≡ false) (shared_named false shared) d v (named_without shared) e) h.0

written_without : (clients : List Client) (lists : List NamedList) (shared : List SharedRules) (n r : ℕ) (ds : List Data) (items : List Item)
    → SaysEach (λ r d item. SaysItem clients lists shared (import_place n r) d item) r ds items → rules_name_peer (written_out shared items) ≡ false
written_without clients lists shared n r [] [] h = refl
written_without clients lists shared n r [] (item ∷ items) h = absurd h
written_without clients lists shared n r (d ∷ ds) [] h = absurd h
written_without clients lists shared n r (d ∷ ds) (item ∷ items) h =
    list_any-append (λ (rule : Rule). tests_name_peer rule.tests) (rules_in shared item) (written_out shared items)
    ∙ neither_true (rules_name_peer (rules_in shared item)) (rules_name_peer (written_out shared items))
    (item_without clients lists shared n r d item h.0) (written_without clients lists shared n (r + 1) ds items h.1)

imports_without : (d : Data) (s : Configuration) → Says d s → All (λ p. rules_name_peer (policy_written s.shared p).import ≡ false) s.policies
imports_without d s h =
    each_all (SaysPolicy s.clients s.lists s.shared) (λ p. rules_name_peer (policy_written s.shared p).import ≡ false)
    (λ n d p e. written_without s.clients s.lists s.shared n 1 e.import.tables p.import e.import.each) 1 h.tables s.policies h.policies

-- ---- it matches the same whoever is sent the route

number_alike : (p : Part) (m n : ℕ) → is_peer p ≡ false → number_for m p ≡ number_for n p
number_alike (Number k) m n e = refl
number_alike Any m n e = refl
number_alike Peer m n e = cc

pub pattern_alike : (t : CommunityTest) (m n : ℕ) → names_peer t ≡ false → pattern_for m t ≡ pattern_for n t
pattern_alike t m n e =
    let h : (is_peer t.high ≡ false) × (is_peer t.low ≡ false) = or_parts (is_peer t.high) (is_peer t.low) e in
    λ i. record { high = number_alike t.high m n h.0 i; low = number_alike t.low m n h.1 i }

pub large_pattern_alike : (t : LargeCommunityTest) (m n : ℕ) → large_names_peer t ≡ false → large_pattern_for m t ≡ large_pattern_for n t
large_pattern_alike t m n e =
    let h : (is_peer t.global ≡ false) × ((is_peer t.first || is_peer t.second) ≡ false) = or_parts (is_peer t.global) (is_peer t.first || is_peer t.second) e in
    let k : (is_peer t.first ≡ false) × (is_peer t.second ≡ false) = or_parts (is_peer t.first) (is_peer t.second) h.1 in
    λ i. record { global = number_alike t.global m n h.0 i; first = number_alike t.first m n k.0 i; second = number_alike t.second m n k.1 i }

abbrev pub sent_to : AnnouncedRoute → ℕ → AnnouncedRoute
sent_to r n = record r { to_as = n }

abbrev pub IsAskedAlike : {A : Type 0} → (A → AnnouncedRoute → Bool) → AnnouncedRoute → ℕ → Option A → Type 0
IsAskedAlike has r n o = holds (λ t. has t r) o ≡ holds (λ t. has t (sent_to r n)) o

community_alike : (o : Option CommunityTest) (r : AnnouncedRoute) (n : ℕ) → unwrap_or (option_map names_peer o) false ≡ false → IsAskedAlike has_community r n o
community_alike None r n e = refl
community_alike (Some t) r n e = ap (λ p. list_any (is_like p) (communities_of r.attributes)) (pattern_alike t r.to_as n e)

large_community_alike : (o : Option LargeCommunityTest) (r : AnnouncedRoute) (n : ℕ) → unwrap_or (option_map large_names_peer o) false ≡ false → IsAskedAlike has_large_community r n o
large_community_alike None r n e = refl
large_community_alike (Some t) r n e = ap (λ p. list_any (is_like_large p) (large_communities_of r.attributes)) (large_pattern_alike t r.to_as n e)

-- with these answers to the tests of communities
abbrev matches_by : Bool → Bool → List NamedList → Rule → AnnouncedRoute → Bool
matches_by b c lists rule r =
    holds (λ range. in_range range r.prefix) rule.range
    && (holds (λ n. has_prefix (list_at lists n) r.prefix) rule.tests.prefix_in
    && (holds (λ c. c == r.from) rule.tests.from
    && (holds (λ b. if b then next_hop_is_peer r else not (next_hop_is_peer r)) rule.tests.next_hop_is_peer
    && (b
    && (c
    && (holds (λ n. origin_as_is n r) rule.tests.origin_as
    && (holds (λ n. origin_in (list_at lists n) r) rule.tests.origin_in
    && path_matches lists rule.tests r)))))))

-- where its tests of communities have the same answers, a rule matches alike
pub matches_asked : (lists : List NamedList) (rule : Rule) (r : AnnouncedRoute) (n : ℕ) → IsAskedAlike has_community r n rule.tests.community → IsAskedAlike has_large_community r n rule.tests.large_community
    → matches lists rule r ≡ matches lists rule (sent_to r n)
unfolding matches attributes_match
matches_asked lists rule r n short large =
    ap (λ b. matches_by b (holds (λ t. has_large_community t r) rule.tests.large_community) lists rule r) short
    ∙ ap (λ c. matches_by (holds (λ t. has_community t (sent_to r n)) rule.tests.community) c lists rule r) large

matches_alike : (lists : List NamedList) (rule : Rule) (r : AnnouncedRoute) (n : ℕ) → tests_name_peer rule.tests ≡ false → matches lists rule r ≡ matches lists rule (sent_to r n)
unfolding tests_name_peer
matches_alike lists rule r n e =
    let h : (unwrap_or (option_map names_peer rule.tests.community) false ≡ false) × (unwrap_or (option_map large_names_peer rule.tests.large_community) false ≡ false) =
    or_parts (unwrap_or (option_map names_peer rule.tests.community) false) (unwrap_or (option_map large_names_peer rule.tests.large_community) false) e in
    matches_asked lists rule r n (community_alike rule.tests.community r n h.0) (large_community_alike rule.tests.large_community r n h.1)

pub found_alike : (lists : List NamedList) (rules : List Rule) (r : AnnouncedRoute) (n : ℕ) → rules_name_peer rules ≡ false
    → find (λ rule. matches lists rule r) rules ≡ find (λ rule. matches lists rule (sent_to r n)) rules
found_alike lists [] r n e = refl
found_alike lists (rule ∷ rules) r n e =
    let h : (tests_name_peer rule.tests ≡ false) × (rules_name_peer rules ≡ false) = or_parts (tests_name_peer rule.tests) (rules_name_peer rules) e in
    ap (λ b. if b then Some rule else find (λ rule. matches lists rule r) rules) (matches_alike lists rule r n h.0)
    ∙ ap (λ o. if matches lists rule (sent_to r n) then Some rule else o) (found_alike lists rules r n h.1)

says_alike : (d : Data) (s : Configuration) → Says d s → IsSound s → AsksNoReceiver s
unfolding outcome
says_alike d s h sound from to other p m within =
    let count : length s.policies ≡ length s.clients = sound.policies in
    let none : rules_name_peer (policy_of s from).import ≡ false = imports_without d s h from no_policy (omega arith) in
    ap (passing_by s.top.default) (found_alike s.lists (policy_of s from).import (announced_route s from to p m) (client_of s other).client_as none)

pub asks_no_receiver : (text : List ℕ) (s : Configuration) → config_of text ≡ Ok s → AsksNoReceiver s
asks_no_receiver text s e =
    let h = accepted_says text s e in
    says_alike (table h.0) s h.1.1 (says_sound (table h.0) s h.1.1)

few_imports : (clients : List Client) (lists : List NamedList) (shared : List SharedRules) (n : ℕ) (d : Data) (p : Stated) → SaysPolicy clients lists shared n d p → length p.import ≤ 64
few_imports clients lists shared n d p h =
    let few : length h.import.tables ≤ 64 = few_at 64 (client_place n) (list_key Import) d h.import.tables h.import.tables_are in
    let count : length p.import ≡ length h.import.tables = each_count (λ r d item. SaysItem clients lists shared (rule_place n Import r) d item) 1 h.import.tables p.import h.import.each in
    omega arith

few_used : (clients : List Client) (lists : List NamedList) (n : ℕ) (d : Data) (r : SharedRules) → SaysShared clients lists n d r → length r.rules ≤ 64
few_used clients lists n d r h =
    let few : length h.tables ≤ 64 = few_needed 64 (shared_place n) K.Rules d h.tables h.tables_are in
    let count : length r.rules ≡ length h.tables = each_count (λ k d rule. SaysRule clients lists (rule_place n Shared k) d rule) 1 h.tables r.rules h.each in
    omega arith

-- a configuration that passes every check
pub answer_read : (d : Data) (s : Configuration) → answer (document_checks d) (configuration_of d) ≡ Ok s → IsRead s
answer_read d s e =
    let h = answer_says d s e in
    let sound : IsSound s = answer_sound d s e in
    record {
      sound = sound;
      imports = says_alike d s h sound;
      few = each_all (SaysPolicy s.clients s.lists s.shared) (λ p. length p.import ≤ 64) (few_imports s.clients s.lists s.shared) 1 h.tables s.policies h.policies;
      few_used = each_all (SaysShared s.clients s.lists) (λ r. length r.rules ≤ 64) (few_used s.clients s.lists) 1 h.shared_tables s.shared h.rules;
    }
