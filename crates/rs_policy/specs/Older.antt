-- What a rule was before there were `path_longer`, `path_in`, `first_as_is_peer`, `large_community`, `strip_large`, `*` and `peer`, and a
-- document before there were `rules` and `use`.
use Rattle.std.specs.Prelude.{◌≡◌, ℕ, ◌+◌, ◌*◌, Bool, true, not, ◌&&◌, ◌||◌, List, [], ◌∷◌, ◌++◌, ◌==◌, map, bytes_eq, codes, Option, Some, None, IfSome, option_map, unwrap_or, Result, Ok, if◌then◌else◌}
use Rattle.std.specs.List.{list_all, list_any, AllByRecursion}
use Rattle.toml.specs.Data.{Data, get, as_array, as_str}
use Rattle.rs_attrs.specs.Patterns.{is_like}
use Rattle.rs_attrs.specs.declared.patterns.CommunityPattern.{CommunityPattern}
use Rattle.rs_attrs.specs.Getters.{path_has_of, has_community}
use Rattle.rs_policy.specs.Keys.{key_text}
use Rattle.rs_policy.specs.Texts.{number_to, parted, both, colon}
use Rattle.rs_policy.specs.Values.{text_as, list_of, maybe_at, fault_in, value_or, stranger, first_failing, answer, each_from, checks_from}
use Rattle.rs_policy.specs.Configuration.{Client, NamedList, Stated, Configuration, list_at}
use Rattle.rs_policy.specs.NamedLists.{named_lists_checks, named_lists_from}
use Rattle.rs_policy.specs.Documents.{the_top, clients_at, lists_at, top_checks, top_of, clients_checks, clients_from, rules_at, rules_checks, rules_from, has_use, client_tables, list_tables, document_checks, configuration_of}
use Rattle.rs_policy.specs.Rules.{range_checks, prefix_in_at, from_at, path_has_at, origin_as_at, origin_in_at, next_hop_is_peer_at, disposition_at, disposition_in, preference_at, stripping_at, strip_at, strip_large_at, rule_checks, rule_of}
use Rattle.rs_policy.specs.Verdicts.{AnnouncedRoute, holds, in_range, has_prefix, next_hop_is_peer, origin_as_is, origin_in, matches, named_by, takes_all}
use Rattle.rs_policy.specs.declared.faults.Key.{Key}
use Rattle.rs_policy.specs.declared.faults.Key.TheVariants as K
use Rattle.rs_policy.specs.declared.faults.List.{List as RuleList}
use Rattle.rs_policy.specs.declared.faults.List.TheVariants.{Import, Export}
use Rattle.rs_policy.specs.declared.faults.Place.{Place}
use Rattle.rs_policy.specs.declared.faults.ConfigFault.{ConfigFault}
use Rattle.rs_policy.specs.declared.rules.Disposition.{Disposition}
use Rattle.rs_policy.specs.declared.rules.Stripping.{Stripping}
use Rattle.rs_policy.specs.declared.rules.Stripping.TheVariants.{Named}
use Rattle.rs_policy.specs.declared.rules.Rule.{Rule}
use Rattle.rs_policy.specs.declared.rules.Item.TheVariants.{Own}

-- neither part of a text is `*` or `peer`

abbrev pub is_number_alone : List ℕ → Bool
is_number_alone part = not (bytes_eq part (codes "*")) && not (bytes_eq part (codes "peer"))

abbrev pub are_numbers_alone : Option (List ℕ × List ℕ) → Bool
are_numbers_alone None = true
are_numbers_alone (Some parts) = is_number_alone parts.0 && is_number_alone parts.1

abbrev pub has_no_pattern : List ℕ → Bool
has_no_pattern text = are_numbers_alone (parted colon text)

abbrev pub is_plain : Data → Bool
is_plain d = unwrap_or (option_map has_no_pattern (as_str d)) true

abbrev pub array_in : Data → List Data
array_in d = unwrap_or (option_map list_of (as_array d)) []

pub record IsOlder (d : Data) : Type 0 where
  pub path_longer : get (key_text K.PathLonger) d ≡ None
  pub path_in : get (key_text K.PathIn) d ≡ None
  pub first_as_is_peer : get (key_text K.FirstAsIsPeer) d ≡ None
  pub large_community : get (key_text K.LargeCommunity) d ≡ None
  pub strip_large : get (key_text K.StripLarge) d ≡ None
  pub community : IfSome (get (key_text K.Community) d) (λ v. is_plain v ≡ true)
  pub strip : IfSome (get (key_text K.Strip) d) (λ v. list_all is_plain (array_in v) ≡ true)

-- two numbers of 16 bits, as one of 32 (RFC 1997)
unfoldable pub older_community_of : List ℕ → Option ℕ
older_community_of text = option_map (λ p. 65536 * p.0 + p.1) (both (number_to 65535) colon (number_to 65535) text)

abbrev pub older_community_at : Place → Data → Result (Option ℕ) ConfigFault
older_community_at place d = maybe_at (text_as older_community_of) place K.Community d

abbrev pub older_strip_at : Disposition → Place → Data → Result (Stripping ℕ) ConfigFault
older_strip_at = stripping_at (text_as older_community_of) K.Strip

abbrev pub older_keys : List Key
older_keys = K.Prefix ∷ K.Min ∷ K.Max ∷ K.PrefixIn ∷ K.From ∷ K.PathHas ∷ K.OriginAs ∷ K.OriginIn ∷ K.Community ∷ K.NextHopIsPeer ∷ K.Action ∷ K.Preference ∷ K.Strip ∷ []

abbrev pub older_test_checks : List Client → List NamedList → Place → Data → List (Option ConfigFault)
older_test_checks clients lists place d =
    fault_in (prefix_in_at lists place d)
    ∷ fault_in (from_at clients place d)
    ∷ fault_in (path_has_at place d)
    ∷ fault_in (origin_as_at place d)
    ∷ fault_in (origin_in_at lists place d)
    ∷ fault_in (older_community_at place d)
    ∷ fault_in (next_hop_is_peer_at place d)
    ∷ []

abbrev pub older_action_checks : Place → Data → List (Option ConfigFault)
older_action_checks place d =
    fault_in (disposition_at place d)
    ∷ fault_in (preference_at (disposition_in place d) place d)
    ∷ fault_in (older_strip_at (disposition_in place d) place d)
    ∷ []

abbrev pub older_checks : List Client → List NamedList → Place → Data → List (Option ConfigFault)
older_checks clients lists place d = range_checks place d ++ (older_test_checks clients lists place d ++ (older_action_checks place d ++ fault_in (stranger older_keys place d) ∷ []))

-- with this community, if it asks for one
abbrev pub older_matches : List NamedList → Option ℕ → Rule → AnnouncedRoute → Bool
older_matches lists community rule r =
    holds (λ range. in_range range r.prefix) rule.range
    && (holds (λ n. has_prefix (list_at lists n) r.prefix) rule.tests.prefix_in
    && (holds (λ c. c == r.from) rule.tests.from
    && (holds (λ b. if b then next_hop_is_peer r else not (next_hop_is_peer r)) rule.tests.next_hop_is_peer
    && (holds (λ n. has_community n r.attributes) community
    && (holds (λ n. origin_as_is n r) rule.tests.origin_as
    && (holds (λ n. origin_in (list_at lists n) r) rule.tests.origin_in
    && holds (λ n. path_has_of n r.attributes) rule.tests.path_has))))))

-- the community is taken away
abbrev pub takes : Stripping CommunityPattern → ℕ → Bool
takes strip c = takes_all strip || list_any (λ p. is_like p c) (named_by strip)

abbrev pub older_takes : Stripping ℕ → ℕ → Bool
older_takes strip c = takes_all strip || list_any (λ n. c == n) (named_by strip)

-- its first fault is what it was, it matches the routes that it matched, and takes away the communities that it took
pub record MeansWhatItMeant (clients : List Client) (lists : List NamedList) (place : Place) (d : Data) : Type 0 where
  pub fault : first_failing (rule_checks clients lists place d) ≡ first_failing (older_checks clients lists place d)
  pub routes : (r : AnnouncedRoute) → matches lists (rule_of clients lists place d) r ≡ older_matches lists (value_or None (older_community_at place d)) (rule_of clients lists place d) r
  pub strips : (disposition : Disposition) (c : ℕ) → takes (value_or (Named []) (strip_at disposition place d)) c ≡ older_takes (value_or (Named []) (older_strip_at disposition place d)) c
  pub strips_no_large : (disposition : Disposition) → strip_large_at disposition place d ≡ Ok (Named [])

-- ---- a document

abbrev pub uses_none : ℕ → RuleList → Data → Bool
uses_none n list d = list_all (λ rule. not (has_use rule)) (value_or [] (rules_at n list d))

-- neither key is there
pub record IsOlderDocument (d : Data) : Type 0 where
  pub rules : get (key_text K.Rules) d ≡ None
  pub uses : (n : ℕ) (list : RuleList) → AllByRecursion (λ client. uses_none n list client ≡ true) (client_tables d)

abbrev pub older_top_keys : List Key
older_top_keys = K.As ∷ K.Identifier ∷ K.Hold ∷ K.Default ∷ K.Extended ∷ K.Refresh ∷ K.Multiprotocol ∷ K.Client ∷ K.List ∷ []

abbrev pub older_list_checks : List Client → List NamedList → ℕ → RuleList → Data → List (Option ConfigFault)
older_list_checks clients lists n list d = fault_in (rules_at n list d) ∷ rules_checks clients lists n list (value_or [] (rules_at n list d))

abbrev pub older_policy_checks : List Client → List NamedList → ℕ → Data → List (Option ConfigFault)
older_policy_checks clients lists n d = older_list_checks clients lists n Import d ++ older_list_checks clients lists n Export d

-- each rule is the list's own
abbrev pub older_policy_from : List Client → List NamedList → ℕ → Data → Stated
older_policy_from clients lists n d = record {
  import = map Own (rules_from clients lists n Import (value_or [] (rules_at n Import d)));
  export = map Own (rules_from clients lists n Export (value_or [] (rules_at n Export d)));
}

abbrev pub older_document_checks : Data → List (Option ConfigFault)
older_document_checks d =
    let tables = client_tables d in
    let lists = list_tables d in
    top_checks d
    ++ fault_in (clients_at d)
    ∷ fault_in (lists_at d)
    ∷ fault_in (stranger older_top_keys the_top d)
    ∷ (clients_checks tables ++ (named_lists_checks lists ++ checks_from (older_policy_checks (clients_from tables) (named_lists_from lists)) 1 tables))

abbrev pub older_configuration_of : Data → Configuration
older_configuration_of d =
    let tables = client_tables d in
    let clients = clients_from tables in
    let lists = named_lists_from (list_tables d) in
    record { top = top_of d; clients = clients; lists = lists; shared = []; policies = each_from (older_policy_from clients lists) 1 tables }

-- it is the configuration that it was, or has the fault that it had
abbrev pub AnswersAsBefore : Data → Type 0
AnswersAsBefore d = answer (document_checks d) (configuration_of d) ≡ answer (older_document_checks d) (older_configuration_of d)
