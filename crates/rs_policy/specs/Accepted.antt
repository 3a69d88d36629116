-- What an accepted text says: at each key the value that its check reads there, and no key besides.
use Rattle.std.specs.Prelude.{◌≡◌, ℕ, ◌+◌, true, false, List, [], ◌∷◌, bytes_eq, Option, Some, Ok, ⊤}
use Rattle.std.specs.List.{AllPairs}
use Rattle.toml.specs.Data.{Data, Members, table}
use Rattle.toml.specs.Parse.{parse_document}
use Rattle.rs_octets.specs.Prefixes.{Prefix}
use Rattle.rs_attrs.specs.declared.patterns.CommunityPattern.{CommunityPattern}
use Rattle.rs_attrs.specs.declared.patterns.LargeCommunityPattern.{LargeCommunityPattern}
use Rattle.rs_policy.specs.Keys.{top_keys, client_keys, named_list_keys, shared_keys, rule_keys, use_keys}
use Rattle.rs_policy.specs.Values.{has_only}
use Rattle.rs_policy.specs.NamedLists.{list_name_at, has_entries, prefixes_at, ases_at, is_same_name}
use Rattle.rs_policy.specs.Configuration.{Client, NamedList, SharedRules, Stated, Configuration}
use Rattle.rs_policy.specs.Rules.{prefix_at, min_at, max_at, range_with, prefix_in_at, from_at, path_has_at, path_longer_at, path_in_at, origin_as_at, origin_in_at, first_as_is_peer_at, community_at, large_community_at, next_hop_is_peer_at, disposition_at, preference_at, strip_at, strip_large_at, action_with}
use Rattle.rs_policy.specs.Documents.{server_as_at, identifier_at, hold_at, default_at, flag_at, clients_at, lists_at, all_shared_at, name_at, client_as_at, listen_at, peer_at, limit_at, is_same, shared_name_at, shared_rules_at, has_use, use_at, rules_at, rule_place, config_of}
use Rattle.rs_policy.specs.declared.faults.Key.TheVariants as K
use Rattle.rs_policy.specs.declared.faults.List.{List as RuleList}
use Rattle.rs_policy.specs.declared.faults.List.TheVariants.{Import, Export, Shared}
use Rattle.rs_policy.specs.declared.faults.Place.{Place}
use Rattle.rs_policy.specs.declared.rules.Disposition.{Disposition}
use Rattle.rs_policy.specs.declared.rules.Range.{Range}
use Rattle.rs_policy.specs.declared.rules.Stripping.{Stripping}
use Rattle.rs_policy.specs.declared.rules.Action.{Action}
use Rattle.rs_policy.specs.declared.rules.Rule.{Rule}
use Rattle.rs_policy.specs.declared.rules.Item.{Item}
use Rattle.rs_policy.specs.declared.rules.Item.TheVariants.{Own, Use}
use Rattle.rs_policy.specs.declared.rules.Tests.{Tests}
use Rattle.rs_policy.specs.declared.config.top.Top.{Top}

pub record SaysTop (d : Data) (top : Top) : Type 0 where
  pub server_as : server_as_at d ≡ Ok top.server_as
  pub identifier : identifier_at d ≡ Ok top.identifier
  pub hold : hold_at d ≡ Ok top.hold
  pub default : default_at d ≡ Ok top.default
  pub extended : flag_at K.Extended d ≡ Ok top.extended
  pub refresh : flag_at K.Refresh d ≡ Ok top.refresh
  pub multiprotocol : flag_at K.Multiprotocol d ≡ Ok top.multiprotocol

pub record SaysClient (n : ℕ) (d : Data) (c : Client) : Type 0 where
  pub name : name_at n d ≡ Ok c.name
  pub client_as : client_as_at n d ≡ Ok c.client_as
  pub listen : listen_at n d ≡ Ok c.listen
  pub peer : peer_at n d ≡ Ok c.peer
  pub limit : limit_at n d ≡ Ok c.limit
  pub only : has_only client_keys d ≡ true

pub record SaysNamedList (n : ℕ) (d : Data) (l : NamedList) : Type 0 where
  pub name : list_name_at n d ≡ Ok l.name
  pub some : has_entries d ≡ true
  pub prefixes : prefixes_at n d ≡ Ok l.prefixes
  pub ases : ases_at n d ≡ Ok l.ases
  pub only : has_only named_list_keys d ≡ true

pub record SaysRange (place : Place) (d : Data) (range : Option Range) : Type 0 where
  pub prefix : Option Prefix
  pub min : ℕ
  pub max : ℕ
  pub prefix_is : prefix_at place d ≡ Ok prefix
  pub min_is : min_at prefix place d ≡ Ok min
  pub max_is : max_at prefix min place d ≡ Ok max
  pub range_is : range ≡ range_with prefix min max

pub record SaysTests (clients : List Client) (lists : List NamedList) (place : Place) (d : Data) (tests : Tests) : Type 0 where
  pub prefix_in : prefix_in_at lists place d ≡ Ok tests.prefix_in
  pub from : from_at clients place d ≡ Ok tests.from
  pub path_has : path_has_at place d ≡ Ok tests.path_has
  pub path_longer : path_longer_at place d ≡ Ok tests.path_longer
  pub path_in : path_in_at lists place d ≡ Ok tests.path_in
  pub origin_as : origin_as_at place d ≡ Ok tests.origin_as
  pub origin_in : origin_in_at lists place d ≡ Ok tests.origin_in
  pub first_as_is_peer : first_as_is_peer_at place d ≡ Ok tests.first_as_is_peer
  pub community : community_at place d ≡ Ok tests.community
  pub large_community : large_community_at place d ≡ Ok tests.large_community
  pub next_hop_is_peer : next_hop_is_peer_at place d ≡ Ok tests.next_hop_is_peer

pub record SaysAction (place : Place) (d : Data) (action : Action) : Type 0 where
  pub disposition : Disposition
  pub preference : Option ℕ
  pub strip : Stripping CommunityPattern
  pub strip_large : Stripping LargeCommunityPattern
  pub disposition_is : disposition_at place d ≡ Ok disposition
  pub preference_is : preference_at disposition place d ≡ Ok preference
  pub strip_is : strip_at disposition place d ≡ Ok strip
  pub strip_large_is : strip_large_at disposition place d ≡ Ok strip_large
  pub action_is : action ≡ action_with disposition preference strip strip_large

pub record SaysRule (clients : List Client) (lists : List NamedList) (place : Place) (d : Data) (rule : Rule) : Type 0 where
  pub range : SaysRange place d rule.range
  pub tests : SaysTests clients lists place d rule.tests
  pub action : SaysAction place d rule.action
  pub only : has_only rule_keys d ≡ true

-- each table, counted from n, says what stands at its place of a list
abbrev pub SaysEach : {A : Type 0} → (ℕ → Data → A → Type 0) → ℕ → List Data → List A → Type 0
SaysEach R n [] [] = ⊤
SaysEach R n [] (x ∷ xs) = ⊥
SaysEach R n (d ∷ ds) [] = ⊥
SaysEach R n (d ∷ ds) (x ∷ xs) = R n d x × SaysEach R (n + 1) ds xs

pub record SaysShared (clients : List Client) (lists : List NamedList) (n : ℕ) (d : Data) (s : SharedRules) : Type 0 where
  pub name : shared_name_at n d ≡ Ok s.name
  pub tables : List Data
  pub tables_are : shared_rules_at n d ≡ Ok tables
  pub each : SaysEach (λ r d rule. SaysRule clients lists (rule_place n Shared r) d rule) 1 tables s.rules
  pub only : has_only shared_keys d ≡ true

-- a table of a client's list is a rule, or names rules
abbrev pub SaysItem : List Client → List NamedList → List SharedRules → Place → Data → Item → Type 0
SaysItem clients lists shared place d (Own rule) = (has_use d ≡ false) × SaysRule clients lists place d rule
SaysItem clients lists shared place d (Use n) = (use_at shared place d ≡ Ok n) × (has_only use_keys d ≡ true)

pub record SaysItems (clients : List Client) (lists : List NamedList) (shared : List SharedRules) (n : ℕ) (list : RuleList) (d : Data) (items : List Item) : Type 0 where
  pub tables : List Data
  pub tables_are : rules_at n list d ≡ Ok tables
  pub each : SaysEach (λ r d item. SaysItem clients lists shared (rule_place n list r) d item) 1 tables items

pub record SaysPolicy (clients : List Client) (lists : List NamedList) (shared : List SharedRules) (n : ℕ) (d : Data) (policy : Stated) : Type 0 where
  pub import : SaysItems clients lists shared n Import d policy.import
  pub export : SaysItems clients lists shared n Export d policy.export

pub record Says (d : Data) (s : Configuration) : Type 0 where
  pub top : SaysTop d s.top
  pub only : has_only top_keys d ≡ true
  pub tables : List Data
  pub tables_are : clients_at d ≡ Ok tables
  pub clients : SaysEach SaysClient 1 tables s.clients
  pub none_twice : AllPairs (λ earlier later. is_same later earlier ≡ false) s.clients
  pub lists_tables : List Data
  pub lists_are : lists_at d ≡ Ok lists_tables
  pub lists : SaysEach SaysNamedList 1 lists_tables s.lists
  pub no_list_twice : AllPairs (λ earlier later. is_same_name later earlier ≡ false) s.lists
  pub shared_tables : List Data
  pub shared_are : all_shared_at d ≡ Ok shared_tables
  pub rules : SaysEach (SaysShared s.clients s.lists) 1 shared_tables s.shared
  pub no_rules_twice : AllPairs (λ earlier later. bytes_eq later.name earlier.name ≡ false) s.shared
  pub policies : SaysEach (SaysPolicy s.clients s.lists s.shared) 1 tables s.policies

-- a text that is accepted is a document, and the configuration is what it says
abbrev pub AcceptedSays : Type 0
AcceptedSays =
    (text : List ℕ) (s : Configuration)
    → config_of text ≡ Ok s → (t : Members) × ((parse_document text ≡ Some t) × Says (table t) s)
