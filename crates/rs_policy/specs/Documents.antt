-- What the text of a configuration means: the first check that fails, in order, each over the document's table alone,
-- or the configuration where none fails.
use Rattle.std.specs.Prelude.{ℕ, ◌-◌, take, position, is_some, ◌==◌, ◌&&◌, ◌||◌, Bool, false, not, List, [], ◌∷◌, ◌++◌, bytes_eq, Option, Some, None, Result, Ok, Err, if◌then◌else◌}
use Rattle.std.specs.List.{list_any}
use Rattle.toml.specs.Data.{Data, Members, table, as_bool, get}
use Rattle.toml.specs.Parse.{parse_document}
use Rattle.rs_policy.specs.Keys.{key_text, top_keys, client_keys, shared_keys, use_keys}
use Rattle.rs_policy.specs.Texts.{endpoint_of}
use Rattle.rs_policy.specs.Values.{text_as, positive, hold_seconds, address, identifier, disposition_of, name_of, required_at, optional_at, maybe_at, tables_at, needed_tables_at, some_tables_at, fault_in, value_or, stranger, answer, each_from, checks_from}
use Rattle.rs_policy.specs.Configuration.{Client, NamedList, SharedRules, Stated, Configuration}
use Rattle.rs_policy.specs.NamedLists.{named_lists_from, named_lists_checks}
use Rattle.rs_policy.specs.Patterns.{tests_name_peer}
use Rattle.rs_policy.specs.Rules.{has_receiver, rule_checks, rule_of}
use Rattle.rs_policy.specs.declared.faults.Key.{Key}
use Rattle.rs_policy.specs.declared.faults.Key.TheVariants as K
use Rattle.rs_policy.specs.declared.faults.List.{List as RuleList}
use Rattle.rs_policy.specs.declared.faults.List.TheVariants.{Import, Export, Shared}
use Rattle.rs_policy.specs.declared.faults.Place.{Place}
use Rattle.rs_policy.specs.declared.faults.Table.TheVariants as T
use Rattle.rs_policy.specs.declared.faults.ConfigFault.{ConfigFault}
use Rattle.rs_policy.specs.declared.faults.ConfigFault.TheVariants.{Syntax, Twice, TwiceRules}
use Rattle.rs_policy.specs.declared.rules.Disposition.{Disposition}
use Rattle.rs_policy.specs.declared.rules.Disposition.TheVariants.{Pass}
use Rattle.rs_policy.specs.declared.rules.Rule.{Rule}
use Rattle.rs_policy.specs.declared.rules.Item.{Item}
use Rattle.rs_policy.specs.declared.rules.Item.TheVariants.{Own, Use}
use Rattle.rs_policy.specs.declared.config.top.Top.{Top}

-- the top

abbrev pub the_top : Place
the_top = record { table = T.Top; key = K.Other }

abbrev pub server_as_at : Data → Result ℕ ConfigFault
server_as_at = required_at positive the_top K.As

abbrev pub identifier_at : Data → Result ℕ ConfigFault
identifier_at = required_at identifier the_top K.Identifier

abbrev pub hold_at : Data → Result ℕ ConfigFault
hold_at = optional_at hold_seconds 90 the_top K.Hold

abbrev pub default_at : Data → Result Disposition ConfigFault
default_at = optional_at (text_as disposition_of) Pass the_top K.Default

abbrev pub flag_at : Key → Data → Result Bool ConfigFault
flag_at k = optional_at as_bool false the_top k

abbrev pub clients_at : Data → Result (List Data) ConfigFault
clients_at = some_tables_at 512 the_top K.Client

abbrev pub lists_at : Data → Result (List Data) ConfigFault
lists_at = tables_at 1024 the_top K.List

abbrev pub all_shared_at : Data → Result (List Data) ConfigFault
all_shared_at = tables_at 256 the_top K.Rules

unfoldable pub top_of : Data → Top
top_of d = record {
  server_as = value_or 0 (server_as_at d);
  identifier = value_or 0 (identifier_at d);
  hold = value_or 0 (hold_at d);
  default = value_or Pass (default_at d);
  extended = value_or false (flag_at K.Extended d);
  refresh = value_or false (flag_at K.Refresh d);
  multiprotocol = value_or false (flag_at K.Multiprotocol d);
}

unfoldable pub top_checks : Data → List (Option ConfigFault)
top_checks d =
    fault_in (server_as_at d)
    ∷ fault_in (identifier_at d)
    ∷ fault_in (hold_at d)
    ∷ fault_in (default_at d)
    ∷ fault_in (flag_at K.Extended d)
    ∷ fault_in (flag_at K.Refresh d)
    ∷ fault_in (flag_at K.Multiprotocol d)
    ∷ []

-- the clients, counted from 1

abbrev pub client_place : ℕ → Place
client_place n = record { table = T.Client n; key = K.Other }

abbrev pub name_at : ℕ → Data → Result (List ℕ) ConfigFault
name_at n = required_at (text_as name_of) (client_place n) K.Name

abbrev pub client_as_at : ℕ → Data → Result ℕ ConfigFault
client_as_at n = required_at positive (client_place n) K.As

abbrev pub listen_at : ℕ → Data → Result (ℕ × ℕ) ConfigFault
listen_at n = required_at (text_as endpoint_of) (client_place n) K.Listen

abbrev pub peer_at : ℕ → Data → Result ℕ ConfigFault
peer_at n = required_at address (client_place n) K.Peer

abbrev pub limit_at : ℕ → Data → Result (Option ℕ) ConfigFault
limit_at n d = maybe_at positive (client_place n) K.Limit d

unfoldable pub client_from : ℕ → Data → Client
client_from n d = record {
  name = value_or [] (name_at n d);
  client_as = value_or 0 (client_as_at n d);
  listen = value_or (0, 0) (listen_at n d);
  peer = value_or 0 (peer_at n d);
  limit = value_or None (limit_at n d);
}

abbrev pub clients_from : List Data → List Client
clients_from ds = each_from client_from 1 ds

-- the name, or the pair of `listen` and `peer`, of another client
abbrev pub is_same : Client → Client → Bool
is_same a b = bytes_eq a.name b.name || ((a.listen.0 == b.listen.0 && a.listen.1 == b.listen.1) && a.peer == b.peer)

abbrev pub twice : ℕ → List Client → Client → Result (Unit {0}) ConfigFault
twice n earlier c = if list_any (is_same c) earlier then Err (Twice n) else Ok tt

unfoldable pub client_checks : ℕ → List Client → Data → List (Option ConfigFault)
client_checks n earlier d =
    fault_in (name_at n d)
    ∷ fault_in (client_as_at n d)
    ∷ fault_in (listen_at n d)
    ∷ fault_in (peer_at n d)
    ∷ fault_in (limit_at n d)
    ∷ fault_in (stranger client_keys (client_place n) d)
    ∷ fault_in (twice n earlier (client_from n d))
    ∷ []

-- those of each client, beside the clients before it
abbrev pub clients_checks : List Data → List (Option ConfigFault)
clients_checks ds = checks_from (λ n d. client_checks n (take (n - 1) (clients_from ds)) d) 1 ds

-- rules, counted from 1: of a client, or of rules that others use

abbrev pub list_key : RuleList → Key
list_key Import = K.Import
list_key Export = K.Export
list_key Shared = K.Rules

abbrev pub rule_place : ℕ → RuleList → ℕ → Place
rule_place n list r = record { table = T.Rule n list r; key = K.Other }

abbrev pub rules_from : List Client → List NamedList → ℕ → RuleList → List Data → List Rule
rules_from clients lists n list ds = each_from (λ r d. rule_of clients lists (rule_place n list r) d) 1 ds

abbrev pub rules_checks : List Client → List NamedList → ℕ → RuleList → List Data → List (Option ConfigFault)
rules_checks clients lists n list ds = checks_from (λ r d. rule_checks clients lists (rule_place n list r) d) 1 ds

-- rules that others use, counted from 1

abbrev pub shared_place : ℕ → Place
shared_place n = record { table = T.Rules n; key = K.Other }

abbrev pub shared_name_at : ℕ → Data → Result (List ℕ) ConfigFault
shared_name_at n = required_at (text_as name_of) (shared_place n) K.Name

abbrev pub shared_rules_at : ℕ → Data → Result (List Data) ConfigFault
shared_rules_at n = needed_tables_at 64 (shared_place n) K.Rules

abbrev pub shared_twice : ℕ → List SharedRules → List ℕ → Result (Unit {0}) ConfigFault
shared_twice n earlier name = if list_any (λ s. bytes_eq name s.name) earlier then Err (TwiceRules n) else Ok tt

unfoldable pub shared_from : List Client → List NamedList → ℕ → Data → SharedRules
shared_from clients lists n d = record {
  name = value_or [] (shared_name_at n d);
  rules = rules_from clients lists n Shared (value_or [] (shared_rules_at n d));
}

-- the table's own keys before its rules
unfoldable pub shared_checks : List Client → List NamedList → ℕ → List SharedRules → Data → List (Option ConfigFault)
shared_checks clients lists n earlier d =
    fault_in (shared_name_at n d)
    ∷ fault_in (shared_rules_at n d)
    ∷ fault_in (stranger shared_keys (shared_place n) d)
    ∷ fault_in (shared_twice n earlier (value_or [] (shared_name_at n d)))
    ∷ rules_checks clients lists n Shared (value_or [] (shared_rules_at n d))

abbrev pub all_shared_from : List Client → List NamedList → List Data → List SharedRules
all_shared_from clients lists ds = each_from (shared_from clients lists) 1 ds

-- those of each, beside those before it
abbrev pub all_shared_checks : List Client → List NamedList → List Data → List (Option ConfigFault)
all_shared_checks clients lists ds = checks_from (λ n d. shared_checks clients lists n (take (n - 1) (all_shared_from clients lists ds)) d) 1 ds

-- what stands at a place of a client's list: a rule, or the name of rules, alone

abbrev pub rules_name_peer : List Rule → Bool
rules_name_peer rules = list_any (λ rule. tests_name_peer rule.tests) rules

-- none of some rules names the receiver, or they may
abbrev pub may_stand : Bool → List Rule → Bool
may_stand receiver rules = receiver || not (rules_name_peer rules)

-- the place of the rules of this name, from 0, where they may stand in a list that has a receiver or hasn't
abbrev pub shared_named : Bool → List SharedRules → List ℕ → Option ℕ
shared_named receiver shared name = position (λ s. bytes_eq s.name name && may_stand receiver s.rules) shared

abbrev pub use_at : List SharedRules → Place → Data → Result ℕ ConfigFault
use_at shared place d = required_at (text_as (shared_named (has_receiver place.table) shared)) place K.Use d

unfoldable pub use_checks : List SharedRules → Place → Data → List (Option ConfigFault)
use_checks shared place d = fault_in (use_at shared place d) ∷ fault_in (stranger use_keys place d) ∷ []

abbrev pub has_use : Data → Bool
has_use d = is_some (get (key_text K.Use) d)

unfoldable pub item_checks : List Client → List NamedList → List SharedRules → Place → Data → List (Option ConfigFault)
item_checks clients lists shared place d = if has_use d then use_checks shared place d else rule_checks clients lists place d

unfoldable pub item_of : List Client → List NamedList → List SharedRules → Place → Data → Item
item_of clients lists shared place d = if has_use d then Use (value_or 0 (use_at shared place d)) else Own (rule_of clients lists place d)

abbrev pub items_from : List Client → List NamedList → List SharedRules → ℕ → RuleList → List Data → List Item
items_from clients lists shared n list ds = each_from (λ r d. item_of clients lists shared (rule_place n list r) d) 1 ds

abbrev pub items_checks : List Client → List NamedList → List SharedRules → ℕ → RuleList → List Data → List (Option ConfigFault)
items_checks clients lists shared n list ds = checks_from (λ r d. item_checks clients lists shared (rule_place n list r) d) 1 ds

-- the lists of clients, counted from 1

abbrev pub rules_at : ℕ → RuleList → Data → Result (List Data) ConfigFault
rules_at n list d = tables_at 64 (client_place n) (list_key list) d

abbrev pub list_checks : List Client → List NamedList → List SharedRules → ℕ → RuleList → Data → List (Option ConfigFault)
list_checks clients lists shared n list d = fault_in (rules_at n list d) ∷ items_checks clients lists shared n list (value_or [] (rules_at n list d))

abbrev pub list_of_items : List Client → List NamedList → List SharedRules → ℕ → RuleList → Data → List Item
list_of_items clients lists shared n list d = items_from clients lists shared n list (value_or [] (rules_at n list d))

abbrev pub policy_from : List Client → List NamedList → List SharedRules → ℕ → Data → Stated
policy_from clients lists shared n d = record { import = list_of_items clients lists shared n Import d; export = list_of_items clients lists shared n Export d }

abbrev pub policy_checks : List Client → List NamedList → List SharedRules → ℕ → Data → List (Option ConfigFault)
policy_checks clients lists shared n d = list_checks clients lists shared n Import d ++ list_checks clients lists shared n Export d

abbrev pub policies_from : List Client → List NamedList → List SharedRules → List Data → List Stated
policies_from clients lists shared ds = each_from (policy_from clients lists shared) 1 ds

abbrev pub policies_checks : List Client → List NamedList → List SharedRules → List Data → List (Option ConfigFault)
policies_checks clients lists shared ds = checks_from (policy_checks clients lists shared) 1 ds

-- the document

abbrev pub client_tables : Data → List Data
client_tables d = value_or [] (clients_at d)

abbrev pub list_tables : Data → List Data
list_tables d = value_or [] (lists_at d)

abbrev pub shared_tables : Data → List Data
shared_tables d = value_or [] (all_shared_at d)

abbrev pub document_checks : Data → List (Option ConfigFault)
document_checks d =
    let tables = client_tables d in
    let clients = clients_from tables in
    let lists = named_lists_from (list_tables d) in
    top_checks d
    ++ fault_in (clients_at d)
    ∷ fault_in (lists_at d)
    ∷ fault_in (all_shared_at d)
    ∷ fault_in (stranger top_keys the_top d)
    ∷ (clients_checks tables
    ++ (named_lists_checks (list_tables d)
    ++ (all_shared_checks clients lists (shared_tables d)
    ++ policies_checks clients lists (all_shared_from clients lists (shared_tables d)) tables)))

abbrev pub configuration_of : Data → Configuration
configuration_of d =
    let tables = client_tables d in
    let clients = clients_from tables in
    let lists = named_lists_from (list_tables d) in
    let shared = all_shared_from clients lists (shared_tables d) in
    record { top = top_of d; clients = clients; lists = lists; shared = shared; policies = policies_from clients lists shared tables }

abbrev pub config_from : Option Members → Result Configuration ConfigFault
config_from None = Err Syntax
config_from (Some t) = answer (document_checks (table t)) (configuration_of (table t))

-- the configuration of a text, or its first fault
unfoldable pub config_of : List ℕ → Result Configuration ConfigFault
config_of text = config_from (parse_document text)
