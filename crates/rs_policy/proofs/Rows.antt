-- Worked rows, by computation: documents with their faults, a configuration, verdicts, and what may change.
use Rattle.std.specs.Prelude.{◌≡◌, ℕ, pos, true, false, List, [], ◌∷◌, ◌++◌, replicate, codes, Option, Some, None, Result, Ok, Err, refl, ⊤}
use Rattle.toml.specs.Data.{Data, string, integer, boolean, array, table, Items, no_items, item, Members, no_members, member}
use Rattle.rs_octets.specs.Prefixes.{Prefix}
use Rattle.rs_attrs.specs.Meaning.{Attribute}
use Rattle.rs_attrs.specs.Stripping.{Taken}
use Rattle.rs_attrs.specs.declared.patterns.CommunityPattern.{CommunityPattern}
use Rattle.rs_attrs.specs.declared.patterns.LargeCommunityPattern.{LargeCommunityPattern}
use Rattle.rs_policy.specs.Texts.{number_to, parted, address_of, endpoint_of, prefix_of, community_of, large_community_of, pattern_of, large_pattern_of, lengths_of, prefix_range_of, as_range_of}
use Rattle.rs_policy.specs.Patterns.{tests_name_peer}
use Rattle.rs_policy.specs.Values.{keyed, entries_at, entries_from, entry_place, list_place, required_at, optional_at, tables_at, needed_tables_at, some_tables_at, has_only, answer, each_from, checks_from}
use Rattle.rs_policy.specs.Configuration.{Configuration, no_policy}
use Rattle.rs_policy.specs.NamedLists.{entries_needed, named_list_checks, named_list_from}
use Rattle.rs_policy.specs.Rules.{range_checks, range_of, stripping_at, action_checks, action_of, test_checks, tests_of}
use Rattle.rs_policy.specs.Documents.{the_top, top_of, top_checks, client_place, client_from, client_checks, rule_place, shared_place, shared_from, shared_checks, use_checks, item_checks, item_of, document_checks, configuration_of}
use Rattle.rs_policy.specs.Verdicts.{Judgement, dropped, passed, attributes_match, matches, outcome, verdict}
use Rattle.rs_policy.specs.Reasons.{decider, reasons}
use Rattle.rs_policy.specs.Replacing.{other_in_top, other_in_client, other_in_clients, first_fixed}
use Rattle.rs_policy.specs.declared.faults.Key.{Key}
use Rattle.rs_policy.specs.declared.faults.Key.TheVariants as K
use Rattle.rs_policy.specs.declared.faults.List.TheVariants.{Import, Shared}
use Rattle.rs_policy.specs.declared.faults.Place.{Place}
use Rattle.rs_policy.specs.declared.faults.ConfigFault.{ConfigFault}
use Rattle.rs_policy.specs.declared.faults.ConfigFault.TheVariants.{Missing, BadValue, Twice, TwiceList, TwiceRules, TooMany}
use Rattle.rs_policy.specs.declared.rules.Disposition.TheVariants as D
use Rattle.rs_policy.specs.declared.rules.reasons.Decider.TheVariants as W
use Rattle.rs_policy.specs.declared.rules.reasons.Reasons.{Reasons}

-- ---- documents: what TOML makes of a text

abbrev Fields : Type 0
Fields = List (List ℕ × Data)

abbrev members : Fields → Members
members [] = no_members
members (field ∷ fields) = member field.0 field.1 (members fields)

abbrev items : List Data → Items
items [] = no_items
items (d ∷ ds) = item d (items ds)

abbrev strings : List (List ℕ) → List Data
strings [] = []
strings (t ∷ ts) = string t ∷ strings ts

abbrev texts : List (List ℕ) → Data
texts ts = array (items (strings ts))

abbrev number : ℕ → Data
number n = integer (pos n)

abbrev tables : List Fields → List Data
tables [] = []
tables (fields ∷ more) = table (members fields) ∷ tables more

abbrev array_of : List Fields → Data
array_of more = array (items (tables more))

-- ---- an exchange

abbrev top : Fields → Data
top more = table (members ((codes "as", number 64500) ∷ (codes "identifier", string (codes "192.0.2.1")) ∷ more))

abbrev client : List ℕ → ℕ → List ℕ → List ℕ → Fields → Fields
client name as_number listen peer more =
    (codes "name", string name)
    ∷ (codes "as", number as_number)
    ∷ (codes "listen", string listen)
    ∷ (codes "peer", string peer)
    ∷ more

abbrev a : Fields → Fields
a more = client (codes "a") 64496 (codes "127.0.0.1:17901") (codes "192.0.2.11") more

abbrev b : Fields → Fields
b more = client (codes "b") 64497 (codes "127.0.0.1:17902") (codes "192.0.2.12") more

abbrev exchange : Fields → Fields → Fields → Data
exchange more of_a of_b = top ((codes "client", array_of (a of_a ∷ b of_b ∷ [])) ∷ more)

abbrev clients : List Fields → Data
clients all = top ((codes "client", array_of all) ∷ [])

-- a has this import list
abbrev importing : List Fields → Data
importing rules = exchange [] ((codes "import", array_of rules) ∷ []) []

abbrev answered : Data → Result Configuration ConfigFault
answered d = answer (document_checks d) (configuration_of d)

-- ---- faults

abbrev AreRefused : List (Data × ConfigFault) → Type 0
AreRefused [] = ⊤
AreRefused (row ∷ rows) = (answered row.0 ≡ Err row.1) × AreRefused rows

abbrev at_top : Key → Place
at_top key = keyed the_top key

abbrev at_client : ℕ → Key → Place
at_client n key = keyed (client_place n) key

abbrev at_rule : Key → Place
at_rule key = keyed (rule_place 1 Import 1) key

abbrev refused_tops : List (Data × ConfigFault)
refused_tops =
    (table (members ((codes "as", number 64500) ∷ [])), Missing (at_top K.Identifier))
    ∷ (table (members ((codes "as", number 0) ∷ [])), BadValue (at_top K.As))
    ∷ (table (members ((codes "as", number 4294967296) ∷ [])), BadValue (at_top K.As))
    ∷ (table (members ((codes "as", string (codes "64500")) ∷ [])), BadValue (at_top K.As))
    ∷ (table (members ((codes "as", number 1) ∷ (codes "identifier", string (codes "0.0.0.0")) ∷ [])), BadValue (at_top K.Identifier))
    ∷ (table (members ((codes "as", number 1) ∷ (codes "identifier", string (codes "192.0.2.01")) ∷ [])), BadValue (at_top K.Identifier))
    ∷ (top ((codes "hold", number 2) ∷ []), BadValue (at_top K.Hold))
    ∷ (top ((codes "hold", number 3) ∷ []), Missing (at_top K.Client))
    ∷ (top ((codes "hold", number 65536) ∷ []), BadValue (at_top K.Hold))
    ∷ (top ((codes "default", string (codes "maybe")) ∷ []), BadValue (at_top K.Default))
    ∷ (top ((codes "extended", number 1) ∷ []), BadValue (at_top K.Extended))
    ∷ (clients [], Missing (at_top K.Client))
    ∷ (exchange ((codes "colour", number 1) ∷ []) [] [], BadValue (at_top K.Other))
    ∷ []

abbrev refused_clients : List (Data × ConfigFault)
refused_clients =
    (clients (a [] ∷ a [] ∷ []), Twice 2)
    ∷ (clients (a [] ∷ client (codes "z") 1 (codes "127.0.0.1:17901") (codes "192.0.2.11") [] ∷ []), Twice 2)
    ∷ (exchange [] ((codes "colour", number 1) ∷ []) [], BadValue (at_client 1 K.Other))
    ∷ (exchange [] [] ((codes "limit", number 0) ∷ []), BadValue (at_client 2 K.Limit))
    ∷ (clients (client (codes "a b") 1 (codes "127.0.0.1:17901") (codes "192.0.2.11") [] ∷ []), BadValue (at_client 1 K.Name))
    ∷ (clients (client (codes "a") 1 (codes "127.0.0.1:0") (codes "192.0.2.11") [] ∷ []), BadValue (at_client 1 K.Listen))
    ∷ (clients (client (codes "a") 1 (codes "127.0.0.1:0179") (codes "192.0.2.11") [] ∷ []), BadValue (at_client 1 K.Listen))
    ∷ (clients (client (codes "a") 1 (codes "127.0.0.1:179") (codes "192.0.2.256") [] ∷ []), BadValue (at_client 1 K.Peer))
    ∷ (importing (replicate 65 []), TooMany (at_client 1 K.Import))
    ∷ []

abbrev refused_rules : List (Data × ConfigFault)
refused_rules =
    (importing (((codes "prefix", string (codes "10.0.0.0/24")) ∷ (codes "min", number 25) ∷ (codes "max", number 24) ∷ []) ∷ []), BadValue (at_rule K.Max))
    ∷ (importing (((codes "prefix", string (codes "10.0.0.0/24")) ∷ (codes "min", number 23) ∷ []) ∷ []), BadValue (at_rule K.Min))
    ∷ (importing (((codes "prefix", string (codes "10.0.0.0/33")) ∷ []) ∷ []), BadValue (at_rule K.Prefix))
    ∷ (importing (((codes "min", number 24) ∷ []) ∷ []), BadValue (at_rule K.Min))
    ∷ (importing (((codes "max", number 24) ∷ []) ∷ []), BadValue (at_rule K.Max))
    ∷ (importing (((codes "from", string (codes "c")) ∷ []) ∷ []), BadValue (at_rule K.From))
    ∷ (importing (((codes "community", string (codes "65536:1")) ∷ []) ∷ []), BadValue (at_rule K.Community))
    ∷ (importing (((codes "community", string (codes "*:1")) ∷ []) ∷ []), BadValue (at_rule K.Community))
    ∷ (importing (((codes "community", string (codes "0:peer")) ∷ []) ∷ []), BadValue (at_rule K.Community))
    ∷ (importing (((codes "large_community", string (codes "64500:1:peer")) ∷ []) ∷ []), BadValue (at_rule K.LargeCommunity))
    ∷ (importing (((codes "large_community", string (codes "64500:*:1")) ∷ []) ∷ []), BadValue (at_rule K.LargeCommunity))
    ∷ (importing (((codes "large_community", string (codes "64500:1:4294967296")) ∷ []) ∷ []), BadValue (at_rule K.LargeCommunity))
    ∷ (importing ([] ∷ []), Missing (at_rule K.Action))
    ∷ (importing (((codes "action", string (codes "drop")) ∷ (codes "preference", number 5) ∷ []) ∷ []), BadValue (at_rule K.Preference))
    ∷ (importing (((codes "action", string (codes "drop")) ∷ (codes "strip", string (codes "all")) ∷ []) ∷ []), BadValue (at_rule K.Strip))
    ∷ (importing (((codes "action", string (codes "drop")) ∷ (codes "strip_large", texts []) ∷ []) ∷ []), BadValue (at_rule K.StripLarge))
    ∷ (importing (((codes "action", string (codes "pass")) ∷ (codes "strip", texts (codes "0:peer" ∷ [])) ∷ []) ∷ []), BadValue (at_rule K.Strip))
    ∷ (importing (((codes "action", string (codes "pass")) ∷ (codes "strip_large", texts (codes "64500:1" ∷ [])) ∷ []) ∷ []), BadValue (at_rule K.StripLarge))
    ∷ (importing (((codes "action", string (codes "pass")) ∷ (codes "preference", number 4294967296) ∷ []) ∷ []), BadValue (at_rule K.Preference))
    ∷ (importing (((codes "action", string (codes "pass")) ∷ (codes "colour", number 1) ∷ []) ∷ []), BadValue (at_rule K.Other))
    ∷ []

-- lists before two clients
abbrev listing : List Fields → Data
listing lists = exchange ((codes "list", array_of lists) ∷ []) [] []

abbrev named : List ℕ → Fields → Fields
named name fields = (codes "name", string name) ∷ fields

abbrev prefixes : List (List ℕ) → Fields
prefixes ts = (codes "prefixes", texts ts) ∷ []

abbrev refused_lists : List (Data × ConfigFault)
refused_lists =
    (listing ([] ∷ []), Missing (keyed (list_place 1) K.Name))
    ∷ (listing (named (codes "l") [] ∷ []), Missing (keyed (list_place 1) K.Prefixes))
    ∷ (listing (named (codes "l") (prefixes (codes "10.0.0.0/8^+" ∷ codes "10.0.0.0" ∷ [])) ∷ []), BadValue (entry_place 1 K.Prefixes 2))
    ∷ (listing (named (codes "l") (prefixes (codes "10.0.0.0/8^24-16" ∷ [])) ∷ []), BadValue (entry_place 1 K.Prefixes 1))
    ∷ (listing (named (codes "l") (prefixes (codes "192.0.2.1/32^-" ∷ [])) ∷ []), BadValue (entry_place 1 K.Prefixes 1))
    ∷ (listing (named (codes "l") ((codes "ases", array (items (number 0 ∷ string (codes "2-1") ∷ []))) ∷ []) ∷ []), BadValue (entry_place 1 K.Ases 2))
    ∷ (listing (named (codes "l") (prefixes []) ∷ named (codes "l") (prefixes []) ∷ []), TwiceList 2)
    ∷ (listing (named (codes "l") ((codes "colour", number 1) ∷ prefixes []) ∷ []), BadValue (keyed (list_place 1) K.Other))
    ∷ []

-- rules that others use, and an import list of a
abbrev sharing : List Fields → List Fields → Data
sharing shared import = exchange ((codes "rules", array_of shared) ∷ []) ((codes "import", array_of import) ∷ []) []

abbrev shared : List ℕ → List Fields → Fields
shared name rules = named name ((codes "rules", array_of rules) ∷ [])

abbrev using : List ℕ → Fields
using name = (codes "use", string name) ∷ []

-- a rule that drops by a test
abbrev naming : List ℕ → List ℕ → Fields
naming test text = (codes "action", string (codes "drop")) ∷ (test, string text) ∷ []

abbrev refused_shared : List (Data × ConfigFault)
refused_shared =
    (sharing ([] ∷ []) [], Missing (keyed (shared_place 1) K.Name))
    ∷ (sharing (named (codes "r") [] ∷ []) [], Missing (keyed (shared_place 1) K.Rules))
    ∷ (sharing (replicate 257 []) [], TooMany (at_top K.Rules))
    ∷ (sharing (shared (codes "r") (replicate 65 []) ∷ []) [], TooMany (keyed (shared_place 1) K.Rules))
    ∷ (sharing (shared (codes "r") ([] ∷ []) ∷ []) [], Missing (keyed (rule_place 1 Shared 1) K.Action))
    ∷ (sharing (shared (codes "r") [] ∷ shared (codes "r") (using (codes "r") ∷ []) ∷ []) [], TwiceRules 2)
    ∷ (sharing (shared (codes "r") [] ∷ shared (codes "s") (using (codes "r") ∷ []) ∷ []) [], Missing (keyed (rule_place 2 Shared 1) K.Action))
    ∷ (sharing (shared (codes "r") [] ∷ []) (using (codes "s") ∷ []), BadValue (at_rule K.Use))
    ∷ (sharing (shared (codes "r") (naming (codes "community") (codes "0:peer") ∷ []) ∷ []) (using (codes "r") ∷ []), BadValue (at_rule K.Use))
    ∷ (sharing (shared (codes "r") [] ∷ []) (((codes "use", string (codes "r")) ∷ (codes "action", string (codes "drop")) ∷ []) ∷ []), BadValue (at_rule K.Other))
    ∷ []

shared_are_refused : AreRefused refused_shared
unfolding answer shared_checks shared_from use_checks tests_name_peer item_checks item_of needed_tables_at top_checks top_of client_checks client_from required_at optional_at tables_at some_tables_at has_only each_from checks_from number_to parted address_of endpoint_of prefix_of community_of range_checks range_of test_checks tests_of stripping_at pattern_of large_pattern_of large_community_of action_checks action_of
shared_are_refused = (refl, (refl, (refl, (refl, (refl, (refl, (refl, (refl, (refl, (refl, tt))))))))))

lists_are_refused : AreRefused refused_lists
unfolding answer shared_checks shared_from use_checks tests_name_peer item_checks item_of needed_tables_at top_checks top_of client_checks client_from named_list_checks named_list_from entries_needed entries_at entries_from required_at optional_at tables_at some_tables_at has_only each_from checks_from number_to parted address_of endpoint_of prefix_of prefix_range_of lengths_of as_range_of
lists_are_refused = (refl, (refl, (refl, (refl, (refl, (refl, (refl, (refl, tt))))))))

tops_are_refused : AreRefused refused_tops
unfolding answer shared_checks shared_from use_checks tests_name_peer item_checks item_of needed_tables_at top_checks top_of client_checks client_from required_at optional_at tables_at some_tables_at has_only each_from checks_from number_to parted address_of endpoint_of
tops_are_refused = (refl, (refl, (refl, (refl, (refl, (refl, (refl, (refl, (refl, (refl, (refl, (refl, (refl, tt)))))))))))))

clients_are_refused : AreRefused refused_clients
unfolding answer shared_checks shared_from use_checks tests_name_peer item_checks item_of needed_tables_at top_checks top_of client_checks client_from required_at optional_at tables_at some_tables_at has_only each_from checks_from number_to parted address_of endpoint_of
clients_are_refused = (refl, (refl, (refl, (refl, (refl, (refl, (refl, (refl, (refl, tt)))))))))

rules_are_refused : AreRefused refused_rules
unfolding answer shared_checks shared_from use_checks tests_name_peer item_checks item_of needed_tables_at top_checks top_of client_checks client_from required_at optional_at tables_at some_tables_at has_only each_from checks_from number_to parted address_of endpoint_of prefix_of community_of range_checks range_of test_checks tests_of stripping_at pattern_of large_pattern_of large_community_of action_checks action_of
rules_are_refused = (refl, (refl, (refl, (refl, (refl, (refl, (refl, (refl, (refl, (refl, (refl, (refl, (refl, (refl, (refl, (refl, (refl, (refl, (refl, (refl, tt))))))))))))))))))))

-- ---- a configuration

read_whole : answered (exchange [] [] ((codes "limit", number 5) ∷ []))
    ≡ Ok (record {
      top = record { server_as = 64500; identifier = 0xc0000201; hold = 90; default = D.Pass; extended = false; refresh = false; multiprotocol = false };
      clients = record { name = codes "a"; client_as = 64496; listen = (0x7f000001, 17901); peer = 0xc000020b; limit = None }
          ∷ record { name = codes "b"; client_as = 64497; listen = (0x7f000001, 17902); peer = 0xc000020c; limit = Some 5 }
          ∷ [];
      lists = [];
      shared = [];
      policies = no_policy ∷ no_policy ∷ [];
    })
unfolding answer shared_checks shared_from use_checks tests_name_peer item_checks item_of needed_tables_at top_checks top_of client_checks client_from required_at optional_at tables_at some_tables_at has_only each_from checks_from number_to parted address_of endpoint_of
read_whole = refl

-- ---- verdicts on a route from a to b

abbrev attribute : ℕ → List ℕ → Attribute
attribute kind value = record { kind = kind; optional = false; transitive = true; partial = false; value = value }

-- ORIGIN, AS_PATH, NEXT_HOP 192.0.2.11
abbrev route : List ℕ → List Attribute
route path = attribute 1 (0 ∷ []) ∷ attribute 2 path ∷ attribute 3 (192 ∷ 0 ∷ 2 ∷ 11 ∷ []) ∷ []

-- AS_PATH 64496
abbrev plain : List Attribute
plain = route (2 ∷ 1 ∷ 0 ∷ 0 ∷ 251 ∷ 240 ∷ [])

-- AS_PATH 64499, and behind it the set of 64496
abbrev set : List Attribute
set = route (2 ∷ 1 ∷ 0 ∷ 0 ∷ 251 ∷ 243 ∷ 1 ∷ 1 ∷ 0 ∷ 0 ∷ 251 ∷ 240 ∷ [])

abbrev prefix : ℕ → ℕ → Prefix
prefix bits len = record { bits = bits; len = len }

-- 198.51.100.0/24
abbrev net : Prefix
net = prefix 0xc6336400 24

-- with this import list of a and this export list of b
abbrev judged : List Fields → List Fields → Prefix → List Attribute → Judgement
judged import export p m =
    verdict (configuration_of (exchange [] ((codes "import", array_of import) ∷ []) ((codes "export", array_of export) ∷ []))) 0 1 p m

-- patterns that are taken away by the import list and by the export list, or nothing
abbrev taking : List CommunityPattern → List LargeCommunityPattern → Taken
taking communities large = record { communities = communities ∷ [] ∷ []; all_communities = false; large = large ∷ [] ∷ []; all_large = false }

abbrev preferring : Judgement → ℕ → Type 0
preferring judgement n = judgement ≡ passed n (taking [] [])

abbrev drops : Fields → List Fields
drops tests = ((codes "action", string (codes "drop")) ∷ tests) ∷ []

abbrev prefers : ℕ → List Fields
prefers n = ((codes "action", string (codes "pass")) ∷ (codes "preference", number n) ∷ []) ∷ []

abbrev within : Fields → List Fields
within lengths = drops ((codes "prefix", string (codes "198.51.100.0/22")) ∷ lengths)

abbrev of_24 : List Fields
of_24 = within ((codes "min", number 24) ∷ (codes "max", number 24) ∷ [])

-- with this list, and with a rule of a that drops what a test finds in it
abbrev by_list : Fields → List ℕ → Prefix → List Attribute → Judgement
by_list entries test p m =
    verdict (configuration_of (exchange ((codes "list", array_of (named (codes "l") entries ∷ [])) ∷ []) ((codes "import", array_of (drops ((test, string (codes "l")) ∷ []))) ∷ []) [])) 0 1 p m

pub record AreInLists : Type 0 where
  pub the_prefix_itself : by_list (prefixes (codes "192.0.2.0/24" ∷ codes "198.51.100.0/24" ∷ [])) (codes "prefix_in") net plain ≡ dropped
  pub not_one_within : preferring (by_list (prefixes (codes "198.51.0.0/16" ∷ [])) (codes "prefix_in") net plain) 100
  pub any_within : by_list (prefixes (codes "198.51.0.0/16^+" ∷ [])) (codes "prefix_in") net plain ≡ dropped
  pub longer_alone : preferring (by_list (prefixes (codes "198.51.100.0/24^-" ∷ [])) (codes "prefix_in") net plain) 100
  pub lengths_between : by_list (prefixes (codes "198.51.0.0/16^22-24" ∷ [])) (codes "prefix_in") net plain ≡ dropped
  pub nothing_in_it : preferring (by_list (prefixes []) (codes "prefix_in") net plain) 100
  pub origin : by_list ((codes "ases", texts (codes "64490-64496" ∷ [])) ∷ []) (codes "origin_in") net plain ≡ dropped
  pub in_a_set_of_the_path : by_list ((codes "ases", texts (codes "64490-64496" ∷ [])) ∷ []) (codes "path_in") net set ≡ dropped
  pub not_in_the_path : preferring (by_list ((codes "ases", array (items (number 64495 ∷ number 64497 ∷ []))) ∷ []) (codes "path_in") net set) 100
  pub no_origin_of_a_set : preferring (by_list ((codes "ases", texts (codes "64490-64499" ∷ [])) ∷ []) (codes "origin_in") net set) 100

are_in_lists : AreInLists
unfolding verdict shared_from tests_name_peer item_of needed_tables_at outcome matches attributes_match top_of client_from named_list_from entries_at entries_from required_at optional_at tables_at some_tables_at each_from number_to parted address_of endpoint_of prefix_of prefix_range_of lengths_of as_range_of community_of range_of tests_of stripping_at pattern_of large_pattern_of large_community_of action_of
are_in_lists = record {
  the_prefix_itself = refl;
  not_one_within = refl;
  any_within = refl;
  longer_alone = refl;
  lengths_between = refl;
  nothing_in_it = refl;
  origin = refl;
  in_a_set_of_the_path = refl;
  not_in_the_path = refl;
  no_origin_of_a_set = refl;
}

-- with rules named r that drop this, and with an import list of a
abbrev by_use : Fields → List Fields → Prefix → List Attribute → Judgement
by_use tests import p m = verdict (configuration_of (sharing (shared (codes "q") [] ∷ shared (codes "r") (drops tests) ∷ []) import)) 0 1 p m

pub record AreUsed : Type 0 where
  pub drops_there : by_use [] (using (codes "r") ∷ []) net plain ≡ dropped
  pub goes_on_behind : preferring (by_use ((codes "path_has", number 64999) ∷ []) (using (codes "r") ∷ prefers 7) net plain) 7
  pub an_earlier_one_decides : preferring (by_use [] ((((codes "action", string (codes "pass")) ∷ (codes "preference", number 7) ∷ []) ∷ using (codes "r") ∷ [])) net plain) 7
  pub none_is_used : preferring (by_use [] (using (codes "q") ∷ []) net plain) 100

are_used : AreUsed
unfolding verdict shared_from tests_name_peer item_of needed_tables_at outcome matches attributes_match top_of client_from required_at optional_at tables_at some_tables_at each_from number_to parted address_of endpoint_of prefix_of community_of range_of tests_of stripping_at pattern_of large_pattern_of large_community_of action_of
are_used = record { drops_there = refl; goes_on_behind = refl; an_earlier_one_decides = refl; none_is_used = refl }

-- which rules decide there
abbrev decided : Fields → List Fields → Reasons
decided tests import = reasons (configuration_of (sharing (shared (codes "q") [] ∷ shared (codes "r") (drops ((codes "path_has", number 64999) ∷ []) ++ drops tests) ∷ []) import)) 0 1 net plain

pub record AreDecided : Type 0 where
  pub by_the_second_that_is_used : decided [] (using (codes "q") ∷ using (codes "r") ∷ []) ≡ record { import = W.Used 2 2 2; export = None }
  pub by_its_own : decided ((codes "path_longer", number 1) ∷ []) (using (codes "r") ∷ prefers 7) ≡ record { import = W.Own 2; export = Some W.Default }
  pub by_none : decided [] (using (codes "q") ∷ []) ≡ record { import = W.Default; export = Some W.Default }

are_decided : AreDecided
unfolding reasons decider shared_from tests_name_peer item_of needed_tables_at outcome matches attributes_match top_of client_from required_at optional_at tables_at some_tables_at each_from number_to parted address_of endpoint_of prefix_of community_of range_of tests_of stripping_at pattern_of large_pattern_of large_community_of action_of
are_decided = record { by_the_second_that_is_used = refl; by_its_own = refl; by_none = refl }

-- a route with these communities and these large communities
abbrev tagged : List ℕ → List ℕ → List Attribute
tagged communities large = plain ++ attribute 8 communities ∷ attribute 32 large ∷ []

-- 64500:7, 64501:7, 0:64501, 0:59904
abbrev of_64500 : List ℕ
of_64500 = 251 ∷ 244 ∷ 0 ∷ 7 ∷ []

abbrev of_64501 : List ℕ
of_64501 = 251 ∷ 245 ∷ 0 ∷ 7 ∷ []

abbrev not_to_64501 : List ℕ
not_to_64501 = 0 ∷ 0 ∷ 251 ∷ 245 ∷ []

abbrev not_to_59904 : List ℕ
not_to_59904 = 0 ∷ 0 ∷ 234 ∷ 0 ∷ []

-- 64500:1:4200000000
abbrev large_to_4200000000 : List ℕ
large_to_4200000000 = 0 ∷ 0 ∷ 251 ∷ 244 ∷ 0 ∷ 0 ∷ 0 ∷ 1 ∷ 250 ∷ 86 ∷ 234 ∷ 0 ∷ []

-- where b has this AS number and this rule in its export list, or uses it there
abbrev toward : ℕ → Fields → List Attribute → Judgement
toward to_as rule m =
    verdict (configuration_of (clients (a [] ∷ client (codes "b") to_as (codes "127.0.0.1:17902") (codes "192.0.2.12") ((codes "export", array_of (rule ∷ [])) ∷ []) ∷ []))) 0 1 net m

abbrev toward_by_use : ℕ → Fields → List Attribute → Judgement
toward_by_use to_as rule m =
    verdict (configuration_of
    (top ((codes "client", array_of (a [] ∷ client (codes "b") to_as (codes "127.0.0.1:17902") (codes "192.0.2.12") ((codes "export", array_of (using (codes "r") ∷ [])) ∷ []) ∷ []))
    ∷ (codes "rules", array_of (shared (codes "r") (rule ∷ []) ∷ [])) ∷ []))) 0 1 net m

abbrev strips_two : Fields
strips_two = (codes "action", string (codes "pass")) ∷ (codes "strip", texts (codes "64500:*" ∷ [])) ∷ (codes "strip_large", texts (codes "64500:1:*" ∷ [])) ∷ []

pub record AreLike : Type 0 where
  pub any_of_64500 : judged [] (naming (codes "community") (codes "64500:*") ∷ []) net (tagged of_64500 []) ≡ dropped
  pub none_of_64501 : preferring (judged [] (naming (codes "community") (codes "64500:*") ∷ []) net (tagged of_64501 [])) 100
  pub not_to_its_peer : toward 64501 (naming (codes "community") (codes "0:peer")) (tagged not_to_64501 []) ≡ dropped
  pub to_another : preferring (toward 64497 (naming (codes "community") (codes "0:peer")) (tagged not_to_64501 [])) 100
  pub a_long_number_is_no_part : preferring (toward 4200000000 (naming (codes "community") (codes "0:peer")) (tagged not_to_59904 [])) 100
  pub large_to_its_peer : toward 4200000000 (naming (codes "large_community") (codes "64500:1:peer")) (tagged of_64500 large_to_4200000000) ≡ dropped
  pub large_to_another : preferring (toward 64501 (naming (codes "large_community") (codes "64500:1:peer")) (tagged of_64500 large_to_4200000000)) 100
  pub large_of_any_data : toward 64501 (naming (codes "large_community") (codes "64500:*:*")) (tagged of_64500 large_to_4200000000) ≡ dropped
  pub by_rules_that_stand_once : toward_by_use 64501 (naming (codes "community") (codes "0:peer")) (tagged not_to_64501 []) ≡ dropped
  pub strips_patterns : judged (strips_two ∷ []) [] net plain
      ≡ passed 100 (taking (record { high = Some 64500; low = None } ∷ []) (record { global = Some 64500; first = Some 1; second = None } ∷ []))

are_like : AreLike
unfolding verdict shared_from tests_name_peer item_of needed_tables_at outcome matches attributes_match top_of client_from required_at optional_at tables_at some_tables_at each_from number_to parted address_of endpoint_of prefix_of community_of range_of tests_of stripping_at pattern_of large_pattern_of large_community_of action_of
are_like = record {
  any_of_64500 = refl;
  none_of_64501 = refl;
  not_to_its_peer = refl;
  to_another = refl;
  a_long_number_is_no_part = refl;
  large_to_its_peer = refl;
  large_to_another = refl;
  large_of_any_data = refl;
  by_rules_that_stand_once = refl;
  strips_patterns = refl;
}

pub record AreJudged : Type 0 where
  pub without_rules : preferring (judged [] [] net plain) 100
  pub a_24_within : judged [] of_24 (prefix 0xc6336700 24) plain ≡ dropped
  pub a_24_outside : preferring (judged [] of_24 (prefix 0xc6336800 24) plain) 100
  pub the_22_itself : preferring (judged [] of_24 (prefix 0xc6336400 22) plain) 100
  pub without_lengths : judged [] (within []) (prefix 0xc6336400 22) plain ≡ dropped
  pub a_24_without_lengths : preferring (judged [] (within []) net plain) 100
  pub export_goes_first : preferring (judged (prefers 200) (prefers 50) net plain) 50
  pub import_where_alone : preferring (judged (prefers 200) (((codes "action", string (codes "pass")) ∷ []) ∷ []) net plain) 200
  pub origin_of_a_sequence : judged [] (drops ((codes "origin_as", number 64496) ∷ [])) net plain ≡ dropped
  pub no_origin_of_a_set : preferring (judged [] (drops ((codes "origin_as", number 64496) ∷ [])) net set) 100
  pub nor_of_the_sequence_before : preferring (judged [] (drops ((codes "origin_as", number 64499) ∷ [])) net set) 100
  pub in_a_set : judged [] (drops ((codes "path_has", number 64496) ∷ [])) net set ≡ dropped
  pub from_a : judged [] (drops ((codes "from", string (codes "a")) ∷ [])) net plain ≡ dropped
  pub from_b : preferring (judged [] (drops ((codes "from", string (codes "b")) ∷ [])) net plain) 100
  pub next_hop_is_peer : judged (drops ((codes "next_hop_is_peer", boolean true) ∷ [])) [] net plain ≡ dropped
  pub first_as_is_peer : judged (drops ((codes "first_as_is_peer", boolean true) ∷ [])) [] net plain ≡ dropped
  pub first_as_is_another : judged (drops ((codes "first_as_is_peer", boolean false) ∷ [])) [] net set ≡ dropped
  pub no_first_as : judged (drops ((codes "first_as_is_peer", boolean false) ∷ [])) [] net (route []) ≡ dropped
  pub a_set_counts_one : judged (drops ((codes "path_longer", number 1) ∷ [])) [] net set ≡ dropped
  pub no_longer : preferring (judged (drops ((codes "path_longer", number 2) ∷ [])) [] net set) 100
  pub first_that_matches : preferring (judged (((codes "action", string (codes "pass")) ∷ (codes "preference", number 1) ∷ []) ∷ drops []) [] net plain) 1
  pub strips : judged (((codes "action", string (codes "pass")) ∷ (codes "strip", array (items (string (codes "64500:1") ∷ []))) ∷ []) ∷ []) (((codes "action", string (codes "pass")) ∷ (codes "strip", string (codes "all")) ∷ []) ∷ []) net plain
      ≡ passed 100 (record (taking (record { high = Some 64500; low = Some 1 } ∷ []) []) { all_communities = true })

are_judged : AreJudged
unfolding verdict shared_from tests_name_peer item_of needed_tables_at outcome matches attributes_match top_of client_from required_at optional_at tables_at some_tables_at each_from number_to parted address_of endpoint_of prefix_of community_of range_of tests_of stripping_at pattern_of large_pattern_of large_community_of action_of
are_judged = record {
  without_rules = refl;
  a_24_within = refl;
  a_24_outside = refl;
  the_22_itself = refl;
  without_lengths = refl;
  a_24_without_lengths = refl;
  export_goes_first = refl;
  import_where_alone = refl;
  origin_of_a_sequence = refl;
  no_origin_of_a_set = refl;
  nor_of_the_sequence_before = refl;
  in_a_set = refl;
  from_a = refl;
  from_b = refl;
  next_hop_is_peer = refl;
  first_as_is_peer = refl;
  first_as_is_another = refl;
  no_first_as = refl;
  a_set_counts_one = refl;
  no_longer = refl;
  first_that_matches = refl;
  strips = refl;
}

-- ---- what may change while the server runs

abbrev first_changed : Data → Data → Option Place
first_changed old new = first_fixed (configuration_of old) (configuration_of new)

abbrev plainly : Data
plainly = exchange [] [] []

pub record AreReplaced : Type 0 where
  pub rules_and_limits : first_changed plainly (exchange ((codes "default", string (codes "drop")) ∷ []) ((codes "limit", number 1) ∷ []) ((codes "export", array_of (drops [])) ∷ [])) ≡ None
  pub not_the_hold_time : first_changed plainly (exchange ((codes "hold", number 30) ∷ []) [] []) ≡ Some (at_top K.Hold)
  pub not_the_number : first_changed plainly (clients (a [] ∷ [])) ≡ Some (at_top K.Client)
  pub not_an_as : first_changed plainly (clients (client (codes "a") 64999 (codes "127.0.0.1:17901") (codes "192.0.2.11") [] ∷ b [] ∷ [])) ≡ Some (at_client 1 K.As)
  pub not_a_peer : first_changed plainly (clients (a [] ∷ client (codes "b") 64497 (codes "127.0.0.1:17902") (codes "192.0.2.13") [] ∷ [])) ≡ Some (at_client 2 K.Peer)

are_replaced : AreReplaced
unfolding first_fixed shared_from item_of needed_tables_at other_in_top other_in_client other_in_clients top_of client_from required_at optional_at tables_at some_tables_at each_from number_to parted address_of endpoint_of
are_replaced = record {
  rules_and_limits = refl;
  not_the_hold_time = refl;
  not_the_number = refl;
  not_an_as = refl;
  not_a_peer = refl;
}
