-- A rule, and a document, without the later keys means what it meant.
use Rattle.std.proofs.Common.{◌≡◌, ◌+◌, ◌&&◌, ◌||◌, Bool, true, false, List, [], ◌∷◌, ◌++◌, map, Option, Some, None, Result, Ok, Err, refl, sym, ap, ◌∙◌, if◌then◌else◌}
use Rattle.std.specs.Prelude.{ℕ, ◌==◌, not, bytes_eq, option_map}
use Rattle.std.specs.List.{list_any, list_all, AllByRecursion}
use Rattle.std.specs.Ordering.{nat_cmp, is_eq, match_ordering}
use Rattle.std.specs.declared.cmp.Ordering.{Ordering}
use Rattle.std.specs.declared.cmp.Ordering.TheVariants.{Less, Equal, Greater}
use Rattle.std.specs.Cmp.Lexicographic.{slice_cmp}
use Rattle.std.proofs.lemmas.Map.Text.{is_eq-slice_cmp}
use Rattle.toml.specs.Data.{Data, Members, table, string, integer, float, boolean, datetime, array, no_members, member, get, get_member, as_bool}
use Rattle.rs_attrs.specs.Getters.{has_community as has_number}
use Rattle.rs_policy.specs.Keys.{key_text, is_among, top_keys, rule_keys}
use Rattle.rs_policy.specs.Values.{keyed, optional, optional_at, maybe_at, are_among, has_only, stranger, fault_in, value_or, first_failing, or_fault, answer, optional_tables, tables_at, each_from, checks_from, text_as, integer_in}
use Rattle.rs_policy.specs.Configuration.{Client, NamedList, SharedRules, Stated, Configuration, list_at}
use Rattle.rs_policy.specs.NamedLists.{named_lists_checks, named_lists_from}
use Rattle.rs_policy.specs.Documents.{the_top, clients_at, lists_at, all_shared_at, top_of, top_checks, clients_checks, clients_from, rule_place, all_shared_checks, all_shared_from, has_use, use_at, use_checks, item_checks, item_of, rules_at, list_checks, list_of_items, policy_checks, policy_from, policies_checks, policies_from, client_tables, list_tables, shared_tables, document_checks}
use Rattle.rs_policy.specs.Texts.{large_community_of, large_pattern_of}
use Rattle.rs_policy.specs.Rules.{has_receiver, ases_named, prefix_in_at, from_at, path_has_at, path_longer_at, path_in_at, origin_as_at, origin_in_at, first_as_is_peer_at, community_at, large_community_at, next_hop_is_peer_at, range_checks, test_checks, tests_of, disposition_at, disposition_in, preference_at, strip_found, stripping_at, strip_large_at, action_checks, rule_checks, rule_of}
use Rattle.rs_policy.specs.Verdicts.{AnnouncedRoute, in_range, has_prefix, next_hop_is_peer, origin_as_is, origin_in, has_community, has_large_community, holds, path_matches, attributes_match, matches}
use Rattle.rs_policy.specs.Older.{IsOlder, older_keys, older_community_at, older_strip_at, older_action_checks, older_test_checks, older_checks, older_matches, MeansWhatItMeant, IsOlderDocument, uses_none, older_top_keys, older_list_checks, older_policy_checks, older_policy_from, older_configuration_of, AnswersAsBefore}
use Rattle.rs_policy.specs.declared.faults.Key.{Key}
use Rattle.rs_policy.specs.declared.faults.Key.TheVariants as K
use Rattle.rs_policy.specs.declared.faults.List.{List as RuleList}
use Rattle.rs_policy.specs.declared.faults.List.TheVariants.{Import, Export}
use Rattle.rs_policy.specs.declared.faults.Place.{Place}
use Rattle.rs_policy.specs.declared.faults.ConfigFault.{ConfigFault}
use Rattle.rs_policy.specs.declared.faults.ConfigFault.TheVariants.{BadValue}
use Rattle.rs_policy.specs.declared.rules.Disposition.{Disposition}
use Rattle.rs_policy.specs.declared.rules.Stripping.TheVariants.{Named}
use Rattle.rs_policy.specs.declared.rules.Rule.{Rule}
use Rattle.rs_policy.specs.declared.rules.Item.{Item}
use Rattle.rs_policy.specs.declared.rules.Item.TheVariants.{Own, Use}
use Rattle.rs_policy.proofs.Older.Communities.{community_fault, community_alike, strip_alike}

-- ---- a key that isn't there is none of a table's

not_first : (o : Ordering) (behind : Option Data) (d : Data) → match_ordering o behind (Some d) behind ≡ None → (is_eq o ≡ false) × (behind ≡ None)
not_first Less behind d e = (refl, e)
not_first Equal behind d e = cc
not_first Greater behind d e = (refl, e)

-- the key is not that of the first member, and not behind it
not_there : (key text : List ℕ) (d : Data) (ms : Members) → get_member key (member text d ms) ≡ None → (bytes_eq key text ≡ false) × (get_member key ms ≡ None)
not_there key text d ms e =
    let h : (is_eq (slice_cmp nat_cmp key text) ≡ false) × (get_member key ms ≡ None) = not_first (slice_cmp nat_cmp key text) (get_member key ms) d e in
    (sym (is_eq-slice_cmp key text) ∙ h.0, h.1)

any_but : (p : Key → Bool) (xs : List Key) (k : Key) (ys : List Key) → p k ≡ false → list_any p (xs ++ (k ∷ ys)) ≡ list_any p (xs ++ ys)
any_but p [] k ys e = ap (λ b. b || list_any p ys) e
any_but p (x ∷ xs) k ys e = ap (λ b. p x || b) (any_but p xs k ys e)

members_but : (xs : List Key) (k : Key) (ys : List Key) (ms : Members) → get_member (key_text k) ms ≡ None → are_among (xs ++ (k ∷ ys)) ms ≡ are_among (xs ++ ys) ms
members_but xs k ys no_members e = refl
members_but xs k ys (member text d ms) e =
    let h : (bytes_eq (key_text k) text ≡ false) × (get_member (key_text k) ms ≡ None) = not_there (key_text k) text d ms e in
    ap (λ b. b && are_among (xs ++ (k ∷ ys)) ms) (any_but (λ k. bytes_eq (key_text k) text) xs k ys h.0)
    ∙ ap (λ b. is_among (xs ++ ys) text && b) (members_but xs k ys ms h.1)

only_but : (xs : List Key) (k : Key) (ys : List Key) (d : Data) → get (key_text k) d ≡ None → has_only (xs ++ (k ∷ ys)) d ≡ has_only (xs ++ ys) d
unfolding has_only
only_but xs k ys (table ms) e = members_but xs k ys ms e
only_but xs k ys (string x) e = refl
only_but xs k ys (integer x) e = refl
only_but xs k ys (float x) e = refl
only_but xs k ys (boolean x) e = refl
only_but xs k ys (datetime x) e = refl
only_but xs k ys (array x) e = refl

abbrev front : List Key
front = K.Prefix ∷ K.Min ∷ K.Max ∷ K.PrefixIn ∷ K.From ∷ K.PathHas ∷ []

abbrev middle : List Key
middle = K.OriginAs ∷ K.OriginIn ∷ []

abbrev last : List Key
last = K.NextHopIsPeer ∷ K.Action ∷ K.Preference ∷ K.Strip ∷ []

abbrev behind : List Key
behind = K.Community ∷ K.LargeCommunity ∷ (last ++ (K.StripLarge ∷ []))

only_alike : (d : Data) → IsOlder d → has_only rule_keys d ≡ has_only older_keys d
only_alike d older =
    only_but front K.PathLonger (K.PathIn ∷ (middle ++ (K.FirstAsIsPeer ∷ behind))) d older.path_longer
    ∙ (only_but front K.PathIn (middle ++ (K.FirstAsIsPeer ∷ behind)) d older.path_in
    ∙ (only_but (front ++ middle) K.FirstAsIsPeer behind d older.first_as_is_peer
    ∙ (only_but (front ++ (middle ++ (K.Community ∷ []))) K.LargeCommunity (last ++ (K.StripLarge ∷ [])) d older.large_community
    ∙ only_but (front ++ (middle ++ (K.Community ∷ last))) K.StripLarge [] d older.strip_large)))

strangers_alike : (place : Place) (d : Data) → IsOlder d → fault_in (stranger rule_keys place d) ≡ fault_in (stranger older_keys place d)
strangers_alike place d older = ap (λ b. fault_in {A = Unit {0}} (if b then Ok tt else Err (BadValue (keyed place K.Other)))) (only_alike d older)

-- ---- its first fault

absent : {A : Type 0} (reads : Data → Option A) (place : Place) (k : Key) (d : Data) → get (key_text k) d ≡ None → maybe_at reads place k d ≡ Ok None
unfolding optional_at
absent reads place k d e = ap (λ o. optional (λ v. option_map Some (reads v)) None (keyed place k) o) e

behind_all : (xs ys zs : List (Option ConfigFault)) → first_failing ys ≡ first_failing zs → first_failing (xs ++ ys) ≡ first_failing (xs ++ zs)
behind_all [] ys zs e = e
behind_all (None ∷ xs) ys zs e = behind_all xs ys zs e
behind_all (Some f ∷ xs) ys zs e = refl

unfailing : (xs : List (Option ConfigFault)) (o : Option ConfigFault) (ys : List (Option ConfigFault)) → o ≡ None → first_failing (xs ++ (o ∷ ys)) ≡ first_failing (xs ++ ys)
unfailing xs o ys e = ap (λ (x : Option ConfigFault). first_failing (xs ++ (x ∷ ys))) e ∙ behind_all xs (None ∷ ys) ys refl

none_stripped : {A : Type 0} (reads : Data → Option A) (k : Key) (disposition : Disposition) (place : Place) (d : Data) → get (key_text k) d ≡ None → stripping_at reads k disposition place d ≡ Ok (Named [])
unfolding stripping_at
none_stripped reads k disposition place d e = ap (strip_found reads disposition (keyed place k)) e

tests_alike : (clients : List Client) (lists : List NamedList) (place : Place) (d : Data) (more : List (Option ConfigFault)) → IsOlder d
    → first_failing (test_checks clients lists place d ++ more) ≡ first_failing (older_test_checks clients lists place d ++ more)
unfolding test_checks
tests_alike clients lists place d more older =
    let first : List (Option ConfigFault) = fault_in (prefix_in_at lists place d) ∷ fault_in (from_at clients place d) ∷ fault_in (path_has_at place d) ∷ [] in
    let origin : List (Option ConfigFault) = fault_in (origin_as_at place d) ∷ fault_in (origin_in_at lists place d) ∷ [] in
    let last : List (Option ConfigFault) = fault_in (next_hop_is_peer_at place d) ∷ more in
    let communities : List (Option ConfigFault) = fault_in (community_at place d) ∷ fault_in (large_community_at place d) ∷ last in
    unfailing first (fault_in (path_longer_at place d)) (fault_in (path_in_at lists place d) ∷ (origin ++ (fault_in (first_as_is_peer_at place d) ∷ communities)))
    (ap fault_in (absent (integer_in 0 4294967295) place K.PathLonger d older.path_longer))
    ∙ (unfailing first (fault_in (path_in_at lists place d)) (origin ++ (fault_in (first_as_is_peer_at place d) ∷ communities))
    (ap fault_in (absent (text_as (ases_named lists)) place K.PathIn d older.path_in))
    ∙ (unfailing (first ++ origin) (fault_in (first_as_is_peer_at place d)) communities
    (ap fault_in (absent as_bool place K.FirstAsIsPeer d older.first_as_is_peer))
    ∙ (ap (λ (o : Option ConfigFault). first_failing ((first ++ origin) ++ (o ∷ fault_in (large_community_at place d) ∷ last))) (community_fault place d older.community)
    ∙ unfailing ((first ++ origin) ++ (fault_in (older_community_at place d) ∷ [])) (fault_in (large_community_at place d)) last
    (ap fault_in (absent (text_as (large_community_of (has_receiver place.table))) place K.LargeCommunity d older.large_community)))))

actions_alike : (place : Place) (d : Data) (more : List (Option ConfigFault)) → IsOlder d
    → first_failing (action_checks place d ++ more) ≡ first_failing (older_action_checks place d ++ more)
unfolding action_checks
actions_alike place d more older =
    let disposition : Disposition = disposition_in place d in
    let first : List (Option ConfigFault) = fault_in (disposition_at place d) ∷ fault_in (preference_at disposition place d) ∷ [] in
    ap (λ (o : Option ConfigFault). first_failing (first ++ (o ∷ fault_in (strip_large_at disposition place d) ∷ more))) (strip_alike disposition place d older.strip).fault
    ∙ unfailing (first ++ (fault_in (older_strip_at disposition place d) ∷ [])) (fault_in (strip_large_at disposition place d)) more
    (ap fault_in (none_stripped (text_as large_pattern_of) K.StripLarge disposition place d older.strip_large))

faults_alike : (clients : List Client) (lists : List NamedList) (place : Place) (d : Data) → IsOlder d
    → first_failing (rule_checks clients lists place d) ≡ first_failing (older_checks clients lists place d)
faults_alike clients lists place d older =
    let known : List (Option ConfigFault) = fault_in (stranger rule_keys place d) ∷ [] in
    let ends : List (Option ConfigFault) = action_checks place d ++ known in
    let older_ends : List (Option ConfigFault) = older_action_checks place d ++ known in
    behind_all (range_checks place d) (test_checks clients lists place d ++ ends) (older_test_checks clients lists place d ++ (older_action_checks place d ++ fault_in (stranger older_keys place d) ∷ []))
    (tests_alike clients lists place d ends older
    ∙ (behind_all (older_test_checks clients lists place d) ends older_ends (actions_alike place d known older)
    ∙ ap (λ (o : Option ConfigFault). first_failing (older_test_checks clients lists place d ++ (older_action_checks place d ++ o ∷ []))) (strangers_alike place d older)))

-- ---- the routes that it matches

and_true : (b : Bool) → (b && true) ≡ b
and_true true = refl
and_true false = refl

-- with this answer to the test of the community
abbrev matches_by : Bool → List NamedList → Rule → AnnouncedRoute → Bool
matches_by b lists rule r =
    holds (λ range. in_range range r.prefix) rule.range
    && (holds (λ n. has_prefix (list_at lists n) r.prefix) rule.tests.prefix_in
    && (holds (λ c. c == r.from) rule.tests.from
    && (holds (λ b. if b then next_hop_is_peer r else not (next_hop_is_peer r)) rule.tests.next_hop_is_peer
    && (b
    && (holds (λ t. has_large_community t r) rule.tests.large_community
    && (holds (λ n. origin_as_is n r) rule.tests.origin_as
    && (holds (λ n. origin_in (list_at lists n) r) rule.tests.origin_in
    && path_matches lists rule.tests r)))))))

matches_alike : (lists : List NamedList) (community : Option ℕ) (rule : Rule) (r : AnnouncedRoute) → rule.tests.path_longer ≡ None → rule.tests.path_in ≡ None → rule.tests.first_as_is_peer ≡ None
    → rule.tests.large_community ≡ None → holds (λ t. has_community t r) rule.tests.community ≡ holds (λ n. has_number n r.attributes) community
    → matches lists rule r ≡ older_matches lists community rule r
unfolding matches attributes_match
matches_alike lists community rule r longer path_in first large same =
    ap (λ b. matches_by b lists rule r) same ∙ rw (longer, path_in, first, large, and_true) refl

pub means_what_it_meant : (clients : List Client) (lists : List NamedList) (place : Place) (d : Data) → IsOlder d → MeansWhatItMeant clients lists place d
unfolding tests_of
means_what_it_meant clients lists place d older = record {
  fault = faults_alike clients lists place d older;
  routes = λ r. matches_alike lists (value_or None (older_community_at place d)) (rule_of clients lists place d) r
      (ap (value_or None) (absent (integer_in 0 4294967295) place K.PathLonger d older.path_longer))
      (ap (value_or None) (absent (text_as (ases_named lists)) place K.PathIn d older.path_in))
      (ap (value_or None) (absent as_bool place K.FirstAsIsPeer d older.first_as_is_peer))
      (ap (value_or None) (absent (text_as (large_community_of (has_receiver place.table))) place K.LargeCommunity d older.large_community))
      (community_alike r place d older.community).routes;
  strips = λ disposition. (strip_alike disposition place d older.strip).taken;
  strips_no_large = λ disposition. none_stripped (text_as large_pattern_of) K.StripLarge disposition place d older.strip_large;
}

-- ---- a document

both_parts : (a b : Bool) → (not a && b) ≡ true → (a ≡ false) × (b ≡ true)
both_parts false b e = (refl, e)
both_parts true b e = cc

abbrev stated_by : List Item → List Item → Stated
stated_by import export = record { import = import; export = export }

no_use : (rule : Data) (rules : List Data) → list_all (λ rule. not (has_use rule)) (rule ∷ rules) ≡ true
    → (has_use rule ≡ false) × (list_all (λ rule. not (has_use rule)) rules ≡ true)
no_use rule rules e = both_parts (has_use rule) (list_all (λ rule. not (has_use rule)) rules) e

module _ (clients : List Client) (lists : List NamedList) (shared : List SharedRules) where
  items_checked : (place : ℕ → Place) (r : ℕ) (rules : List Data) → list_all (λ rule. not (has_use rule)) rules ≡ true
      → checks_from (λ r d. item_checks clients lists shared (place r) d) r rules ≡ checks_from (λ r d. rule_checks clients lists (place r) d) r rules
  unfolding checks_from item_checks
  items_checked place r [] e = refl
  items_checked place r (rule ∷ rules) e =
      let h : (has_use rule ≡ false) × (list_all (λ rule. not (has_use rule)) rules ≡ true) = no_use rule rules e in
      ap (λ b. (if b then use_checks shared (place r) rule else rule_checks clients lists (place r) rule) ++ checks_from (λ r d. item_checks clients lists shared (place r) d) (r + 1) rules) h.0
      ∙ ap (λ rest. rule_checks clients lists (place r) rule ++ rest) (items_checked place (r + 1) rules h.1)

  items_owned : (place : ℕ → Place) (r : ℕ) (rules : List Data) → list_all (λ rule. not (has_use rule)) rules ≡ true
      → each_from (λ r d. item_of clients lists shared (place r) d) r rules ≡ map Own (each_from (λ r d. rule_of clients lists (place r) d) r rules)
  unfolding each_from item_of
  items_owned place r [] e = refl
  items_owned place r (rule ∷ rules) e =
      let h : (has_use rule ≡ false) × (list_all (λ rule. not (has_use rule)) rules ≡ true) = no_use rule rules e in
      ap (λ b. (if b then Use (value_or 0 (use_at shared (place r) rule)) else Own (rule_of clients lists (place r) rule))
      ∷ each_from (λ r d. item_of clients lists shared (place r) d) (r + 1) rules) h.0
      ∙ ap (λ rest. Own (rule_of clients lists (place r) rule) ∷ rest) (items_owned place (r + 1) rules h.1)

  lists_checked : (n : ℕ) (list : RuleList) (d : Data) → uses_none n list d ≡ true → list_checks clients lists shared n list d ≡ older_list_checks clients lists n list d
  lists_checked n list d e = ap (λ rest. fault_in (rules_at n list d) ∷ rest) (items_checked (rule_place n list) 1 (value_or [] (rules_at n list d)) e)

  policies_checked : (n : ℕ) (ds : List Data) → ((n : ℕ) (list : RuleList) → AllByRecursion (λ d. uses_none n list d ≡ true) ds)
      → checks_from (policy_checks clients lists shared) n ds ≡ checks_from (older_policy_checks clients lists) n ds
  unfolding checks_from
  policies_checked n [] none = refl
  policies_checked n (d ∷ ds) none =
      ap (λ first. (first ++ list_checks clients lists shared n Export d) ++ checks_from (policy_checks clients lists shared) (n + 1) ds) (lists_checked n Import d (none n Import).0)
      ∙ (ap (λ last. (older_list_checks clients lists n Import d ++ last) ++ checks_from (policy_checks clients lists shared) (n + 1) ds) (lists_checked n Export d (none n Export).0)
      ∙ ap (λ rest. older_policy_checks clients lists n d ++ rest) (policies_checked (n + 1) ds (λ m list. (none m list).1)))

  policies_owned : (n : ℕ) (ds : List Data) → ((n : ℕ) (list : RuleList) → AllByRecursion (λ d. uses_none n list d ≡ true) ds)
      → each_from (policy_from clients lists shared) n ds ≡ each_from (older_policy_from clients lists) n ds
  unfolding each_from
  policies_owned n [] none = refl
  policies_owned n (d ∷ ds) none =
      let import : list_of_items clients lists shared n Import d ≡ (older_policy_from clients lists n d).import =
      items_owned (rule_place n Import) 1 (value_or [] (rules_at n Import d)) (none n Import).0 in
      let export : list_of_items clients lists shared n Export d ≡ (older_policy_from clients lists n d).export =
      items_owned (rule_place n Export) 1 (value_or [] (rules_at n Export d)) (none n Export).0 in
      λ i. stated_by (import i) (export i) ∷ policies_owned (n + 1) ds (λ m list. (none m list).1) i

no_rules : (d : Data) → get (key_text K.Rules) d ≡ None → all_shared_at d ≡ Ok []
unfolding tables_at
no_rules d e = ap (optional_tables 256 (keyed the_top K.Rules)) e

-- the checks by what stands at `rules`, at unknown keys, and in the clients' lists
abbrev checks_with : Data → Result (List Data) ConfigFault → Option ConfigFault → List (Option ConfigFault) → List (Option ConfigFault)
checks_with d shared known policies =
    top_checks d
    ++ fault_in (clients_at d)
    ∷ fault_in (lists_at d)
    ∷ fault_in shared
    ∷ known
    ∷ (clients_checks (client_tables d)
    ++ (named_lists_checks (list_tables d)
    ++ (all_shared_checks (clients_from (client_tables d)) (named_lists_from (list_tables d)) (value_or [] shared)
    ++ policies)))

abbrev configured : Data → List SharedRules → List Stated → Configuration
configured d shared ps = record { top = top_of d; clients = clients_from (client_tables d); lists = named_lists_from (list_tables d); shared = shared; policies = ps }

skipped : (xs : List (Option ConfigFault)) (a b : Option ConfigFault) (ys : List (Option ConfigFault)) → first_failing (xs ++ (a ∷ b ∷ None ∷ ys)) ≡ first_failing (xs ++ (a ∷ b ∷ ys))
skipped xs a b ys = behind_all xs (a ∷ b ∷ None ∷ ys) (a ∷ b ∷ ys) (behind_all (a ∷ b ∷ []) (None ∷ ys) ys refl)

pub answers_as_before : (d : Data) → IsOlderDocument d → AnswersAsBefore d
unfolding answer checks_from each_from
answers_as_before d older =
    let ds : List Data = client_tables d in
    let clients : List Client = clients_from ds in
    let lists : List NamedList = named_lists_from (list_tables d) in
    let none : all_shared_at d ≡ Ok [] = no_rules d older.rules in
    let shared : List SharedRules = all_shared_from clients lists (shared_tables d) in
    let known : fault_in (stranger top_keys the_top d) ≡ fault_in (stranger older_top_keys the_top d) =
    ap (λ b. fault_in {A = Unit {0}} (if b then Ok tt else Err (BadValue (keyed the_top K.Other)))) (only_but older_top_keys K.Rules [] d older.rules) in
    let policies : policies_checks clients lists shared ds ≡ checks_from (older_policy_checks clients lists) 1 ds = policies_checked clients lists shared 1 ds older.uses in
    let owned : policies_from clients lists shared ds ≡ each_from (older_policy_from clients lists) 1 ds = policies_owned clients lists shared 1 ds older.uses in
    let none_shared : shared ≡ [] = ap (λ r. all_shared_from clients lists (value_or [] r)) none in
    ap (λ ps. or_fault (configured d shared ps) (first_failing (document_checks d))) owned
    ∙ ap (λ rules. or_fault (configured d rules (each_from (older_policy_from clients lists) 1 ds)) (first_failing (document_checks d))) none_shared
    ∙ ap (or_fault (older_configuration_of d))
    (ap (λ r. first_failing (checks_with d r (fault_in (stranger top_keys the_top d)) (policies_checks clients lists shared ds))) none
    ∙ (ap (λ o. first_failing (checks_with d (Ok []) o (policies_checks clients lists shared ds))) known
    ∙ (ap (λ ps. first_failing (checks_with d (Ok []) (fault_in (stranger older_top_keys the_top d)) ps)) policies
    ∙ skipped (top_checks d) (fault_in (clients_at d)) (fault_in (lists_at d)) _)))
