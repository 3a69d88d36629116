-- What follows where checks pass: each key was read.
use Rattle.std.proofs.Common.{◌≡◌, ℕ, zero, suc, ◌+◌, ◌-◌, ◌<◌, ◌||◌, Bool, true, false, List, [], ◌∷◌, ◌++◌, length, take, get_or, Option, Some, None, Result, Ok, Err, refl, sym, ap, subst, ◌∙◌, arith, if◌then◌else◌}
use Rattle.std.specs.Prelude.{⊤, bytes_eq}
use Rattle.std.specs.List.{list_any, AllPairs}
use Rattle.std.proofs.lemmas.List.{get_or-take, length-take}
use Rattle.toml.specs.Data.{Data, Members, table}
use Rattle.toml.specs.Parse.{parse_document}
use Rattle.rs_policy.specs.Keys.{top_keys, client_keys, named_list_keys, shared_keys, rule_keys, use_keys}
use Rattle.rs_policy.specs.Values.{keyed, list_place, has_only, fault_in, value_or, stranger, first_failing, or_fault, answer, each_from, checks_from}
use Rattle.rs_policy.specs.Configuration.{Client, NamedList, SharedRules, Configuration}
use Rattle.rs_policy.specs.NamedLists.{list_name_at, has_entries, entries_needed, prefixes_at, ases_at, named_list_from, named_lists_from, is_same_name, named_list_checks, named_lists_checks}
use Rattle.rs_policy.specs.Rules.{prefix_at, prefix_in, min_at, min_in, max_at, max_in, range_checks, range_of, prefix_in_at, from_at, path_has_at, path_longer_at, path_in_at, origin_as_at, origin_in_at, first_as_is_peer_at, community_at, large_community_at, next_hop_is_peer_at, test_checks, tests_of, disposition_at, disposition_in, preference_at, strip_at, strip_large_at, action_checks, action_of, rule_checks, rule_of}
use Rattle.rs_policy.specs.Documents.{the_top, server_as_at, identifier_at, hold_at, default_at, flag_at, clients_at, lists_at, top_of, top_checks, client_place, name_at, client_as_at, listen_at, peer_at, limit_at, client_from, clients_from, is_same, client_checks, clients_checks, rule_place, rules_checks, shared_place, shared_name_at, shared_rules_at, shared_from, shared_checks, all_shared_at, all_shared_from, all_shared_checks, has_use, use_at, use_checks, item_checks, item_of, items_checks, rules_at, list_checks, list_of_items, policy_from, policy_checks, policies_checks, client_tables, list_tables, shared_tables, document_checks, configuration_of, config_from, config_of}
use Rattle.rs_policy.specs.Accepted.{SaysTop, SaysClient, SaysNamedList, SaysRange, SaysTests, SaysAction, SaysRule, SaysEach, SaysShared, SaysItem, SaysItems, SaysPolicy, Says, AcceptedSays}
use Rattle.rs_policy.specs.declared.faults.Key.TheVariants as K
use Rattle.rs_policy.specs.declared.faults.List.{List as RuleList}
use Rattle.rs_policy.specs.declared.faults.List.TheVariants.{Import, Export, Shared}
use Rattle.rs_policy.specs.declared.faults.Place.{Place}
use Rattle.rs_policy.specs.declared.faults.ConfigFault.{ConfigFault}
use Rattle.rs_policy.specs.declared.faults.ConfigFault.TheVariants.{BadValue, Missing, Twice, TwiceList, TwiceRules}
use Rattle.rs_policy.specs.declared.rules.Disposition.TheVariants as D
use Rattle.rs_policy.specs.declared.rules.Stripping.TheVariants.{Named}
use Rattle.rs_policy.specs.declared.rules.Item.TheVariants.{Own, Use}

-- ---- checks that pass

abbrev Pass : List (Option ConfigFault) → Type 0
Pass checks = first_failing checks ≡ None

abbrev AllPass : List (Option ConfigFault) → Type 0
AllPass [] = ⊤
AllPass (check ∷ rest) = (check ≡ None) × AllPass rest

all_pass : (checks : List (Option ConfigFault)) → Pass checks → AllPass checks
all_pass [] e = tt
all_pass (None ∷ rest) e = (refl, all_pass rest e)
all_pass (Some f ∷ rest) e = cc

front_passes : (xs ys : List (Option ConfigFault)) → Pass (xs ++ ys) → Pass xs
front_passes [] ys e = refl
front_passes (None ∷ xs) ys e = front_passes xs ys e
front_passes (Some f ∷ xs) ys e = cc

back_passes : (xs ys : List (Option ConfigFault)) → Pass (xs ++ ys) → Pass ys
back_passes [] ys e = e
back_passes (None ∷ xs) ys e = back_passes xs ys e
back_passes (Some f ∷ xs) ys e = cc

-- what was read, where nothing is wrong with it
was_read : {A : Type 0} (other : A) (r : Result A ConfigFault) → fault_in r ≡ None → r ≡ Ok (value_or other r)
was_read other (Ok a) e = refl
was_read other (Err f) e = cc

holds_if : (b : Bool) (f : ConfigFault) → fault_in {A = Unit {0}} (if b then Ok tt else Err f) ≡ None → b ≡ true
holds_if false f e = cc
holds_if true f e = refl

fails_if : (b : Bool) (f : ConfigFault) → fault_in {A = Unit {0}} (if b then Err f else Ok tt) ≡ None → b ≡ false
fails_if false f e = refl
fails_if true f e = cc

-- ---- the top and a client

top_says : (d : Data) → Pass (top_checks d) → SaysTop d (top_of d)
unfolding top_checks top_of
top_says d e =
    let h : AllPass (top_checks d) = all_pass (top_checks d) e in
    record {
      server_as = was_read 0 (server_as_at d) h.0;
      identifier = was_read 0 (identifier_at d) h.1.0;
      hold = was_read 0 (hold_at d) h.1.1.0;
      default = was_read D.Pass (default_at d) h.1.1.1.0;
      extended = was_read false (flag_at K.Extended d) h.1.1.1.1.0;
      refresh = was_read false (flag_at K.Refresh d) h.1.1.1.1.1.0;
      multiprotocol = was_read false (flag_at K.Multiprotocol d) h.1.1.1.1.1.1.0;
    }

client_says : (n : ℕ) (earlier : List Client) (d : Data) → Pass (client_checks n earlier d) → SaysClient n d (client_from n d)
unfolding client_checks client_from
client_says n earlier d e =
    let h : AllPass (client_checks n earlier d) = all_pass (client_checks n earlier d) e in
    record {
      name = was_read [] (name_at n d) h.0;
      client_as = was_read 0 (client_as_at n d) h.1.0;
      listen = was_read (0, 0) (listen_at n d) h.1.1.0;
      peer = was_read 0 (peer_at n d) h.1.1.1.0;
      limit = was_read None (limit_at n d) h.1.1.1.1.0;
      only = holds_if (has_only client_keys d) (BadValue (keyed (client_place n) K.Other)) h.1.1.1.1.1.0;
    }

client_alone : (n : ℕ) (earlier : List Client) (d : Data) → Pass (client_checks n earlier d)
    → list_any (is_same (client_from n d)) earlier ≡ false
unfolding client_checks
client_alone n earlier d e =
    let h : AllPass (client_checks n earlier d) = all_pass (client_checks n earlier d) e in
    fails_if (list_any (is_same (client_from n d)) earlier) (Twice n) h.1.1.1.1.1.1.0

-- ---- a list

list_says : (n : ℕ) (earlier : List NamedList) (d : Data) → Pass (named_list_checks n earlier d) → SaysNamedList n d (named_list_from n d)
unfolding named_list_checks named_list_from entries_needed
list_says n earlier d e =
    let h : AllPass (named_list_checks n earlier d) = all_pass (named_list_checks n earlier d) e in
    record {
      name = was_read [] (list_name_at n d) h.0;
      some = holds_if (has_entries d) (Missing (keyed (list_place n) K.Prefixes)) h.1.0;
      prefixes = was_read None (prefixes_at n d) h.1.1.0;
      ases = was_read None (ases_at n d) h.1.1.1.0;
      only = holds_if (has_only named_list_keys d) (BadValue (keyed (list_place n) K.Other)) h.1.1.1.1.0;
    }

list_alone : (n : ℕ) (earlier : List NamedList) (d : Data) → Pass (named_list_checks n earlier d)
    → list_any (is_same_name (named_list_from n d)) earlier ≡ false
unfolding named_list_checks
list_alone n earlier d e =
    let h : AllPass (named_list_checks n earlier d) = all_pass (named_list_checks n earlier d) e in
    fails_if (list_any (is_same_name (named_list_from n d)) earlier) (TwiceList n) h.1.1.1.1.1.0

-- ---- a rule

range_says : (place : Place) (d : Data) → Pass (range_checks place d) → SaysRange place d (range_of place d)
unfolding range_checks range_of
range_says place d e =
    let h : AllPass (range_checks place d) = all_pass (range_checks place d) e in
    record {
      prefix = prefix_in place d;
      min = min_in place d;
      max = max_in place d;
      prefix_is = was_read None (prefix_at place d) h.0;
      min_is = was_read 0 (min_at (prefix_in place d) place d) h.1.0;
      max_is = was_read 0 (max_at (prefix_in place d) (min_in place d) place d) h.1.1.0;
      range_is = refl;
    }

tests_say : (clients : List Client) (lists : List NamedList) (place : Place) (d : Data) → Pass (test_checks clients lists place d)
    → SaysTests clients lists place d (tests_of clients lists place d)
unfolding test_checks tests_of
tests_say clients lists place d e =
    let h : AllPass (test_checks clients lists place d) = all_pass (test_checks clients lists place d) e in
    record {
      prefix_in = was_read None (prefix_in_at lists place d) h.0;
      from = was_read None (from_at clients place d) h.1.0;
      path_has = was_read None (path_has_at place d) h.1.1.0;
      path_longer = was_read None (path_longer_at place d) h.1.1.1.0;
      path_in = was_read None (path_in_at lists place d) h.1.1.1.1.0;
      origin_as = was_read None (origin_as_at place d) h.1.1.1.1.1.0;
      origin_in = was_read None (origin_in_at lists place d) h.1.1.1.1.1.1.0;
      first_as_is_peer = was_read None (first_as_is_peer_at place d) h.1.1.1.1.1.1.1.0;
      community = was_read None (community_at place d) h.1.1.1.1.1.1.1.1.0;
      large_community = was_read None (large_community_at place d) h.1.1.1.1.1.1.1.1.1.0;
      next_hop_is_peer = was_read None (next_hop_is_peer_at place d) h.1.1.1.1.1.1.1.1.1.1.0;
    }

action_says : (place : Place) (d : Data) → Pass (action_checks place d) → SaysAction place d (action_of place d)
unfolding action_checks action_of
action_says place d e =
    let h : AllPass (action_checks place d) = all_pass (action_checks place d) e in
    record {
      disposition = disposition_in place d;
      preference = value_or None (preference_at (disposition_in place d) place d);
      strip = value_or (Named []) (strip_at (disposition_in place d) place d);
      strip_large = value_or (Named []) (strip_large_at (disposition_in place d) place d);
      disposition_is = was_read D.Drop (disposition_at place d) h.0;
      preference_is = was_read None (preference_at (disposition_in place d) place d) h.1.0;
      strip_is = was_read (Named []) (strip_at (disposition_in place d) place d) h.1.1.0;
      strip_large_is = was_read (Named []) (strip_large_at (disposition_in place d) place d) h.1.1.1.0;
      action_is = refl;
    }

rule_says : (clients : List Client) (lists : List NamedList) (place : Place) (d : Data) → Pass (rule_checks clients lists place d)
    → SaysRule clients lists place d (rule_of clients lists place d)
rule_says clients lists place d e =
    let known : List (Option ConfigFault) = fault_in (stranger rule_keys place d) ∷ [] in
    let behind : Pass (test_checks clients lists place d ++ (action_checks place d ++ known)) =
    back_passes (range_checks place d) (test_checks clients lists place d ++ (action_checks place d ++ known)) e in
    let last : Pass (action_checks place d ++ known) = back_passes (test_checks clients lists place d) (action_checks place d ++ known) behind in
    let h : AllPass known = all_pass known (back_passes (action_checks place d) known last) in
    record {
      range = range_says place d (front_passes (range_checks place d) (test_checks clients lists place d ++ (action_checks place d ++ known)) e);
      tests = tests_say clients lists place d (front_passes (test_checks clients lists place d) (action_checks place d ++ known) behind);
      action = action_says place d (front_passes (action_checks place d) known last);
      only = holds_if (has_only rule_keys d) (BadValue (keyed place K.Other)) h.0;
    }

-- ---- tables one after the other

each_says : {A : Type 0} (f : ℕ → Data → A) (g : ℕ → Data → List (Option ConfigFault)) (R : ℕ → Data → A → Type 0)
    → ((n : ℕ) (d : Data) → Pass (g n d) → R n d (f n d)) → (n : ℕ) (ds : List Data)
    → Pass (checks_from g n ds) → SaysEach R n ds (each_from f n ds)
unfolding checks_from each_from
each_says f g R says n [] e = tt
each_says f g R says n (d ∷ ds) e = (
  says n d (front_passes (g n d) (checks_from g (n + 1) ds) e),
  each_says f g R says (n + 1) ds (back_passes (g n d) (checks_from g (n + 1) ds) e),
)

-- what the table at a place sets
pub each_at : {A : Type 0} (R : ℕ → Data → A → Type 0) (n : ℕ) (ds : List Data) (xs : List A) → SaysEach R n ds xs
    → (i : ℕ) (x : A) → i < length xs → (d : Data) × R (n + i) d (get_or xs i x)
each_at R n [] [] h i x l = absurd (omega arith)
each_at R n [] (a ∷ xs) h i x l = absurd h
each_at R n (d ∷ ds) [] h i x l = absurd h
each_at R n (d ∷ ds) (a ∷ xs) h zero x l = (d, subst (λ k. R k d a) (let e : n ≡ n + 0 = omega arith in e) h.0)
each_at R n (d ∷ ds) (a ∷ xs) h (suc i) x l =
    let k : (d : Data) × R (n + 1 + i) d (get_or xs i x) = each_at R (n + 1) ds xs h.1 i x (omega arith) in
    (k.0, subst (λ m. R m k.0 (get_or xs i x)) (let e : n + 1 + i ≡ n + suc i = omega arith in e) k.1)

shared_says : (clients : List Client) (lists : List NamedList) (n : ℕ) (earlier : List SharedRules) (d : Data)
    → Pass (shared_checks clients lists n earlier d) → SaysShared clients lists n d (shared_from clients lists n d)
unfolding shared_checks shared_from
shared_says clients lists n earlier d e =
    let tables : List Data = value_or [] (shared_rules_at n d) in
    let h : AllPass (shared_checks clients lists n earlier d) = all_pass (shared_checks clients lists n earlier d) e in
    record {
      name = was_read [] (shared_name_at n d) h.0;
      tables = tables;
      tables_are = was_read [] (shared_rules_at n d) h.1.0;
      each = each_says (λ r d. rule_of clients lists (rule_place n Shared r) d) (λ r d. rule_checks clients lists (rule_place n Shared r) d)
          (λ r d rule. SaysRule clients lists (rule_place n Shared r) d rule) (λ r d p. rule_says clients lists (rule_place n Shared r) d p) 1 tables
          (back_passes (fault_in (shared_name_at n d) ∷ fault_in (shared_rules_at n d) ∷ fault_in (stranger shared_keys (shared_place n) d)
          ∷ fault_in {A = Unit {0}} (if list_any (λ s. bytes_eq (value_or [] (shared_name_at n d)) s.name) earlier then Err (TwiceRules n) else Ok tt) ∷ [])
          (rules_checks clients lists n Shared tables) e);
      only = holds_if (has_only shared_keys d) (BadValue (keyed (shared_place n) K.Other)) h.1.1.0;
    }

shared_alone : (clients : List Client) (lists : List NamedList) (n : ℕ) (earlier : List SharedRules) (d : Data) → Pass (shared_checks clients lists n earlier d)
    → list_any (λ s. bytes_eq (shared_from clients lists n d).name s.name) earlier ≡ false
unfolding shared_checks shared_from
shared_alone clients lists n earlier d e =
    let h : AllPass (shared_checks clients lists n earlier d) = all_pass (shared_checks clients lists n earlier d) e in
    fails_if (list_any (λ s. bytes_eq (value_or [] (shared_name_at n d)) s.name) earlier) (TwiceRules n) h.1.1.1.0

item_by : (clients : List Client) (lists : List NamedList) (shared : List SharedRules) (place : Place) (d : Data) (b : Bool) → has_use d ≡ b
    → Pass (if b then use_checks shared place d else rule_checks clients lists place d)
    → SaysItem clients lists shared place d (if b then Use (value_or 0 (use_at shared place d)) else Own (rule_of clients lists place d))
unfolding use_checks
item_by clients lists shared place d true is e =
    let h : AllPass (use_checks shared place d) = all_pass (use_checks shared place d) e in
    (was_read 0 (use_at shared place d) h.0, holds_if (has_only use_keys d) (BadValue (keyed place K.Other)) h.1.0)
item_by clients lists shared place d false is e = (is, rule_says clients lists place d e)

item_says : (clients : List Client) (lists : List NamedList) (shared : List SharedRules) (place : Place) (d : Data) → Pass (item_checks clients lists shared place d)
    → SaysItem clients lists shared place d (item_of clients lists shared place d)
unfolding item_checks item_of
item_says clients lists shared place d e = item_by clients lists shared place d (has_use d) refl e

items_say : (clients : List Client) (lists : List NamedList) (shared : List SharedRules) (n : ℕ) (list : RuleList) (d : Data) → Pass (list_checks clients lists shared n list d)
    → SaysItems clients lists shared n list d (list_of_items clients lists shared n list d)
items_say clients lists shared n list d e =
    let tables : List Data = value_or [] (rules_at n list d) in
    let h : AllPass (list_checks clients lists shared n list d) = all_pass (list_checks clients lists shared n list d) e in
    record {
      tables = tables;
      tables_are = was_read [] (rules_at n list d) h.0;
      each = each_says (λ r d. item_of clients lists shared (rule_place n list r) d) (λ r d. item_checks clients lists shared (rule_place n list r) d)
          (λ r d item. SaysItem clients lists shared (rule_place n list r) d item) (λ r d p. item_says clients lists shared (rule_place n list r) d p) 1 tables
          (back_passes (fault_in (rules_at n list d) ∷ []) (items_checks clients lists shared n list tables) e);
    }

policy_says : (clients : List Client) (lists : List NamedList) (shared : List SharedRules) (n : ℕ) (d : Data) → Pass (policy_checks clients lists shared n d)
    → SaysPolicy clients lists shared n d (policy_from clients lists shared n d)
policy_says clients lists shared n d e = record {
  import = items_say clients lists shared n Import d (front_passes (list_checks clients lists shared n Import d) (list_checks clients lists shared n Export d) e);
  export = items_say clients lists shared n Export d (back_passes (list_checks clients lists shared n Import d) (list_checks clients lists shared n Export d) e);
}

-- ---- no client twice

left_false : (a b : Bool) → (a || b) ≡ false → a ≡ false
left_false false b e = refl
left_false true b e = cc

right_false : (a b : Bool) → (a || b) ≡ false → b ≡ false
right_false false b e = e
right_false true b e = cc

none_passes : {A : Type 0} (p : A → Bool) (xs : List A) (i : ℕ) (x : A) → list_any p xs ≡ false → i < length xs
    → p (get_or xs i x) ≡ false
none_passes p [] i x e l = absurd (omega arith)
none_passes p (y ∷ ys) zero x e l = left_false (p y) (list_any p ys) e
none_passes p (y ∷ ys) (suc i) x e l = none_passes p ys i x (right_false (p y) (list_any p ys) e) (omega arith)

abbrev IsAlone : {A : Type 0} → (A → A → Bool) → List A → ℕ → Data → A → Type 0
IsAlone same all n d c = list_any (same c) (take (n - 1) all) ≡ false

none_twice : {A : Type 0} (same : A → A → Bool) (ds : List Data) (all : List A) → SaysEach (IsAlone same all) 1 ds all
    → AllPairs (λ earlier later. same later earlier ≡ false) all
none_twice same ds all h i j x before within =
    let k : (d : Data) × IsAlone same all (1 + j) d (get_or all j x) = each_at (IsAlone same all) 1 ds all h j x within in
    let front : take (1 + j - 1) all ≡ take j all = ap (λ n. take n all) (let e : 1 + j - 1 ≡ j = omega arith in e) in
    let alone : list_any (same (get_or all j x)) (take j all) ≡ false = ap (list_any (same (get_or all j x))) (sym front) ∙ k.1 in
    let fits : i < length (take j all) = omega (arith, length-take j all) in
    ap (same (get_or all j x)) (sym (get_or-take j all i x before))
    ∙ none_passes (same (get_or all j x)) (take j all) i x alone fits

-- ---- the document

document_says : (d : Data) → Pass (document_checks d) → Says d (configuration_of d)
document_says d e =
    let ds : List Data = client_tables d in
    let ls : List Data = list_tables d in
    let us : List Data = shared_tables d in
    let all : List Client = clients_from ds in
    let lists : List NamedList = named_lists_from ls in
    let shared : List SharedRules = all_shared_from all lists us in
    let known : List (Option ConfigFault) = fault_in (clients_at d) ∷ fault_in (lists_at d) ∷ fault_in (all_shared_at d) ∷ fault_in (stranger top_keys the_top d) ∷ [] in
    let last : List (Option ConfigFault) = policies_checks all lists shared ds in
    let used : List (Option ConfigFault) = all_shared_checks all lists us ++ last in
    let named : List (Option ConfigFault) = named_lists_checks ls ++ used in
    let behind : Pass (known ++ (clients_checks ds ++ named)) = back_passes (top_checks d) (known ++ (clients_checks ds ++ named)) e in
    let h : AllPass known = all_pass known (front_passes known (clients_checks ds ++ named) behind) in
    let rest : Pass (clients_checks ds ++ named) = back_passes known (clients_checks ds ++ named) behind in
    let clients : Pass (clients_checks ds) = front_passes (clients_checks ds) named rest in
    let third : Pass named = back_passes (clients_checks ds) named rest in
    let listed : Pass (named_lists_checks ls) = front_passes (named_lists_checks ls) used third in
    let fourth : Pass used = back_passes (named_lists_checks ls) used third in
    let shares : Pass (all_shared_checks all lists us) = front_passes (all_shared_checks all lists us) last fourth in
    record {
      top = top_says d (front_passes (top_checks d) (known ++ (clients_checks ds ++ named)) e);
      only = holds_if (has_only top_keys d) (BadValue (keyed the_top K.Other)) h.1.1.1.0;
      tables = ds;
      tables_are = was_read [] (clients_at d) h.0;
      clients = each_says client_from (λ n d. client_checks n (take (n - 1) all) d) SaysClient
          (λ n d p. client_says n (take (n - 1) all) d p) 1 ds clients;
      none_twice = none_twice is_same ds all
          (each_says client_from (λ n d. client_checks n (take (n - 1) all) d) (IsAlone is_same all)
          (λ n d p. client_alone n (take (n - 1) all) d p) 1 ds clients);
      lists_tables = ls;
      lists_are = was_read [] (lists_at d) h.1.0;
      lists = each_says named_list_from (λ n d. named_list_checks n (take (n - 1) lists) d) SaysNamedList
          (λ n d p. list_says n (take (n - 1) lists) d p) 1 ls listed;
      no_list_twice = none_twice is_same_name ls lists
          (each_says named_list_from (λ n d. named_list_checks n (take (n - 1) lists) d) (IsAlone is_same_name lists)
          (λ n d p. list_alone n (take (n - 1) lists) d p) 1 ls listed);
      shared_tables = us;
      shared_are = was_read [] (all_shared_at d) h.1.1.0;
      rules = each_says (shared_from all lists) (λ n d. shared_checks all lists n (take (n - 1) shared) d) (SaysShared all lists)
          (λ n d p. shared_says all lists n (take (n - 1) shared) d p) 1 us shares;
      no_rules_twice = none_twice (λ (a b : SharedRules). bytes_eq a.name b.name) us shared
          (each_says (shared_from all lists) (λ n d. shared_checks all lists n (take (n - 1) shared) d) (IsAlone (λ (a b : SharedRules). bytes_eq a.name b.name) shared)
          (λ n d p. shared_alone all lists n (take (n - 1) shared) d p) 1 us shares);
      policies = each_says (policy_from all lists shared) (policy_checks all lists shared) (SaysPolicy all lists shared) (policy_says all lists shared) 1 ds
          (back_passes (all_shared_checks all lists us) last fourth);
    }

pass_of_ok : {A : Type 0} (a v : A) (o : Option ConfigFault) → or_fault a o ≡ Ok v → (o ≡ None) × (a ≡ v)
pass_of_ok a v None e = (refl, let f : a ≡ v = cc in f)
pass_of_ok a v (Some f) e = cc

pub answer_says : (d : Data) (s : Configuration) → answer (document_checks d) (configuration_of d) ≡ Ok s → Says d s
unfolding answer
answer_says d s e =
    let h : Pass (document_checks d) × (configuration_of d ≡ s) = pass_of_ok (configuration_of d) s (first_failing (document_checks d)) e in
    subst (Says d) h.1 (document_says d h.0)

accepted_by : (o : Option Members) (s : Configuration) → config_from o ≡ Ok s → (t : Members) × ((o ≡ Some t) × Says (table t) s)
accepted_by None s e = cc
accepted_by (Some t) s e = (t, (refl, answer_says (table t) s e))

pub accepted_says : AcceptedSays
unfolding config_of
accepted_says text s e = accepted_by (parse_document text) s e
