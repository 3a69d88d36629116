-- Each rule and each client is sound, so that every configuration is.
use Rattle.std.proofs.Common.{◌≡◌, ◌≢◌, ℕ, suc, ◌+◌, ◌<◌, ◌≤◌, ◌^◌, ◌==◌, ◌&&◌, Bool, true, false, List, [], ◌∷◌, ◌*◌, length, length-append, get_or, Option, Some, None, Result, Ok, Err, option_map, refl, sym, ap, subst, ◌∙◌, eq-eqb, bytes_eq, arith, if◌then◌else◌}
use Rattle.std.specs.Prelude.{IfSome, codes, is_some}
use Rattle.std.specs.List.{All}
use Rattle.std.proofs.lemmas.Bool.{ltb-false, or_parts}
use Rattle.std.proofs.lemmas.List.Elements.{All-nil, All-cons, All-append}
use Rattle.std.proofs.lemmas.List.Quantifiers.{position-Some}
use Rattle.std.proofs.lemmas.Slice.Eq.{bytes_eq-Decides}
use Rattle.toml.specs.Data.{Data, table, get, as_array, as_str}
use Rattle.rs_octets.specs.Prefixes.{Prefix}
use Rattle.rs_attrs.specs.declared.patterns.CommunityPattern.{CommunityPattern}
use Rattle.rs_attrs.specs.declared.patterns.LargeCommunityPattern.{LargeCommunityPattern}
use Rattle.rs_policy.specs.Keys.{key_text}
use Rattle.rs_policy.specs.Texts.{endpoint_of, prefix_of, is_name, pattern_of, large_pattern_of}
use Rattle.rs_policy.specs.Values.{integer_in, positive, hold_seconds, text_as, identifier, name_of, keyed, read_or_bad, list_of, list_place, prefix_entry, as_entry, answer}
use Rattle.rs_policy.specs.Configuration.{Client, NamedList, SharedRules, Stated, Configuration, no_client, no_list, no_shared, rules_in, written_out, policy_written}
use Rattle.rs_policy.specs.NamedLists.{is_same_name}
use Rattle.rs_policy.specs.Rules.{prefix_at, min_at, max_at, range_with, ases_named, client_named, prefixes_named, has_receiver, each_read, stripping_from, strippings, is_longer, strip_found, stripping_at, action_with}
use Rattle.rs_policy.specs.Documents.{the_top, client_place, is_same, shared_place, may_stand, shared_named, list_key, rule_place, document_checks, configuration_of, config_of}
use Rattle.rs_policy.specs.Accepted.{SaysClient, SaysNamedList, SaysRule, SaysEach, SaysShared, SaysItem, SaysItems, SaysPolicy, Says}
use Rattle.rs_policy.specs.Sound.{IsSoundClient, IsSoundRange, IsSoundList, IsFew, StripsFew, IsSoundRule, AreSoundRules, IsSoundPolicy, AreOthers, AreOtherLists, IsSound}
use Rattle.rs_policy.specs.declared.faults.Key.{Key}
use Rattle.rs_policy.specs.declared.faults.Key.TheVariants as K
use Rattle.rs_policy.specs.declared.faults.List.{List as RuleList}
use Rattle.rs_policy.specs.declared.faults.List.TheVariants.{Import, Export, Shared}
use Rattle.rs_policy.specs.declared.faults.Place.{Place}
use Rattle.rs_policy.specs.declared.faults.ConfigFault.{ConfigFault}
use Rattle.rs_policy.specs.declared.faults.ConfigFault.TheVariants.{BadValue, TooMany}
use Rattle.rs_policy.specs.declared.rules.Disposition.{Disposition}
use Rattle.rs_policy.specs.declared.rules.Disposition.TheVariants as D
use Rattle.rs_policy.specs.declared.rules.Stripping.{Stripping}
use Rattle.rs_policy.specs.declared.rules.Stripping.TheVariants.{Named, All as Every}
use Rattle.rs_policy.specs.declared.rules.Rule.{Rule}
use Rattle.rs_policy.specs.declared.rules.Item.{Item}
use Rattle.rs_policy.specs.declared.rules.Item.TheVariants.{Own, Use}
use Rattle.rs_policy.proofs.Accepted.Passing.{answer_says, accepted_says}
use Rattle.rs_policy.proofs.Accepted.SoundKeys.{IsHold, few_entries, at_maybe, at_optional, at_required, few_at, few_needed, hold_is, identifier_is, integer_is, map_by, name_is, port_is, prefix_is, some_at, text_is, then_by, was_some}

-- ---- a rule

range_sound : (place : Place) (d : Data) (prefix : Option Prefix) (min max : ℕ) → prefix_at place d ≡ Ok prefix
    → min_at prefix place d ≡ Ok min → max_at prefix min place d ≡ Ok max → IfSome (range_with prefix min max) IsSoundRange
range_sound place d None min max e f g = tt
range_sound place d (Some p) min max e f g =
    let len : p.len ≤ 32 = at_maybe (λ (p : Prefix). p.len ≤ 32) (text_as prefix_of) place K.Prefix d (Some p)
    (λ d v h. text_is (λ (p : Prefix). p.len ≤ 32) prefix_of d v prefix_is h) e in
    let low : (p.len ≤ min) × (min ≤ 32) = at_optional (λ n. (p.len ≤ n) × (n ≤ 32)) (integer_in p.len 32) p.len place K.Min d min
    (omega arith, len) (λ d v h. integer_is p.len 32 d v h) f in
    let high : (min ≤ max) × (max ≤ 32) = at_optional (λ n. (min ≤ n) × (n ≤ 32)) (integer_in min 32) min place K.Max d max
    (omega arith, low.1) (λ d v h. integer_is min 32 d v h) g in
    record { within = low.0; rising = high.0; most = high.1 }

named_is : (clients : List Client) (name : List ℕ) (c : ℕ) → client_named clients name ≡ Some c → c < length clients
named_is clients name c e = (position-Some (λ (c : Client). bytes_eq c.name name) clients c no_client e).0

prefixes_named_is : (lists : List NamedList) (name : List ℕ) (n : ℕ) → prefixes_named lists name ≡ Some n → n < length lists
prefixes_named_is lists name n e = (position-Some (λ (l : NamedList). bytes_eq l.name name && is_some l.prefixes) lists n no_list e).0

ases_named_is : (lists : List NamedList) (name : List ℕ) (n : ℕ) → ases_named lists name ≡ Some n → n < length lists
ases_named_is lists name n e = (position-Some (λ (l : NamedList). bytes_eq l.name name && is_some l.ases) lists n no_list e).0

length_read : {A : Type 0} (reads : Data → Option A) (ds : List Data) (xs : List A) → each_read reads ds ≡ Some xs → length xs ≡ length ds
length_read {A} reads [] xs e = let f : ◌≡◌ {A = List A} [] xs = cc in sym (ap length f)
length_read {A} reads (d ∷ ds) xs e =
    then_by (λ (xs : List A). length xs ≡ suc (length ds)) (λ (a : A). option_map (λ (rest : List A). a ∷ rest) (each_read reads ds)) (reads d) xs
    (λ a v f g. map_by (λ (xs : List A). length xs ≡ suc (length ds)) (λ (rest : List A). a ∷ rest) (each_read reads ds) v (λ rest h. ap suc (length_read reads ds rest h)) g) e

every_by : {A : Type 0} (b : Bool) (v : Stripping A) → (if b then Some Every else None) ≡ Some v → Every ≡ v
every_by false v e = cc
every_by true v e = cc

strip_by : {A : Type 0} (reads : Data → Option A) (array : Option (List Data)) (text : Option (List ℕ)) (v : Stripping A) → is_longer 64 array ≡ false
    → stripping_from reads array text ≡ Some v → IsFew v
strip_by {A} reads (Some ds) text v long e =
    let few : length ds ≤ 64 = ltb-false 64 (length ds) long in
    map_by (IsFew {A = A}) Named (each_read reads ds) v (λ xs f. let l : length xs ≡ length ds = length_read reads ds xs f in omega arith) e
strip_by {A} reads None (Some text) v long e =
    subst (IsFew {A = A}) (every_by (bytes_eq text (codes "all")) v e) tt
strip_by reads None None v long e = cc

strip_read : {A : Type 0} (reads : Data → Option A) (disposition : Disposition) (d : Data) (v : Stripping A) → is_longer 64 (option_map list_of (as_array d)) ≡ false
    → strippings reads disposition d ≡ Some v → IsFew v
strip_read reads D.Pass d v long e = strip_by reads (option_map list_of (as_array d)) (as_str d) v long e
strip_read reads D.Drop d v long e = cc

longer_by : {A : Type 0} (b : Bool) (f : ConfigFault) (r : Result (Stripping A) ConfigFault) (v : Stripping A) → (if b then Err f else r) ≡ Ok v
    → (b ≡ false) × (r ≡ Ok v)
longer_by true f r v e = cc
longer_by false f r v e = (refl, e)

strip_in : {A : Type 0} (reads : Data → Option A) (disposition : Disposition) (place : Place) (o : Option Data) (v : Stripping A) → strip_found reads disposition place o ≡ Ok v → IsFew v
strip_in {A} reads disposition place None v e = subst (IsFew {A = A}) (let f : ◌≡◌ {A = Stripping A} (Named []) v = cc in f) (omega arith)
strip_in reads disposition place (Some d) v e =
    let h : (is_longer 64 (option_map list_of (as_array d)) ≡ false) × (read_or_bad place (strippings reads disposition d) ≡ Ok v) =
    longer_by (is_longer 64 (option_map list_of (as_array d))) (TooMany place) (read_or_bad place (strippings reads disposition d)) v e in
    strip_read reads disposition d v h.0 (was_some (strippings reads disposition d) (BadValue place) v h.1)

strip_few : {A : Type 0} (reads : Data → Option A) (key : Key) (disposition : Disposition) (place : Place) (d : Data) (v : Stripping A) → stripping_at reads key disposition place d ≡ Ok v → IsFew v
unfolding stripping_at
strip_few reads key disposition place d v e = strip_in reads disposition (keyed place key) (get (key_text key) d) v e

action_sound : (disposition : Disposition) (preference : Option ℕ) (v : Stripping CommunityPattern) (w : Stripping LargeCommunityPattern) → IsFew v → IsFew w
    → StripsFew (action_with disposition preference v w)
action_sound D.Drop preference v w h k = tt
action_sound D.Pass preference v w h k = (h, k)

rule_sound : (clients : List Client) (lists : List NamedList) (place : Place) (d : Data) (rule : Rule) → SaysRule clients lists place d rule
    → IsSoundRule (length clients) (length lists) rule
rule_sound clients lists place d rule h = record {
  prefix_in = at_maybe (λ n. n < length lists) (text_as (prefixes_named lists)) place K.PrefixIn d rule.tests.prefix_in
      (λ d v e. text_is (λ n. n < length lists) (prefixes_named lists) d v (prefixes_named_is lists) e) h.tests.prefix_in;
  path_in = at_maybe (λ n. n < length lists) (text_as (ases_named lists)) place K.PathIn d rule.tests.path_in
      (λ d v e. text_is (λ n. n < length lists) (ases_named lists) d v (ases_named_is lists) e) h.tests.path_in;
  origin_in = at_maybe (λ n. n < length lists) (text_as (ases_named lists)) place K.OriginIn d rule.tests.origin_in
      (λ d v e. text_is (λ n. n < length lists) (ases_named lists) d v (ases_named_is lists) e) h.tests.origin_in;
  range = subst (λ r. IfSome r IsSoundRange) (sym h.range.range_is)
      (range_sound place d h.range.prefix h.range.min h.range.max h.range.prefix_is h.range.min_is h.range.max_is);
  from = at_maybe (λ c. c < length clients) (text_as (client_named clients)) place K.From d rule.tests.from
      (λ d v e. text_is (λ c. c < length clients) (client_named clients) d v (named_is clients) e) h.tests.from;
  strip = subst StripsFew (sym h.action.action_is)
      (action_sound h.action.disposition h.action.preference h.action.strip h.action.strip_large
      (strip_few (text_as pattern_of) K.Strip h.action.disposition place d h.action.strip h.action.strip_is)
      (strip_few (text_as large_pattern_of) K.StripLarge h.action.disposition place d h.action.strip_large h.action.strip_large_is));
}

-- ---- lists

pub each_all : {A : Type 0} (R : ℕ → Data → A → Type 0) (P : A → Type 0) → ((n : ℕ) (d : Data) (a : A) → R n d a → P a)
    → (n : ℕ) (ds : List Data) (xs : List A) → SaysEach R n ds xs → All P xs
each_all R P f n [] [] h = All-nil P
each_all R P f n [] (a ∷ xs) h = absurd h
each_all R P f n (d ∷ ds) [] h = absurd h
each_all R P f n (d ∷ ds) (a ∷ xs) h = All-cons P a xs (f n d a h.0) (each_all R P f (n + 1) ds xs h.1)

pub each_count : {A : Type 0} (R : ℕ → Data → A → Type 0) (n : ℕ) (ds : List Data) (xs : List A) → SaysEach R n ds xs
    → length xs ≡ length ds
each_count R n [] [] h = refl
each_count R n [] (a ∷ xs) h = absurd h
each_count R n (d ∷ ds) [] h = absurd h
each_count R n (d ∷ ds) (a ∷ xs) h = ap suc (each_count R (n + 1) ds xs h.1)

-- at most 64 rules, each sound
abbrev AreFewSound : ℕ → ℕ → List Rule → Type 0
AreFewSound count lists rules = (length rules ≤ 64) × All (IsSoundRule count lists) rules

shared_sound : (clients : List Client) (lists : List NamedList) (n : ℕ) (d : Data) (s : SharedRules) → SaysShared clients lists n d s
    → AreFewSound (length clients) (length lists) s.rules
shared_sound clients lists n d s h =
    let few : length h.tables ≤ 64 = few_needed 64 (shared_place n) K.Rules d h.tables h.tables_are in
    let count : length s.rules ≡ length h.tables = each_count (λ r d rule. SaysRule clients lists (rule_place n Shared r) d rule) 1 h.tables s.rules h.each in (
      omega arith,
      each_all (λ r d rule. SaysRule clients lists (rule_place n Shared r) d rule) (IsSoundRule (length clients) (length lists))
          (λ r d rule e. rule_sound clients lists (rule_place n Shared r) d rule e) 1 h.tables s.rules h.each,
    )

shared_named_is : (receiver : Bool) (shared : List SharedRules) (name : List ℕ) (n : ℕ) → shared_named receiver shared name ≡ Some n → n < length shared
shared_named_is receiver shared name n e = (position-Some (λ (s : SharedRules). bytes_eq s.name name && may_stand receiver s.rules) shared n no_shared e).0

item_sound : (clients : List Client) (lists : List NamedList) (shared : List SharedRules) (place : Place) (d : Data) (item : Item)
    → All (λ s. AreFewSound (length clients) (length lists) s.rules) shared → SaysItem clients lists shared place d item
    → AreFewSound (length clients) (length lists) (rules_in shared item)
item_sound clients lists shared place d (Own rule) all h =
    (omega arith, All-cons (IsSoundRule (length clients) (length lists)) rule [] (rule_sound clients lists place d rule h.1) (All-nil (IsSoundRule (length clients) (length lists))))
item_sound clients lists shared place d (Use n) all h =
    let receiver : Bool = has_receiver place.table in
    all n no_shared (at_required (λ n. n < length shared) (text_as (shared_named receiver shared)) place K.Use d n
    (λ d v e. text_is (λ n. n < length shared) (shared_named receiver shared) d v (shared_named_is receiver shared) e) h.0)

-- so many tables, written out
written_sound : (count lists : ℕ) (shared : List SharedRules) (items : List Item) → All (λ item. AreFewSound count lists (rules_in shared item)) items
    → (length (written_out shared items) ≤ 64 * length items) × All (IsSoundRule count lists) (written_out shared items)
written_sound count lists shared [] all = (omega arith, All-nil (IsSoundRule count lists))
written_sound count lists shared (item ∷ items) all =
    let first : AreFewSound count lists (rules_in shared item) = all 0 item (omega arith) in
    let rest : (length (written_out shared items) ≤ 64 * length items) × All (IsSoundRule count lists) (written_out shared items) =
    written_sound count lists shared items (λ i d within. all (suc i) d (omega arith)) in
    let few : length (rules_in shared item) ≤ 64 = first.0 in
    let fewer : length (written_out shared items) ≤ 64 * length items = rest.0 in (
      omega (arith, length-append (rules_in shared item) (written_out shared items)),
      All-append (IsSoundRule count lists) (rules_in shared item) (written_out shared items) first.1 rest.1,
    )

items_sound : (clients : List Client) (lists : List NamedList) (shared : List SharedRules) (n : ℕ) (list : RuleList) (d : Data) (items : List Item)
    → All (λ s. AreFewSound (length clients) (length lists) s.rules) shared → SaysItems clients lists shared n list d items
    → AreSoundRules (length clients) (length lists) (written_out shared items)
items_sound clients lists shared n list d items all h =
    let few : length h.tables ≤ 64 = few_at 64 (client_place n) (list_key list) d h.tables h.tables_are in
    let count : length items ≡ length h.tables = each_count (λ r d item. SaysItem clients lists shared (rule_place n list r) d item) 1 h.tables items h.each in
    let each : All (λ item. AreFewSound (length clients) (length lists) (rules_in shared item)) items =
    each_all (λ r d item. SaysItem clients lists shared (rule_place n list r) d item) (λ item. AreFewSound (length clients) (length lists) (rules_in shared item))
    (λ r d item e. item_sound clients lists shared (rule_place n list r) d item all e) 1 h.tables items h.each in
    let written : (length (written_out shared items) ≤ 64 * length items) × All (IsSoundRule (length clients) (length lists)) (written_out shared items) =
    written_sound (length clients) (length lists) shared items each in
    let fits : length (written_out shared items) ≤ 64 * length items = written.0 in
    record { few = omega arith; each = written.1 }

policy_sound : (clients : List Client) (lists : List NamedList) (shared : List SharedRules) (n : ℕ) (d : Data) (policy : Stated)
    → All (λ s. AreFewSound (length clients) (length lists) s.rules) shared → SaysPolicy clients lists shared n d policy
    → IsSoundPolicy (length clients) (length lists) (policy_written shared policy)
policy_sound clients lists shared n d policy all h = record {
  import = items_sound clients lists shared n Import d policy.import all h.import;
  export = items_sound clients lists shared n Export d policy.export all h.export;
}

-- ---- the top, the clients and the lists

list_sound : (n : ℕ) (d : Data) (l : NamedList) → SaysNamedList n d l → IsSoundList l
list_sound n d l h = record {
  name = at_required (λ t. is_name t ≡ true) (text_as name_of) (list_place n) K.Name d l.name
      (λ d v e. text_is (λ t. is_name t ≡ true) name_of d v name_is e) h.name;
  prefixes = few_entries prefix_entry n K.Prefixes d l.prefixes h.prefixes;
  ases = few_entries as_entry n K.Ases d l.ases h.ases;
}

other_names : (a b : NamedList) → is_same_name b a ≡ false → AreOtherLists a b
other_names a b e f =
    let g : bytes_eq b.name a.name ≡ true = (bytes_eq-Decides b.name a.name).1 (sym f) in
    let k : false ≡ true = sym e ∙ g in cc

abbrev IsNumber : ℕ → Type 0
IsNumber n = (1 ≤ n) × (n ≤ 4294967295)

client_sound : (n : ℕ) (d : Data) (c : Client) → SaysClient n d c → IsSoundClient c
client_sound n d c h =
    let number : IsNumber c.client_as = at_required IsNumber positive (client_place n) K.As d c.client_as (integer_is 1 4294967295) h.client_as in
    let low : 1 ≤ c.client_as = number.0 in
    let high : c.client_as ≤ 4294967295 = number.1 in
    record {
      name = at_required (λ t. is_name t ≡ true) (text_as name_of) (client_place n) K.Name d c.name
          (λ d v e. text_is (λ t. is_name t ≡ true) name_of d v name_is e) h.name;
      some_as = omega arith;
      number = omega arith;
      port = at_required (λ (v : ℕ × ℕ). 0 < v.1) (text_as endpoint_of) (client_place n) K.Listen d c.listen
          (λ d v e. text_is (λ (v : ℕ × ℕ). 0 < v.1) endpoint_of d v port_is e) h.listen;
      limit = at_maybe (λ n. 0 < n) positive (client_place n) K.Limit d c.limit
          (λ d v e. let k : 1 ≤ v = (integer_is 1 4294967295 d v e).0 in omega arith) h.limit;
    }

all_true : (x y z : Bool) → x ≡ true → y ≡ true → z ≡ true → ((x && y) && z) ≡ true
all_true x y z p q r = ap (λ w. (w && y) && z) p ∙ ap (λ w. w && z) q ∙ r

not_same : (a b : Client) → is_same b a ≡ false → AreOthers a b
not_same a b e =
    let h : (bytes_eq b.name a.name ≡ false) × (((b.listen.0 == a.listen.0 && b.listen.1 == a.listen.1) && b.peer == a.peer) ≡ false) =
    or_parts (bytes_eq b.name a.name) ((b.listen.0 == a.listen.0 && b.listen.1 == a.listen.1) && b.peer == a.peer) e in (
      λ f. let g : bytes_eq b.name a.name ≡ true = (bytes_eq-Decides b.name a.name).1 (sym f) in
          let k : false ≡ true = sym h.0 ∙ g in cc,
      λ f p. let g : ((b.listen.0 == a.listen.0 && b.listen.1 == a.listen.1) && b.peer == a.peer) ≡ true =
          all_true (b.listen.0 == a.listen.0) (b.listen.1 == a.listen.1) (b.peer == a.peer)
          (eq-eqb b.listen.0 a.listen.0 (sym (ap (λ (x : ℕ × ℕ). x.0) f)))
          (eq-eqb b.listen.1 a.listen.1 (sym (ap (λ (x : ℕ × ℕ). x.1) f)))
          (eq-eqb b.peer a.peer (sym p)) in
          let k : false ≡ true = sym h.1 ∙ g in cc,
    )

pub says_sound : (d : Data) (s : Configuration) → Says d s → IsSound s
says_sound d s h =
    let some : (0 < length h.tables) × (length h.tables ≤ 512) = some_at 512 the_top K.Client d h.tables h.tables_are in
    let count : length s.clients ≡ length h.tables = each_count SaysClient 1 h.tables s.clients h.clients in
    let policies : length s.policies ≡ length h.tables = each_count (SaysPolicy s.clients s.lists s.shared) 1 h.tables s.policies h.policies in
    let shared : All (λ r. AreFewSound (length s.clients) (length s.lists) r.rules) s.shared =
    each_all (SaysShared s.clients s.lists) (λ r. AreFewSound (length s.clients) (length s.lists) r.rules) (shared_sound s.clients s.lists) 1 h.shared_tables s.shared h.rules in
    let lists : length s.lists ≡ length h.lists_tables = each_count SaysNamedList 1 h.lists_tables s.lists h.lists in
    let fewer : length h.lists_tables ≤ 1024 = few_at 1024 the_top K.List d h.lists_tables h.lists_are in
    let number : IsNumber s.top.server_as = at_required IsNumber positive the_top K.As d s.top.server_as (integer_is 1 4294967295) h.top.server_as in
    let named : (s.top.identifier ≢ 0) × (s.top.identifier < 2 ^ 32) =
    at_required (λ n. (n ≢ 0) × (n < 2 ^ 32)) identifier the_top K.Identifier d s.top.identifier identifier_is h.top.identifier in
    let hold : IsHold s.top.hold = at_optional IsHold hold_seconds 90 the_top K.Hold d s.top.hold
    (record { not_1 = λ e. omega arith; not_2 = λ e. omega arith; fits = omega arith }) hold_is h.top.hold in
    let least : 1 ≤ s.top.server_as = number.0 in
    let most : s.top.server_as ≤ 4294967295 = number.1 in
    let first : 0 < length h.tables = some.0 in
    let last : length h.tables ≤ 512 = some.1 in
    record {
      some = omega arith;
      few = omega arith;
      policies = policies ∙ sym count;
      top = record {
        some_as = omega arith;
        number = omega arith;
        some_identifier = named.0;
        identifier = named.1;
        not_1 = hold.not_1;
        not_2 = hold.not_2;
        hold = hold.fits;
      };
      clients = each_all SaysClient IsSoundClient client_sound 1 h.tables s.clients h.clients;
      others = λ i j x before within. not_same (get_or s.clients i x) (get_or s.clients j x) (h.none_twice i j x before within);
      few_lists = omega arith;
      lists = each_all SaysNamedList IsSoundList list_sound 1 h.lists_tables s.lists h.lists;
      other_lists = λ i j x before within. other_names (get_or s.lists i x) (get_or s.lists j x) (h.no_list_twice i j x before within);
      rules = each_all (SaysPolicy s.clients s.lists s.shared) (λ p. IsSoundPolicy (length s.clients) (length s.lists) (policy_written s.shared p))
          (λ n d p e. policy_sound s.clients s.lists s.shared n d p shared e) 1 h.tables s.policies h.policies;
    }

-- a configuration that passes every check
pub answer_sound : (d : Data) (s : Configuration) → answer (document_checks d) (configuration_of d) ≡ Ok s → IsSound s
answer_sound d s e = says_sound d s (answer_says d s e)

pub config_sound : (text : List ℕ) (s : Configuration) → config_of text ≡ Ok s → IsSound s
config_sound text s e =
    let h = accepted_says text s e in
    says_sound (table h.0) s h.1.1
