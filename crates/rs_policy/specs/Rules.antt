-- A rule as a table spells it: its keys, their checks in order, and the rule where none fails.
use Rattle.std.specs.Prelude.{ℕ, Bool, nat_lt, List, [], ◌∷◌, ◌++◌, length, codes, bytes_eq, true, false, ◌&&◌, position, Option, Some, None, is_some, Result, Ok, Err, option_map, option_and_then, if◌then◌else◌}
use Rattle.toml.specs.Data.{Data, as_array, as_str, as_bool, get}
use Rattle.rs_octets.specs.Prefixes.{Prefix}
use Rattle.rs_policy.specs.Keys.{key_text, rule_keys}
use Rattle.rs_attrs.specs.declared.patterns.CommunityPattern.{CommunityPattern}
use Rattle.rs_attrs.specs.declared.patterns.LargeCommunityPattern.{LargeCommunityPattern}
use Rattle.rs_policy.specs.Texts.{prefix_of, community_of, large_community_of, pattern_of, large_pattern_of}
use Rattle.rs_policy.specs.Values.{text_as, integer_in, positive, nothing, disposition_of, keyed, list_of, read_or_bad, required_at, optional_at, maybe_at, fault_in, value_or, stranger}
use Rattle.rs_policy.specs.Configuration.{Client, NamedList}
use Rattle.rs_policy.specs.declared.faults.Key.{Key}
use Rattle.rs_policy.specs.declared.faults.Key.TheVariants as K
use Rattle.rs_policy.specs.declared.faults.List.{List as RuleList}
use Rattle.rs_policy.specs.declared.faults.List.TheVariants.{Import, Export, Shared}
use Rattle.rs_policy.specs.declared.faults.Table.{Table}
use Rattle.rs_policy.specs.declared.faults.Table.TheVariants as T
use Rattle.rs_policy.specs.declared.faults.Place.{Place}
use Rattle.rs_policy.specs.declared.faults.ConfigFault.{ConfigFault}
use Rattle.rs_policy.specs.declared.faults.ConfigFault.TheVariants.{TooMany}
use Rattle.rs_policy.specs.declared.rules.Disposition.{Disposition}
use Rattle.rs_policy.specs.declared.rules.Disposition.TheVariants as D
use Rattle.rs_policy.specs.declared.rules.Range.{Range}
use Rattle.rs_policy.specs.declared.rules.Stripping.{Stripping}
use Rattle.rs_policy.specs.declared.rules.Stripping.TheVariants.{Named, All}
use Rattle.rs_policy.specs.declared.rules.Action.{Action}
use Rattle.rs_policy.specs.declared.rules.Action.TheVariants as A
use Rattle.rs_policy.specs.declared.rules.CommunityTest.{CommunityTest}
use Rattle.rs_policy.specs.declared.rules.LargeCommunityTest.{LargeCommunityTest}
use Rattle.rs_policy.specs.declared.rules.Rule.{Rule}
use Rattle.rs_policy.specs.declared.rules.Tests.{Tests}

-- `prefix`, and the lengths of `min` and `max`, which stand only beside it

abbrev pub prefix_at : Place → Data → Result (Option Prefix) ConfigFault
prefix_at place d = maybe_at (text_as prefix_of) place K.Prefix d

abbrev pub length_of : Option Prefix → ℕ
length_of None = 0
length_of (Some p) = p.len

abbrev pub lengths_from : Option Prefix → ℕ → Data → Option ℕ
lengths_from None low = nothing
lengths_from (Some p) low = integer_in low 32

abbrev pub min_at : Option Prefix → Place → Data → Result ℕ ConfigFault
min_at p place d = optional_at (lengths_from p (length_of p)) (length_of p) place K.Min d

abbrev pub max_at : Option Prefix → ℕ → Place → Data → Result ℕ ConfigFault
max_at p min place d = optional_at (lengths_from p min) min place K.Max d

abbrev pub range_with : Option Prefix → ℕ → ℕ → Option Range
range_with None min max = None
range_with (Some p) min max = Some (record { prefix = p; min = min; max = max })

abbrev pub prefix_in : Place → Data → Option Prefix
prefix_in place d = value_or None (prefix_at place d)

abbrev pub min_in : Place → Data → ℕ
min_in place d = value_or 0 (min_at (prefix_in place d) place d)

abbrev pub max_in : Place → Data → ℕ
max_in place d = value_or 0 (max_at (prefix_in place d) (min_in place d) place d)

unfoldable pub range_checks : Place → Data → List (Option ConfigFault)
range_checks place d =
    fault_in (prefix_at place d)
    ∷ fault_in (min_at (prefix_in place d) place d)
    ∷ fault_in (max_at (prefix_in place d) (min_in place d) place d)
    ∷ []

unfoldable pub range_of : Place → Data → Option Range
range_of place d = range_with (prefix_in place d) (min_in place d) (max_in place d)

-- the tests that look at lists, the sender and the attributes

-- the place of the client with this name, from 0
abbrev pub client_named : List Client → List ℕ → Option ℕ
client_named clients name = position (λ c. bytes_eq c.name name) clients

-- the place of the list with this name, from 0, where it has prefixes
abbrev pub prefixes_named : List NamedList → List ℕ → Option ℕ
prefixes_named lists name = position (λ l. bytes_eq l.name name && is_some l.prefixes) lists

-- and where it has AS numbers
abbrev pub ases_named : List NamedList → List ℕ → Option ℕ
ases_named lists name = position (λ l. bytes_eq l.name name && is_some l.ases) lists

abbrev pub prefix_in_at : List NamedList → Place → Data → Result (Option ℕ) ConfigFault
prefix_in_at lists place d = maybe_at (text_as (prefixes_named lists)) place K.PrefixIn d

abbrev pub from_at : List Client → Place → Data → Result (Option ℕ) ConfigFault
from_at clients place d = maybe_at (text_as (client_named clients)) place K.From d

abbrev pub path_has_at : Place → Data → Result (Option ℕ) ConfigFault
path_has_at place d = maybe_at positive place K.PathHas d

abbrev pub path_longer_at : Place → Data → Result (Option ℕ) ConfigFault
path_longer_at place d = maybe_at (integer_in 0 4294967295) place K.PathLonger d

abbrev pub path_in_at : List NamedList → Place → Data → Result (Option ℕ) ConfigFault
path_in_at lists place d = maybe_at (text_as (ases_named lists)) place K.PathIn d

abbrev pub origin_as_at : Place → Data → Result (Option ℕ) ConfigFault
origin_as_at place d = maybe_at positive place K.OriginAs d

abbrev pub origin_in_at : List NamedList → Place → Data → Result (Option ℕ) ConfigFault
origin_in_at lists place d = maybe_at (text_as (ases_named lists)) place K.OriginIn d

abbrev pub first_as_is_peer_at : Place → Data → Result (Option Bool) ConfigFault
first_as_is_peer_at place d = maybe_at as_bool place K.FirstAsIsPeer d

-- an import list's rules are asked whoever is sent the route, so that none names the receiver
abbrev pub list_has_receiver : RuleList → Bool
list_has_receiver Import = false
list_has_receiver Export = true
list_has_receiver Shared = true

abbrev pub has_receiver : Table → Bool
has_receiver (T.Rule n list r) = list_has_receiver list
has_receiver T.Top = false
has_receiver (T.Client n) = false
has_receiver (T.Rules n) = false
has_receiver (T.List n) = false
has_receiver (T.Entry n e) = false

abbrev pub community_at : Place → Data → Result (Option CommunityTest) ConfigFault
community_at place d = maybe_at (text_as (community_of (has_receiver place.table))) place K.Community d

abbrev pub large_community_at : Place → Data → Result (Option LargeCommunityTest) ConfigFault
large_community_at place d = maybe_at (text_as (large_community_of (has_receiver place.table))) place K.LargeCommunity d

abbrev pub next_hop_is_peer_at : Place → Data → Result (Option Bool) ConfigFault
next_hop_is_peer_at place d = maybe_at as_bool place K.NextHopIsPeer d

-- `action`, and `preference`, `strip` and `strip_large`, which stand only beside "pass"

abbrev pub disposition_at : Place → Data → Result Disposition ConfigFault
disposition_at place d = required_at (text_as disposition_of) place K.Action d

abbrev pub preferences : Disposition → Data → Option ℕ
preferences D.Pass = integer_in 0 4294967295
preferences D.Drop = nothing

abbrev pub preference_at : Disposition → Place → Data → Result (Option ℕ) ConfigFault
preference_at disposition place d = maybe_at (preferences disposition) place K.Preference d

-- what each of some values is, where each is one
abbrev pub each_read : {A : Type 0} → (Data → Option A) → List Data → Option (List A)
each_read reads [] = Some []
each_read reads (d ∷ ds) = option_and_then (λ a. option_map (λ rest. a ∷ rest) (each_read reads ds)) (reads d)

-- the array or the text that a value is
abbrev pub stripping_from : {A : Type 0} → (Data → Option A) → Option (List Data) → Option (List ℕ) → Option (Stripping A)
stripping_from reads (Some ds) text = option_map Named (each_read reads ds)
stripping_from reads None (Some text) = if bytes_eq text (codes "all") then Some All else None
stripping_from reads None None = None

abbrev pub stripping_of : {A : Type 0} → (Data → Option A) → Data → Option (Stripping A)
stripping_of reads d = stripping_from reads (option_map list_of (as_array d)) (as_str d)

abbrev pub strippings : {A : Type 0} → (Data → Option A) → Disposition → Data → Option (Stripping A)
strippings reads D.Pass = stripping_of reads
strippings reads D.Drop = nothing

abbrev pub is_longer : ℕ → Option (List Data) → Bool
is_longer most None = false
is_longer most (Some ds) = nat_lt most (length ds)

abbrev pub strip_found : {A : Type 0} → (Data → Option A) → Disposition → Place → Option Data → Result (Stripping A) ConfigFault
strip_found reads disposition place None = Ok (Named [])
strip_found reads disposition place (Some d) = if is_longer 64 (option_map list_of (as_array d)) then Err (TooMany place) else read_or_bad place (strippings reads disposition d)

unfoldable pub stripping_at : {A : Type 0} → (Data → Option A) → Key → Disposition → Place → Data → Result (Stripping A) ConfigFault
stripping_at reads key disposition place d = strip_found reads disposition (keyed place key) (get (key_text key) d)

abbrev pub strip_at : Disposition → Place → Data → Result (Stripping CommunityPattern) ConfigFault
strip_at = stripping_at (text_as pattern_of) K.Strip

abbrev pub strip_large_at : Disposition → Place → Data → Result (Stripping LargeCommunityPattern) ConfigFault
strip_large_at = stripping_at (text_as large_pattern_of) K.StripLarge

abbrev pub disposition_in : Place → Data → Disposition
disposition_in place d = value_or D.Drop (disposition_at place d)

unfoldable pub action_checks : Place → Data → List (Option ConfigFault)
action_checks place d =
    fault_in (disposition_at place d)
    ∷ fault_in (preference_at (disposition_in place d) place d)
    ∷ fault_in (strip_at (disposition_in place d) place d)
    ∷ fault_in (strip_large_at (disposition_in place d) place d)
    ∷ []

abbrev pub action_with : Disposition → Option ℕ → Stripping CommunityPattern → Stripping LargeCommunityPattern → Action
action_with D.Drop preference strip strip_large = A.Drop
action_with D.Pass preference strip strip_large = A.Pass preference strip strip_large

unfoldable pub action_of : Place → Data → Action
action_of place d = action_with (disposition_in place d) (value_or None (preference_at (disposition_in place d) place d)) (value_or (Named []) (strip_at (disposition_in place d) place d)) (value_or (Named []) (strip_large_at (disposition_in place d) place d))

-- the rule

unfoldable pub test_checks : List Client → List NamedList → Place → Data → List (Option ConfigFault)
test_checks clients lists place d =
    fault_in (prefix_in_at lists place d)
    ∷ fault_in (from_at clients place d)
    ∷ fault_in (path_has_at place d)
    ∷ fault_in (path_longer_at place d)
    ∷ fault_in (path_in_at lists place d)
    ∷ fault_in (origin_as_at place d)
    ∷ fault_in (origin_in_at lists place d)
    ∷ fault_in (first_as_is_peer_at place d)
    ∷ fault_in (community_at place d)
    ∷ fault_in (large_community_at place d)
    ∷ fault_in (next_hop_is_peer_at place d)
    ∷ []

abbrev pub rule_checks : List Client → List NamedList → Place → Data → List (Option ConfigFault)
rule_checks clients lists place d = range_checks place d ++ (test_checks clients lists place d ++ (action_checks place d ++ fault_in (stranger rule_keys place d) ∷ []))

unfoldable pub tests_of : List Client → List NamedList → Place → Data → Tests
tests_of clients lists place d = record {
  prefix_in = value_or None (prefix_in_at lists place d);
  from = value_or None (from_at clients place d);
  path_has = value_or None (path_has_at place d);
  path_longer = value_or None (path_longer_at place d);
  path_in = value_or None (path_in_at lists place d);
  origin_as = value_or None (origin_as_at place d);
  origin_in = value_or None (origin_in_at lists place d);
  first_as_is_peer = value_or None (first_as_is_peer_at place d);
  community = value_or None (community_at place d);
  large_community = value_or None (large_community_at place d);
  next_hop_is_peer = value_or None (next_hop_is_peer_at place d);
}

abbrev pub rule_of : List Client → List NamedList → Place → Data → Rule
rule_of clients lists place d = record { range = range_of place d; tests = tests_of clients lists place d; action = action_of place d }
