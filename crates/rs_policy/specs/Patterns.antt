-- Which communities a rule's tests are like, beside the AS number of the client to which a route goes.
use Rattle.std.specs.Prelude.{ℕ, Bool, true, false, ◌||◌, Option, Some, None, option_map, unwrap_or}
use Rattle.rs_attrs.specs.declared.patterns.CommunityPattern.{CommunityPattern}
use Rattle.rs_attrs.specs.declared.patterns.LargeCommunityPattern.{LargeCommunityPattern}
use Rattle.rs_policy.specs.declared.rules.Part.{Part}
use Rattle.rs_policy.specs.declared.rules.Part.TheVariants.{Number, Any, Peer}
use Rattle.rs_policy.specs.declared.rules.CommunityTest.{CommunityTest}
use Rattle.rs_policy.specs.declared.rules.LargeCommunityTest.{LargeCommunityTest}
use Rattle.rs_policy.specs.declared.rules.Tests.{Tests}

-- the number that a part has to be, None where any is right; `peer` is the receiver's AS number
abbrev pub number_for : ℕ → Part → Option ℕ
number_for to_as (Number n) = Some n
number_for to_as Any = None
number_for to_as Peer = Some to_as

abbrev pub pattern_for : ℕ → CommunityTest → CommunityPattern
pattern_for to_as t = record { high = number_for to_as t.high; low = number_for to_as t.low }

abbrev pub large_pattern_for : ℕ → LargeCommunityTest → LargeCommunityPattern
large_pattern_for to_as t = record { global = number_for to_as t.global; first = number_for to_as t.first; second = number_for to_as t.second }

-- what they are like, whoever the receiver is: it may have any AS number

abbrev pub number_for_any : Part → Option ℕ
number_for_any (Number n) = Some n
number_for_any Any = None
number_for_any Peer = None

abbrev pub pattern_for_any : CommunityTest → CommunityPattern
pattern_for_any t = record { high = number_for_any t.high; low = number_for_any t.low }

abbrev pub large_pattern_for_any : LargeCommunityTest → LargeCommunityPattern
large_pattern_for_any t = record { global = number_for_any t.global; first = number_for_any t.first; second = number_for_any t.second }

-- whether a part is `peer`

abbrev pub is_peer : Part → Bool
is_peer (Number n) = false
is_peer Any = false
is_peer Peer = true

abbrev pub names_peer : CommunityTest → Bool
names_peer t = is_peer t.high || is_peer t.low

abbrev pub large_names_peer : LargeCommunityTest → Bool
large_names_peer t = is_peer t.global || (is_peer t.first || is_peer t.second)

unfoldable pub tests_name_peer : Tests → Bool
tests_name_peer tests = unwrap_or (option_map names_peer tests.community) false || unwrap_or (option_map large_names_peer tests.large_community) false
