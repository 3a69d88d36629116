-- Rules that match every route.
use Rattle.std.specs.Prelude.{◌≡◌, Bool, true, is_some, List, [], ◌∷◌}
use Rattle.toml.specs.Data.{Data, get}
use Rattle.rs_policy.specs.Keys.{key_text}
use Rattle.rs_policy.specs.Configuration.{Client, NamedList}
use Rattle.rs_policy.specs.Rules.{rule_of}
use Rattle.rs_policy.specs.Verdicts.{AnnouncedRoute, matches}
use Rattle.rs_policy.specs.declared.faults.Key.{Key}
use Rattle.rs_policy.specs.declared.faults.Key.TheVariants as K
use Rattle.rs_policy.specs.declared.faults.Place.{Place}

abbrev pub has_key : Data → Key → Bool
has_key d key = is_some (get (key_text key) d)

-- the tests of a rule, but for its range
abbrev pub test_keys : List Key
test_keys = K.PrefixIn ∷ K.From ∷ K.PathHas ∷ K.PathLonger ∷ K.PathIn ∷ K.OriginAs ∷ K.OriginIn ∷ K.FirstAsIsPeer ∷ K.Community ∷ K.LargeCommunity ∷ K.NextHopIsPeer ∷ []

-- the rule of this table matches every route
abbrev pub MatchesAll : Data → Type 0
MatchesAll d = (clients : List Client) (lists : List NamedList) (place : Place) (route : AnnouncedRoute) → matches lists (rule_of clients lists place d) route ≡ true
