-- A rule without tests matches every route.
use Rattle.std.proofs.Common.{◌≡◌, Bool, true, false, Option, Some, None, refl, ◌||◌}
use Rattle.std.specs.Prelude.{is_some}
use Rattle.std.specs.List.{list_any}
use Rattle.toml.specs.Data.{Data, get}
use Rattle.rs_policy.specs.Keys.{key_text}
use Rattle.rs_policy.specs.Values.{optional_at}
use Rattle.rs_policy.specs.Rules.{range_of, tests_of}
use Rattle.rs_policy.specs.Verdicts.{matches, attributes_match}
use Rattle.rs_policy.specs.declared.faults.Key.TheVariants as K
use Rattle.rs_check.specs.Warnings.{MatchesAll, has_key, test_keys}

none : {A : Type 0} → (o : Option A) → is_some o ≡ false → o ≡ None
none None e = refl
none (Some a) e = cc

left : (a b : Bool) → (a || b) ≡ false → a ≡ false
left false b e = refl
left true b e = cc

right : (a b : Bool) → (a || b) ≡ false → b ≡ false
right false b e = e
right true b e = cc

pub untested : (d : Data) → list_any (has_key d) test_keys ≡ false → has_key d K.Prefix ≡ false → MatchesAll d
unfolding matches attributes_match range_of tests_of optional_at
untested d e p clients lists place route =
    let after1 = right (has_key d K.PrefixIn) _ e in
    let after2 = right (has_key d K.From) _ after1 in
    let after3 = right (has_key d K.PathHas) _ after2 in
    let after4 = right (has_key d K.PathLonger) _ after3 in
    let after5 = right (has_key d K.PathIn) _ after4 in
    let after6 = right (has_key d K.OriginAs) _ after5 in
    let after7 = right (has_key d K.OriginIn) _ after6 in
    let after8 = right (has_key d K.FirstAsIsPeer) _ after7 in
    let after9 = right (has_key d K.Community) _ after8 in
    let after10 = right (has_key d K.LargeCommunity) _ after9 in
    let prefix = none (get (key_text K.Prefix) d) p in
    let prefix_in = none (get (key_text K.PrefixIn) d) (left (has_key d K.PrefixIn) _ e) in
    let from = none (get (key_text K.From) d) (left (has_key d K.From) _ after1) in
    let path_has = none (get (key_text K.PathHas) d) (left (has_key d K.PathHas) _ after2) in
    let path_longer = none (get (key_text K.PathLonger) d) (left (has_key d K.PathLonger) _ after3) in
    let path_in = none (get (key_text K.PathIn) d) (left (has_key d K.PathIn) _ after4) in
    let origin_as = none (get (key_text K.OriginAs) d) (left (has_key d K.OriginAs) _ after5) in
    let origin_in = none (get (key_text K.OriginIn) d) (left (has_key d K.OriginIn) _ after6) in
    let first_as = none (get (key_text K.FirstAsIsPeer) d) (left (has_key d K.FirstAsIsPeer) _ after7) in
    let community = none (get (key_text K.Community) d) (left (has_key d K.Community) _ after8) in
    let large = none (get (key_text K.LargeCommunity) d) (left (has_key d K.LargeCommunity) _ after9) in
    let next_hop = none (get (key_text K.NextHopIsPeer) d) (left (has_key d K.NextHopIsPeer) _ after10) in
    rw prefix (rw prefix_in (rw from (rw path_has (rw path_longer (rw path_in (rw origin_as (rw origin_in (rw first_as (rw community (rw large (rw next_hop refl)))))))))))
