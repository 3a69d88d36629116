-- What is left to do for a client.
use Rattle.std.specs.Prelude.{◌≡◌, Some, [], false, IsSome}
use Rattle.std.specs.FinMap as map
use Rattle.std.specs.FinSet as set
use Rattle.rs_outlet.specs.Views.{View}

-- it is up, nothing is touched, waits or is in flight, and no KEEPALIVE is due
pub record HasNothingLeft (v : View) : Type 0 where
  pub up : IsSome v.speech
  pub untouched : v.touched ≡ Some set.empty
  pub flight : v.flight ≡ []
  pub keepalive_due : v.keepalive_due ≡ false
  pub waits : v.waits ≡ map.empty
