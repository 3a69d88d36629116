-- What an outlet is for a client, as long as the route server lasts.
use Rattle.std.specs.Prelude.{◌≡◌, ◌<◌, ℕ, Bool, List, length, slice_index_or}
use Rattle.rs_outlet.specs.Views.{View, bare}
use Rattle.rs_outlet.specs.declared.answers.Last.TheVariants as lasts

-- its client's, made for messages of this length
pub record IsOutletOf (c : ℕ) (long : Bool) (o : View) : Type 0 where
  pub client : o.client ≡ c
  pub extended : o.extended ≡ long

abbrev pub AreKept : Bool → List View → Type 0
AreKept long outlets = (c : ℕ) (d : View) → c < length outlets → IsOutletOf c long (slice_index_or outlets c d)

-- each client's outlet as it is made: no session, and nothing due or in flight
abbrev pub AreBare : Bool → List View → Type 0
AreBare long outlets = (c : ℕ) (d : View) → c < length outlets → slice_index_or outlets c d ≡ bare c long lasts.Never
