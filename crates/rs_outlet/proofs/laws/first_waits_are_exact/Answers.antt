use Rattle.std.proofs.Common.{refl}
use Rattle.rs_outlet.specs.Views.{bare, begun, cleared, finished}
use Rattle.rs_outlet.proofs.Pending.Exact.{exact_empty}
use Rattle.rs_outlet.proofs.laws.first_waits_are_exact.Goals as goal

pub returns : goal.returns
returns c = record {
  bare = λ client extended last. exact_empty (bare client extended last) refl refl refl refl;
  begun = λ speech v. exact_empty (begun speech v) refl refl refl refl;
  cleared = λ v. exact_empty (cleared v) refl refl refl refl;
  finished = λ note v. exact_empty (finished note v) refl refl refl refl;
}
