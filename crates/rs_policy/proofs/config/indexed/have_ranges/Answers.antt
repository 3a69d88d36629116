use Rattle.std.proofs.Common.{refl, arith}
use Rattle.rs_policy.specs.Indexed.{range_by}
use Rattle.rs_policy.proofs.Judging.Spans.{mapped_by_places}
use Rattle.rs_policy.proofs.config.indexed.have_ranges.Goals as goal

pub returns : goal.returns
returns c = (
  λ _. mapped_by_places range_by c.args.spans.now c.args.ranges.now (omega (arith, c.if-spans-ranges.false))
      (λ k s r l. c.loop-place.invariant k s r (omega (arith, l, c.if-spans-ranges.false, c.loop-place-test.false))),
  λ _. refl,
)
