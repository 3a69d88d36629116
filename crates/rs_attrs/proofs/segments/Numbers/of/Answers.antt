use Rattle.std.proofs.Common.{arith}
use Rattle.rs_attrs.proofs.Paths.SegmentWalk.{length-quads}
use Rattle.rs_attrs.proofs.segments.Numbers.of.Goals as goal

pub returns-clause-short : goal.returns-clause-short
returns-clause-short c = omega (arith, length-quads c.args.octets.now)
