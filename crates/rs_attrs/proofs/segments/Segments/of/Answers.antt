use Rattle.std.proofs.Common.{arith}
use Rattle.rs_attrs.proofs.Paths.SegmentWalk.{path_length-bound}
use Rattle.rs_attrs.proofs.segments.Segments.of.Goals as goal

pub returns-clause-short : goal.returns-clause-short
returns-clause-short c = omega (arith, path_length-bound c.args.value.now)
