use Rattle.std.proofs.Common.{arith}
use Rattle.rs_attrs.proofs.Strips.Communities.{length-triples}
use Rattle.rs_attrs.proofs.patterns.LargeCommunities.of.Goals as goal

pub returns-clause-short : goal.returns-clause-short
returns-clause-short c = omega (arith, length-triples c.of.result, c.of.ensures.short)
