use Rattle.std.proofs.Common.{sym, ◌∙◌}
use Rattle.rs_attrs.proofs.reading.values.is_whole_path.Goals as goal

pub loop-segment-preserved : goal.loop-segment-preserved
loop-segment-preserved c = sym c.in-Some.ensures.whole ∙ c.loop-segment.invariant
