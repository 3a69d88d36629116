use Rattle.std.proofs.Common.{length, sym, ap, ◌∙◌}
use Rattle.rs_attrs.proofs.Paths.SegmentWalk.{length-quads}
use Rattle.rs_attrs.proofs.segments.PathSegment.count.Goals as goal

pub returns : goal.returns
returns c = sym (length-quads c.self.inside.numbers.now) ∙ ap (λ s. length s.numbers) c.self.view_is
