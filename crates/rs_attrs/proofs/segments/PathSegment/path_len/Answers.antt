use Rattle.std.proofs.Common.{cond, length, sym, ap, ◌∙◌}
use Rattle.std.proofs.lemmas.Bool.{ne_eqb}
use Rattle.rs_attrs.specs.Paths.{segment_length, quads}
use Rattle.rs_attrs.proofs.Paths.SegmentWalk.{length-quads}
use Rattle.rs_attrs.proofs.segments.PathSegment.path_len.Goals as goal

pub returns-else-self-eq-AS_SET : goal.returns-else-self-eq-AS_SET
returns-else-self-eq-AS_SET c =
    sym (length-quads c.self.inside.numbers.now)
    ∙ ap (λ b. cond b 1 (length (quads c.self.inside.numbers.now))) (sym (ne_eqb c.self.inside.kind 1 c.if-self-eq-AS_SET.false))
    ∙ ap segment_length c.self.view_is
