use Rattle.std.proofs.Common.{cond, sym, ap, ◌∙◌, Some, None, eq-eqb}
use Rattle.std.proofs.lemmas.Iterator.{items_from_drains}
use Rattle.std.proofs.lemmas.Iterator.Consumers.{YieldsList-from_first}
use Rattle.rs_attrs.specs.Paths.{segment_origin, last_of, quads}
use Rattle.rs_attrs.proofs.Paths.SegmentWalk.{last_of_drained}
use Rattle.rs_attrs.proofs.segments.PathSegment.origin.Goals as goal

pub returns-then-self-eq-AS_SEQUENCE : goal.returns-then-self-eq-AS_SEQUENCE
returns-then-self-eq-AS_SEQUENCE c =
    let numbers = quads c.self.inside.numbers.now in
    let drains = c.last.ensures.ran.1 in
    let drained = items_from_drains c.last.ensures.ran.0 (drains.1.0, drains.1.1, λ w. (drains.0, drains.1.2)) (YieldsList-from_first (λ n. n) (λ ns. ns) numbers c.of.ensures.numbers) in
    c.last.ensures.ran.2 ∙ last_of_drained c.last.ensures.ran.0 numbers drained
    ∙ ap (λ b. cond b (last_of numbers) None) (sym (eq-eqb c.self.inside.kind 2 c.if-self-eq-AS_SEQUENCE.true))
    ∙ ap (λ s. segment_origin (Some s)) c.self.view_is
