use Rattle.std.proofs.Common.{◌≡◌, ℕ, cond, nat_eq, refl, ◌∙◌, arith}
use Rattle.rs_attrs.proofs.Paths.Widening.{on_ok}
use Rattle.rs_attrs.proofs.Paths.Leading.{leading_last, leading_step, counts_one, counts_all}
use Rattle.rs_attrs.proofs.reading.two.push_leading.Goals as goal
use Rattle.rs_attrs.proofs.reading.two.push_leading.Goals.{then-segment-eq-AS_SET, else-segment-eq-AS_SET}

pub returns-then-left-length : goal.returns-then-left-length
returns-then-left-length c =
    let kind : ℕ = c.in-Some.segment.kind in
    let count : ℕ = c.in-Some.segment.count in
    let length_is : c.if-segment-eq-AS_SET.length ≡ cond (nat_eq kind 1) 1 count = elim c.if-segment-eq-AS_SET.branch [
      | then-segment-eq-AS_SET w ↦ w.length-is ∙ counts_one kind count w.if-segment-eq-AS_SET.true
      | else-segment-eq-AS_SET w ↦ w.length-is ∙ w.from-length.ensures ∙ counts_all kind count w.if-segment-eq-AS_SET.false
    ] in
    on_ok c.push_segment.result _ _
    (leading_last _ _ _ _ _ c.loop-segment.left c.if-segment-eq-AS_SET.length c.loop-segment.rest.now c.split_at.result.0.now c.in-Some.segment c.loop-segment.invariant (c.in-Some.ensures.segment c.loop-segment.invariant.whole)
    (omega (arith, c.if-left-eq0.false)) c.if-left-length.true length_is c.split_at.ensures.front)
    c.push_segment.ensures

pub loop-segment-preserved : goal.loop-segment-preserved
loop-segment-preserved c =
    let kind : ℕ = c.in-Some.segment.kind in
    let count : ℕ = c.in-Some.segment.count in
    let length_is : c.if-segment-eq-AS_SET.length ≡ cond (nat_eq kind 1) 1 count = elim c.if-segment-eq-AS_SET.branch [
      | then-segment-eq-AS_SET w ↦ w.length-is ∙ counts_one kind count w.if-segment-eq-AS_SET.true
      | else-segment-eq-AS_SET w ↦ w.length-is ∙ w.from-length.ensures ∙ counts_all kind count w.if-segment-eq-AS_SET.false
    ] in
    leading_step _ _ _ _ _ c.loop-segment.left _ c.if-segment-eq-AS_SET.length c.loop-segment.rest.now c.in-Some.segment c.loop-segment.invariant (c.in-Some.ensures.segment c.loop-segment.invariant.whole)
    (omega (arith, c.if-left-eq0.false)) c.if-left-length.false length_is refl c.in_ok-push_segment.ensures
