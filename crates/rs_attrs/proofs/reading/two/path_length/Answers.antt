use Rattle.std.proofs.Common.{◌≡◌, ◌+◌, ℕ, ap, ◌∙◌, arith}
use Rattle.rs_attrs.specs.Table.{size_in}
use Rattle.rs_attrs.proofs.Paths.PathLength.{added, added_one, added_count, added_none, measured_step}
use Rattle.rs_attrs.proofs.reading.two.path_length.Goals as goal
use Rattle.rs_attrs.proofs.reading.two.path_length.Goals.{in-1, in-2, in_default-kind}

pub loop-segment-preserved : goal.loop-segment-preserved
loop-segment-preserved c =
    let kind : ℕ = c.in-Some.segment.kind in
    let count : ℕ = c.in-Some.segment.count in
    let more : c.match-segment.length ≡ added kind count = elim c.match-segment.branch [
      | in-1 w ↦ w.length-is ∙ added_one kind count w.in-1.is
      | in-2 w ↦ w.length-is ∙ w.from.ensures ∙ added_count kind count w.in-2.is
      | in_default-kind w ↦ w.length-is ∙ added_none kind count (λ e. omega (arith, w.in_default-kind)) (λ e. omega (arith, w.in_default-kind))
    ] in
    measured_step (size_in c.args.mode) c.args.confederations c.args.path.now c.loop-segment.length _ c.loop-segment.rest.now c.in-Some.segment c.loop-segment.invariant (c.in-Some.ensures.segment c.loop-segment.invariant.whole) c.in-Some.ensures.shorter
    (ap (λ n. c.loop-segment.length + n) more)
