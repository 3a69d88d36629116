use Rattle.std.proofs.Common.{List, ℕ, sym, subst, ap, ◌∙◌}
use Rattle.std.specs.Prelude.{Vec}
use Rattle.std.specs.Global.{Global}
use Rattle.rs_attrs.proofs.Paths.Leading.{Copying, copying_skip, copying_step}
use Rattle.rs_attrs.proofs.reading.two.push_as4_path.Goals as goal
use Rattle.rs_attrs.proofs.reading.two.push_as4_path.Goals.{then-is_segment_kind+in_ok-extend_from_slice+in_ok-extend_from_slice-2, else-is_segment_kind}

pub loop-segment-preserved : goal.loop-segment-preserved
loop-segment-preserved c = elim c.if-is_segment_kind.branch [
  | then-is_segment_kind+in_ok-extend_from_slice+in_ok-extend_from_slice-2 w ↦
      copying_step _ _ _ w.extend_from_slice.new.self.items _ _ c.in-Some.segment c.loop-segment.invariant (c.in-Some.ensures.segment c.loop-segment.invariant.whole) (sym c.is_segment_kind.ensures ∙ w.if-is_segment_kind.true) c.in-Some.ensures.octets
      w.in_ok-extend_from_slice.ensures.items
      (ap (λ (v : Vec ℕ Global). v.items) w.values-is ∙ w.in_ok-extend_from_slice-2.ensures.items)
  | else-is_segment_kind w ↦
      subst (λ (values : List ℕ). Copying c.args.values.now.items c.args.path.now values c.in-Some.segment.rest.now) (sym (ap (λ (v : Vec ℕ Global). v.items) w.values-is))
      (copying_skip _ _ _ _ c.in-Some.segment c.loop-segment.invariant (c.in-Some.ensures.segment c.loop-segment.invariant.whole) (sym c.is_segment_kind.ensures ∙ w.if-is_segment_kind.false))
]
