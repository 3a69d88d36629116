use Rattle.std.proofs.Common.{◌*◌, ◌<◌, get_or, slice_index, arith, refl, sym, subst, ◌∙◌}
use Rattle.rs_attrs.specs.Table.{size_in}
use Rattle.rs_attrs.specs.Walking.{segment_kinds}
use Rattle.rs_attrs.proofs.Paths.PathWalk.{path_step}
use Rattle.rs_attrs.proofs.Paths.SegmentCut.{cut_of, octets_taken, octets_left}
use Rattle.rs_attrs.proofs.segments.first_segment.Goals as goal

pub returns-clause-whole : goal.returns-clause-whole
returns-clause-whole c =
    sym (path_step (size_in c.args.mode) (segment_kinds c.args.confederations) c.args.path.now c.split_at.result.1.now c.split_at-2.result.1.now (get_or c.args.path.now 0 0) (get_or c.args.path.now 1 0) (c.number_size.result * c.from.result)
    c.if-path-lt2.false refl refl c.split_at.ensures.back (λ i. c.number_size.ensures.value i * c.from.ensures i)
    (sym c.is_segment_kind.ensures ∙ c.if-not-is_segment_kind.false) (omega (arith, c.if-count-eq0.false)) c.if-behind-size.false c.split_at-2.ensures.back)

pub returns-clause-segment : goal.returns-clause-segment
returns-clause-segment c whole =
    cut_of (size_in c.args.mode) c.args.confederations c.args.path.now c.split_at.result.1.now c.number_size.result c.from.result _ c.if-path-lt2.false whole
    refl refl c.split_at.ensures.back c.number_size.ensures.value c.from.ensures c.split_at-2.ensures.front c.split_at-2.ensures.back

pub returns-clause-octets : goal.returns-clause-octets
returns-clause-octets c i =
    subst (λ numbers. slice_index numbers i < 256) (sym c.split_at-2.ensures.front)
    (octets_taken c.split_at.result.1.now _ i
    (λ k. subst (λ behind. slice_index behind k < 256) (sym c.split_at.ensures.back) (octets_left c.args.path.now 2 k (λ k. omega (arith, c.type_inv.path k)))))
