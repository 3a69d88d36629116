use Rattle.std.proofs.Common.{◌≡◌, ℕ, ◌+◌, ◌≤◌, List, ◌∷◌, length, sym, ap, ◌∙◌, subst, arith}
use Rattle.std.specs.List.{flat_map, AllByRecursion}
use Rattle.rs_octets.specs.Writes.{Writes}
use Rattle.rs_attrs.specs.Paths.{Segment, four_octets, is_set_or_sequence, IsSegment}
use Rattle.rs_attrs.specs.Writing.{path_in}
use Rattle.rs_attrs.proofs.Written.LeftToWrite.{left_all, left_from, left_fits, left_next, left_done}
use Rattle.rs_attrs.proofs.Paths.NarrowPath.{narrow_segment, path_parts, path_of_octets}
use Rattle.rs_attrs.proofs.writing.narrow.put_path.Goals as goal

abbrev Each : List Segment → Type 0
Each path = AllByRecursion (IsSegment four_octets is_set_or_sequence) path

pub loop-segment-init : goal.loop-segment-init
loop-segment-init c =
    let same : path_in c.args.path.now ≡ c.into_iter-segment-iterator.result = sym (c.into_iter-segment-iterator.ensures.into_iter_gives ∙ c.of-segment-items.ensures.segments) in
    let fits : c.args.at + length (flat_map narrow_segment (path_in c.args.path.now)) ≤ length c.args.out.now =
    subst (λ (octets : List ℕ). c.args.at + length octets ≤ length c.args.out.now) (path_parts c.args.path.now) c.requires.fits in (
      subst Each same (path_of_octets c.args.path.now (λ i. omega (arith, c.type_inv.path i)) c.requires.path).each,
      left_from narrow_segment _ _ _ _ _ _ _ same (left_all narrow_segment (path_in c.args.path.now) c.args.at c.args.out.now fits),
    )

pub loop-segment-preserved : goal.loop-segment-preserved
loop-segment-preserved c =
    let each : Each (c.in-Some.segment ∷ c.next.new.self) = subst Each c.in-Some.ensures.steps c.loop-segment.invariant.0 in
    let here = left_from narrow_segment _ _ _ _ _ _ _ c.in-Some.ensures.steps c.loop-segment.invariant.1 in
    (each.1, left_next narrow_segment _ _ _ c.in-Some.segment _ _ _ _ _ here c.put_segment-at.auto.out c.put_segment-at.ensures.end c.put_segment-at.ensures.octets)

pub put_segment-at-requires-clause-short : goal.put_segment-at-requires-clause-short
put_segment-at-requires-clause-short c =
    let each : Each (c.in-Some.segment ∷ c.next.new.self) = subst Each c.in-Some.ensures.steps c.loop-segment.invariant.0 in
    each.0.most

pub put_segment-at-requires-clause-fits : goal.put_segment-at-requires-clause-fits
put_segment-at-requires-clause-fits c =
    left_fits narrow_segment _ _ _ c.in-Some.segment _ _ _ (left_from narrow_segment _ _ _ _ _ _ _ c.in-Some.ensures.steps c.loop-segment.invariant.1)

pub returns-clause-end : goal.returns-clause-end
returns-clause-end c =
    let left = left_from narrow_segment _ _ _ _ _ _ _ c.in-None.ensures.steps.0 c.loop-segment.invariant.1 in
    let end : c.loop-segment.at + 0 ≡ c.args.at + length (flat_map narrow_segment (path_in c.args.path.now)) = left.end in
    omega (arith, ap length (path_parts c.args.path.now))

pub returns-clause-octets : goal.returns-clause-octets
returns-clause-octets c =
    let P : List ℕ → Type 0 = λ octets. Writes c.args.at octets c.args.out.now c.loop-segment.out in
    subst P (sym (path_parts c.args.path.now)) (left_done narrow_segment _ _ _ _ _ (left_from narrow_segment _ _ _ _ _ _ _ c.in-None.ensures.steps.0 c.loop-segment.invariant.1))
