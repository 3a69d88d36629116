use Rattle.std.proofs.Common.{◌≡◌, ℕ, ◌+◌, ◌*◌, ◌≤◌, List, ◌∷◌, length, ap, ◌∙◌, arith, length-append}
use Rattle.std.specs.List.{flat_map}
use Rattle.rs_attrs.specs.Paths.{Segment}
use Rattle.rs_attrs.proofs.Paths.NarrowPath.{narrow_segment, path_parts, segment_length_is, narrow_shorter}
use Rattle.rs_attrs.proofs.writing.narrow.narrow_path_size.Goals as goal

-- a segment more is counted
record Counted (size count : ℕ) (s : Segment) (rest : List Segment) (whole most : ℕ) : Type 0 where
  next : size + (2 + 2 * count) + length (flat_map narrow_segment rest) ≡ whole
  bound : size + (2 + 2 * count) ≤ most

counted : (size count : ℕ) (s : Segment) (path rest : List Segment) (whole most : ℕ) → size + length (flat_map narrow_segment path) ≡ whole → path ≡ s ∷ rest → count ≡ length s.numbers → whole ≤ most → Counted size count s rest whole most
counted size count s path rest whole most inv e count_is h =
    let both = ap (λ path. length (flat_map narrow_segment path)) e in
    let parts = length-append (narrow_segment s) (flat_map narrow_segment rest) in
    let size_is = segment_length_is s in
    record { next = omega (arith, both, parts, size_is); bound = omega (arith, both, parts, size_is) }

pub loop-segment-init : goal.loop-segment-init
loop-segment-init c =
    let same = ap (λ (path : List Segment). length (flat_map narrow_segment path)) (c.into_iter-segment-iterator.ensures.into_iter_gives ∙ c.of-segment-items.ensures.segments) in
    let whole = ap length (path_parts c.args.path.now) in
    omega (arith, same, whole)

pub overflow_mul-size : goal.overflow_mul-size
overflow_mul-size c =
    let here = counted _ _ _ _ _ _ _ c.loop-segment.invariant c.in-Some.ensures.steps c.count.ensures (narrow_shorter c.args.path.now (λ i. omega (arith, c.type_inv.path i)) c.requires.path) in
    omega (arith, here.bound)

pub overflow_add-size : goal.overflow_add-size
overflow_add-size c =
    let here = counted _ _ _ _ _ _ _ c.loop-segment.invariant c.in-Some.ensures.steps c.count.ensures (narrow_shorter c.args.path.now (λ i. omega (arith, c.type_inv.path i)) c.requires.path) in
    omega (arith, here.bound)

pub overflow_add-size-in-loop-segment : goal.overflow_add-size-in-loop-segment
overflow_add-size-in-loop-segment c =
    let here = counted _ _ _ _ _ _ _ c.loop-segment.invariant c.in-Some.ensures.steps c.count.ensures (narrow_shorter c.args.path.now (λ i. omega (arith, c.type_inv.path i)) c.requires.path) in
    omega (arith, here.bound)

pub loop-segment-preserved : goal.loop-segment-preserved
loop-segment-preserved c =
    (counted _ _ _ _ _ _ _ c.loop-segment.invariant c.in-Some.ensures.steps c.count.ensures (narrow_shorter c.args.path.now (λ i. omega (arith, c.type_inv.path i)) c.requires.path)).next

pub returns-clause-value : goal.returns-clause-value
returns-clause-value c =
    let left = ap (λ (path : List Segment). length (flat_map narrow_segment path)) c.in-None.ensures.steps.0 in
    let inv = c.loop-segment.invariant in
    omega (arith, left)

pub returns-clause-most : goal.returns-clause-most
returns-clause-most c =
    let shorter = narrow_shorter c.args.path.now (λ i. omega (arith, c.type_inv.path i)) c.requires.path in
    let inv = c.loop-segment.invariant in
    omega arith
