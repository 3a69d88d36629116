use Rattle.std.proofs.Common.{◌≡◌, ℕ, ◌+◌, ◌≤◌, List, [], ◌∷◌, ◌++◌, length, sym, ap, ◌∙◌, arith}
use Rattle.std.specs.List.{flat_map}
use Rattle.rs_octets.specs.Writes.{Writes}
use Rattle.rs_octets.proofs.Writing.{writes_then}
use Rattle.rs_attrs.proofs.Paths.NarrowPath.{narrow_number, narrow_segment, segment_parts}
use Rattle.rs_attrs.proofs.writing.narrow.put_segment.Goals as goal

pub put_numbers-requires : goal.put_numbers-requires
put_numbers-requires c =
    let size = ap length (segment_parts c.args.segment.now) in
    let same : length (flat_map narrow_number c.numbers.result) ≡ length (flat_map narrow_number c.args.segment.now.numbers) = ap (λ ns. length (flat_map narrow_number ns)) c.numbers.ensures in
    let fits : c.args.at + length (narrow_segment c.args.segment.now) ≤ length c.args.out.now = c.requires.fits in
    let kept : length c.put-numbers_at.new.out ≡ length c.args.out.now = c.put-numbers_at.auto.out in
    let start : c.put-numbers_at.result ≡ c.args.at + 2 = c.put-numbers_at.ensures.end in
    omega (arith, size, same)

pub returns-clause-end : goal.returns-clause-end
returns-clause-end c =
    let size = ap length (segment_parts c.args.segment.now) in
    let same : length (flat_map narrow_number c.numbers.result) ≡ length (flat_map narrow_number c.args.segment.now.numbers) = ap (λ ns. length (flat_map narrow_number ns)) c.numbers.ensures in
    let end : c.put_numbers.result ≡ c.put-numbers_at.result + length (flat_map narrow_number c.numbers.result) = c.put_numbers.ensures.end in
    let start : c.put-numbers_at.result ≡ c.args.at + 2 = c.put-numbers_at.ensures.end in
    let whole : c.put_numbers.result ≡ c.args.at + length (narrow_segment c.args.segment.now) = omega (arith, size, same) in
    whole

pub returns-clause-octets : goal.returns-clause-octets
returns-clause-octets c =
    let front : List ℕ = c.kind.result ∷ c.count.result ∷ [] in
    let numbers : List ℕ = flat_map narrow_number c.numbers.result in
    let parts : narrow_segment c.args.segment.now ≡ front ++ numbers =
    segment_parts c.args.segment.now ∙ (λ i. sym c.kind.ensures i ∷ sym c.count.ensures i ∷ flat_map narrow_number (sym c.numbers.ensures i)) in
    let both : Writes c.args.at (narrow_segment c.args.segment.now) c.args.out.now c.put_numbers.new.out =
    writes_then c.args.at c.put-numbers_at.result front numbers (narrow_segment c.args.segment.now) c.args.out.now c.put-numbers_at.new.out c.put_numbers.new.out
    parts c.put-numbers_at.ensures.end c.requires.fits c.put-numbers_at.ensures.octets c.put_numbers.ensures.octets in
    both
