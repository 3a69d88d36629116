use Rattle.std.proofs.Common.{length, sym, ap, ◌∙◌, arith}
use Rattle.rs_attrs.specs.Held.{attribute_by}
use Rattle.rs_attrs.specs.Parts.{value_by, narrow_path, narrow_aggregator}
use Rattle.rs_attrs.proofs.Written.Parts.{part_written, part_end}
use Rattle.rs_attrs.proofs.writing.parts.Part.put.Goals as goal

pub put_path-requires-clause-fits : goal.put_path-requires-clause-fits
put_path-requires-clause-fits c =
    let value = c.self.inside.value.now in
    let a_is = sym c.self.view_is ∙ ap (λ form. attribute_by c.self.inside.head (value_by form value)) c.in-NarrowPath.is in
    let len = c.self.invariant.0 ∙ ap (λ form. length (value_by form value)) c.in-NarrowPath.is in
    let end = part_end c.self.inside.head (narrow_path value) c.args.self.now c.args.at c.put_head-value_at.result a_is len c.put_head-value_at.ensures.end in
    omega (arith, end, c.requires.fits, c.put_head-value_at.auto.out)

pub returns-in-Whole-clause-octets : goal.returns-in-Whole-clause-octets
returns-in-Whole-clause-octets c =
    let value = c.self.inside.value.now in
    let a_is = sym c.self.view_is ∙ ap (λ form. attribute_by c.self.inside.head (value_by form value)) c.in-Whole.is in
    let len = c.self.invariant.0 ∙ ap (λ form. length (value_by form value)) c.in-Whole.is in
    part_written c.self.inside.head value c.args.self.now c.args.at c.put_head-value_at.result _ _ _ a_is len c.requires.fits c.put_head-value_at.ensures.end c.put_head-value_at.ensures.octets c.put.ensures.octets

pub returns-in-NarrowPath-clause-end : goal.returns-in-NarrowPath-clause-end
returns-in-NarrowPath-clause-end c =
    let value = c.self.inside.value.now in
    let a_is = sym c.self.view_is ∙ ap (λ form. attribute_by c.self.inside.head (value_by form value)) c.in-NarrowPath.is in
    let len = c.self.invariant.0 ∙ ap (λ form. length (value_by form value)) c.in-NarrowPath.is in
    c.put_path.ensures.end ∙ part_end c.self.inside.head (narrow_path value) c.args.self.now c.args.at c.put_head-value_at.result a_is len c.put_head-value_at.ensures.end

pub returns-in-NarrowPath-clause-octets : goal.returns-in-NarrowPath-clause-octets
returns-in-NarrowPath-clause-octets c =
    let value = c.self.inside.value.now in
    let a_is = sym c.self.view_is ∙ ap (λ form. attribute_by c.self.inside.head (value_by form value)) c.in-NarrowPath.is in
    let len = c.self.invariant.0 ∙ ap (λ form. length (value_by form value)) c.in-NarrowPath.is in
    part_written c.self.inside.head (narrow_path value) c.args.self.now c.args.at c.put_head-value_at.result _ _ _ a_is len c.requires.fits c.put_head-value_at.ensures.end c.put_head-value_at.ensures.octets c.put_path.ensures.octets

pub returns-in-NarrowAggregator-clause-octets : goal.returns-in-NarrowAggregator-clause-octets
returns-in-NarrowAggregator-clause-octets c =
    let value = c.self.inside.value.now in
    let a_is = sym c.self.view_is ∙ ap (λ form. attribute_by c.self.inside.head (value_by form value)) c.in-NarrowAggregator.is in
    let len = c.self.invariant.0 ∙ ap (λ form. length (value_by form value)) c.in-NarrowAggregator.is in
    part_written c.self.inside.head (narrow_aggregator value) c.args.self.now c.args.at c.put_head-value_at.result _ _ _ a_is len c.requires.fits c.put_head-value_at.ensures.end c.put_head-value_at.ensures.octets c.put_aggregator.ensures.octets
