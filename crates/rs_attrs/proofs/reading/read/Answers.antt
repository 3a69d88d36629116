use Rattle.std.proofs.Common.{arith}
use Rattle.rs_attrs.proofs.Fields.ReadField.{keeps_as, kept_field, short_field, legal_field, field_reads}
use Rattle.rs_attrs.proofs.reading.read.Goals as goal

pub attributes_of-requires-clause-rising : goal.attributes_of-requires-clause-rising
attributes_of-requires-clause-rising c = (keeps_as _ _ _ _ c.as_slice.ensures c.in_ok-faults.ensures.kept).rising

pub attributes_of-requires-clause-kept : goal.attributes_of-requires-clause-kept
attributes_of-requires-clause-kept c = kept_field c.args.mode c.args.field.now c.as_slice.result.now (λ i. omega (arith, c.type_inv.field i)) (keeps_as _ _ _ _ c.as_slice.ensures c.in_ok-faults.ensures.kept)

pub attributes_of-requires-clause-short : goal.attributes_of-requires-clause-short
attributes_of-requires-clause-short c = short_field c.args.mode c.args.field.now c.as_slice.result.now (λ i. omega (arith, c.type_inv.field i)) (keeps_as _ _ _ _ c.as_slice.ensures c.in_ok-faults.ensures.kept)

pub attributes_of-requires-clause-legal : goal.attributes_of-requires-clause-legal
attributes_of-requires-clause-legal c = legal_field c.args.mode c.args.field.now c.as_slice.result.now (λ i. omega (arith, c.type_inv.field i)) (keeps_as _ _ _ _ c.as_slice.ensures c.in_ok-faults.ensures.kept)

pub returns-clause-reads : goal.returns-clause-reads
returns-clause-reads c =
    field_reads c.args.mode c.args.field.now c.as_slice.result.now c.in_ok-attrs.attrs _ (λ i. omega (arith, c.type_inv.field i)) (keeps_as _ _ _ _ c.as_slice.ensures c.in_ok-faults.ensures.kept) c.in_ok-attrs.ensures c.in_ok-faults.ensures.faults
