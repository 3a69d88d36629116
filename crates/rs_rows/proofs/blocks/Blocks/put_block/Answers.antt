use Rattle.std.proofs.Common.{◌≡◌, ◌<◌, ◌*◌, ◌+◌, ap, length, sym, subst, ◌∙◌, arith}
use Rattle.std.specs.Prelude.{List}
use Rattle.std.specs.Arc.{arc_value}
use Rattle.rs_rows.specs.Rows.{Listed, IsPrepared, written_from}
use Rattle.rs_rows.specs.declared.part.Part.TheVariants as part
use Rattle.rs_rows.proofs.Listing.{block_written, own_apart, rows_length}
use Rattle.rs_rows.proofs.blocks.Blocks.put_block.Goals as goal

pub index_mut-requires : goal.index_mut-requires
index_mut-requires c =
    let ps = c.self.inside.parts.items in
    omega (arith, c.requires, rows_length ps, ap (λ (v : Listed). length v.items) c.self.view_is, c.self.inside.parts.ok)

pub returns-clause-rows : goal.returns-clause-rows
returns-clause-rows c =
    let ps = c.self.inside.parts.items in
    let below : c.args.place < length ps = omega (arith, c.requires, rows_length ps, ap (λ (v : Listed). length v.items) c.self.view_is) in
    block_written ps c.args.place (c.args.place * 16) (part.Shared c.args.block) (omega arith) below
    ∙ ap (λ (v : Listed). written_from (c.args.place * 16) (arc_value c.args.block).rows.items v.items) c.self.view_is

pub returns-clause-kept : goal.returns-clause-kept
returns-clause-kept c = λ n ne kept.
    own_apart c.self.inside.parts.items c.args.place _ (part.Shared c.args.block) ne (subst (λ (v : Listed). IsPrepared v.prepared n) (sym c.self.view_is) kept)
