use Rattle.std.proofs.Common.{sym, ap, ◌∙◌}
use Rattle.rs_rows.specs.Rows.{Listed, row_at, shown}
use Rattle.rs_rows.proofs.Listing.{part_prepared, prepared_still, row_there, row_written}
use Rattle.rs_rows.proofs.blocks.Blocks.take.Goals as goal

pub returns-clause-rows : goal.returns-clause-rows
returns-clause-rows c =
    row_written c.self.inside.parts.items _ c.self.view_is c.args.number c.index_mut.result.now c.take.new.self _ c.requires c.index_mut.ensures.value c.take.ensures.rows

pub returns-clause-prepared : goal.returns-clause-prepared
returns-clause-prepared c = prepared_still c.self.inside.parts.items _ c.self.view_is c.args.number c.take.new.self c.requires c.take.ensures.own

pub returns-clause-was : goal.returns-clause-was
returns-clause-was c =
    let ps = c.self.inside.parts.items in
    let there = part_prepared ps _ c.self.view_is c.args.number c.index_mut.result.now c.requires c.index_mut.ensures.value in
    c.take.ensures.was
    ∙ ap shown (sym (row_there ps c.args.number c.index_mut.result.now there))
    ∙ ap (λ (v : Listed). shown (row_at v.items c.args.number)) c.self.view_is
