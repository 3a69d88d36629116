use Rattle.rs_rows.proofs.Listing.{prepared_still, row_written}
use Rattle.rs_rows.proofs.blocks.Blocks.put.Goals as goal

pub returns-clause-rows : goal.returns-clause-rows
returns-clause-rows c =
    row_written c.self.inside.parts.items _ c.self.view_is c.args.number c.index_mut.result.now c.put.new.self _ c.requires c.index_mut.ensures.value c.put.ensures.rows

pub returns-clause-prepared : goal.returns-clause-prepared
returns-clause-prepared c = prepared_still c.self.inside.parts.items _ c.self.view_is c.args.number c.put.new.self c.requires c.put.ensures.own
