use Rattle.rs_outlet.proofs.Decided.Numbering.{grown_loc, grown_numbers, grown_row}
use Rattle.rs_outlet.proofs.table.Rows.grow.Goals as goal

pub returns-clause-rows : goal.returns-clause-rows
returns-clause-rows c = λ n. grown_row c.args.self.now.rows.items c.grow.new.self.items n c.grow.ensures.grown

pub returns-clause-loc : goal.returns-clause-loc
returns-clause-loc c = grown_loc c.args.self.now.rows.items c.grow.new.self.items c.grow.ensures.grown

pub returns-clause-numbers : goal.returns-clause-numbers
returns-clause-numbers c = grown_numbers c.args.self.now.rows.items c.grow.new.self.items c.grow.ensures.grown
