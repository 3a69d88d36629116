use Rattle.rs_outlet.specs.Decided.HeldBy.{tables_of}
use Rattle.rs_tests.proofs.outlet.Exchange.handover.Goals as goal

pub returns : goal.returns
returns c = c.new.ensures (tables_of c.args.self.now.config c.args.self.now.tables) c.args.self.now.tables
