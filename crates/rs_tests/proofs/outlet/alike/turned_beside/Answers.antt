use Rattle.rs_outlet.specs.Decided.HeldBy.{tables_of}
use Rattle.rs_tests.proofs.outlet.alike.turned_beside.Goals as goal

pub turned-requires : goal.turned-requires
turned-requires g c = c.lend_blocks.ensures (tables_of c.args.exchange.now.config c.args.exchange.now.tables) c.args.exchange.now.tables c.requires
