use Rattle.std.specs.Prelude.{take, None}
use Rattle.rs_core.specs.Run.Parts.{ChangesRoutes, HasOverlaid}
use Rattle.rs_core.proofs.route_server.Core.withdraw_all.Given as goal

abbrev pub invariant-loop-prefix : goal.invariant-loop-prefix
invariant-loop-prefix l = record {
  alone : ChangesRoutes l.c l.fn.self l.self;
  held : HasOverlaid l.c (take l.prefix-index l.prefixes) None l.fn.self.ribs.tables l.self.ribs.tables;
}
