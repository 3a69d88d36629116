use Rattle.std.specs.Prelude.{take, Some}
use Rattle.std.specs.Arc.{arc_value}
use Rattle.rs_core.specs.Run.Parts.{ChangesRoutes, HasOverlaid}
use Rattle.rs_core.proofs.route_server.Core.announce_each.Given as goal

abbrev pub invariant-loop-prefix : goal.invariant-loop-prefix
invariant-loop-prefix l = record {
  alone : ChangesRoutes l.c l.fn.self l.self;
  held : HasOverlaid l.c (take l.prefix-index l.prefixes) (Some (arc_value l.attrs)) l.fn.self.ribs.tables l.self.ribs.tables;
}
