use Rattle.std.proofs.Common.{refl}
use Rattle.rs_core.proofs.Touched.TurnsOfAll.{swept_turn}
use Rattle.rs_core.proofs.route_server.Core.turn_with.Goals as goal

pub returns : goal.returns
returns g c = swept_turn _ c.args.self.now _ c.turn_with.new.self refl refl refl refl c.turn_with.ensures.settings c.turn_with.ensures.tables (c.turn_with.ensures.turned c.args.self.now.numbered) c.sweep.ensures.settings c.sweep.ensures.tables c.sweep.ensures.outlets c.turns.ensures.refused c.turns.ensures.all
