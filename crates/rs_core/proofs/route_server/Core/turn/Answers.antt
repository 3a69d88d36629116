use Rattle.std.proofs.Common.{refl}
use Rattle.rs_core.proofs.Touched.TurnsOfAll.{swept_turn}
use Rattle.rs_core.proofs.route_server.Core.turn.Goals as goal

pub returns : goal.returns
returns c = swept_turn _ c.args.self.now _ c.turn.new.self refl refl refl refl c.turn.ensures.settings c.turn.ensures.tables c.turn.ensures.turned c.sweep.ensures.settings c.sweep.ensures.tables c.sweep.ensures.outlets c.turns.ensures.refused c.turns.ensures.all
