use Rattle.std.proofs.Common.{refl}
use Rattle.rs_core.specs.Touched.Turns.{IsMarked}
use Rattle.rs_core.proofs.Run.Loops.{own_set}
use Rattle.rs_core.proofs.ribs.Ribs.touch_all.Goals as goal

pub returns-clause-outlet : goal.returns-clause-outlet
returns-clause-outlet c = own_set c.args.c (IsMarked c.args.self.now.tables) c.args.self.now _ c.index_mut-outlet.result.now c.touch_all.new.self c.requires refl c.index_mut-outlet.ensures.value
    (record { is = c.touch_all.ensures.touched; numbered = c.touch_all.ensures.numbered c.args.self.now.tables })
