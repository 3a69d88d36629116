use Rattle.std.proofs.Common.{[], ◌∷◌, refl}
use Rattle.rs_outlet.specs.Views.{AreNumbered}
use Rattle.rs_core.specs.Touched.Touches.{IsTouchedAt}
use Rattle.rs_core.proofs.Run.Loops.{own_set}
use Rattle.rs_core.proofs.Touched.Touching.{one_touched}
use Rattle.rs_core.proofs.ribs.Ribs.touch.Goals as goal

pub returns-clause-outlet : goal.returns-clause-outlet
returns-clause-outlet c =
    let ins = c.args.self.now.tables in
    own_set c.args.c (λ v w. AreNumbered v ins → IsTouchedAt (c.args.prefix ∷ []) v w × AreNumbered w ins) c.args.self.now _ c.index_mut-outlet.result.now c.touch.new.self c.requires.client refl c.index_mut-outlet.ensures.value
    (λ h. (one_touched c.args.prefix _ _ c.touch.ensures.rest (c.touch.ensures.touched ins h c.requires.number) (c.touch.ensures.stale ins h c.requires.number) c.touch.ensures.stale_touched, c.touch.ensures.numbered ins h c.requires.number))
