use Rattle.std.proofs.Common.{subst, refl}
use Rattle.rs_adjin.specs.AdjIns.{Begins}
use Rattle.rs_core.proofs.Run.Numbers.{same_kept, numbered_kept}
use Rattle.rs_core.proofs.Run.Freshness.{forgotten_fresh}
use Rattle.rs_core.proofs.ribs.Ribs.forget_routes.Goals as goal

pub returns-clause-kept : goal.returns-clause-kept
returns-clause-kept c = record {
  numbered = λ h. numbered_kept c.touch_held.new.self _ refl (same_kept _ _ c.begin.ensures.numbers) (λ d none. refl) (c.touch_held.ensures.numbered h);
  fresh = λ h f. forgotten_fresh c.args.self.now _ c.args.c 0
      (record { count = c.touch_held.ensures.settings.count; extended = c.touch_held.ensures.settings.extended; config = c.touch_held.ensures.settings.config })
      (subst (λ t. Begins t c.begin.new.self c.args.c 0) c.touch_held.ensures.tables c.begin.ensures.begins)
      (let t = c.touch_held.ensures.touched h in record { own = t.own; others = t.others }) f;
}
