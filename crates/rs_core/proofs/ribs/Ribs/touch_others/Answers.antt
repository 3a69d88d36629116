use Rattle.std.proofs.Common.{[], ◌∷◌, ap, subst, sym, ◌∙◌, ◌+◌}
use Rattle.rs_adjin.specs.AdjIns.{number_of}
use Rattle.rs_outlet.specs.Views.{AreNumbered}
use Rattle.rs_core.specs.Touched.Touches.{IsTouchedAt}
use Rattle.rs_core.proofs.Run.Loops.{IsWalked, IsOtherThan, walk_begins, walk_on, walk_past, own_same, other_touched, others_changed, others_numbered, walk_ends}
use Rattle.rs_core.proofs.ribs.Ribs.touch_others.Goals as goal
use Rattle.rs_core.proofs.ribs.Ribs.touch_others.Goals.{then-d-c, else-d-c}

pub loop-d-init : goal.loop-d-init
loop-d-init c = walk_begins _ c.args.self.now

pub touch-requires-clause-number : goal.touch-requires-clause-number
touch-requires-clause-number c = ap (λ ins. number_of ins c.args.prefix) c.loop-d.invariant.tables ∙ c.requires

pub loop-d-preserved : goal.loop-d-preserved
loop-d-preserved c = elim c.if-d-c.branch [
  | then-d-c w ↦ subst (λ r. IsWalked (IsOtherThan c.args.c c.args.self.now.tables (IsTouchedAt (c.args.prefix ∷ []))) (c.loop-d.d + 1) c.args.self.now r) (sym w.self-is)
      (walk_on _ _ c.loop-d.d c.args.self.now c.loop-d.self w.touch.new.self c.loop-d-test.true c.loop-d.invariant w.touch.ensures.settings w.touch.ensures.tables w.touch.ensures.outlet
      (λ v x by. other_touched c.args.c c.args.self.now.tables (IsTouchedAt (c.args.prefix ∷ [])) c.loop-d.d v x w.if-d-c.true
      (subst (λ ins. AreNumbered v ins → IsTouchedAt (c.args.prefix ∷ []) v x × AreNumbered x ins) c.loop-d.invariant.tables by)))
  | else-d-c w ↦ subst (λ r. IsWalked (IsOtherThan c.args.c c.args.self.now.tables (IsTouchedAt (c.args.prefix ∷ []))) (c.loop-d.d + 1) c.args.self.now r) (sym w.self-is)
      (walk_past _ c.loop-d.d c.args.self.now c.loop-d.self c.loop-d.invariant (λ v. own_same c.args.c c.args.self.now.tables (IsTouchedAt (c.args.prefix ∷ [])) c.loop-d.d v w.if-d-c.false))
]

pub returns : goal.returns
returns c =
    let done = walk_ends (IsOtherThan c.args.c c.args.self.now.tables (IsTouchedAt (c.args.prefix ∷ []))) c.loop-d.d c.args.self.now c.loop-d.self c.loop-d.auto.d-end c.loop-d-test.false c.loop-d.invariant in
    record { settings = done.settings; tables = done.tables; touched = λ h. others_changed c.args.c _ c.args.self.now c.loop-d.self done h; numbered = λ h. others_numbered c.args.c _ c.args.self.now c.loop-d.self done h }
