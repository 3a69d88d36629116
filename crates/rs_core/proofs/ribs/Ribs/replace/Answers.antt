use Rattle.std.proofs.Common.{◌<◌, ℕ, ap, subst, sym, ◌∙◌}
use Rattle.std.specs.Prelude.{slice_index_or}
use Rattle.rs_adjin.specs.AdjIns.{Same}
use Rattle.rs_outlet.specs.Views.{View}
use Rattle.rs_core.specs.Ribs.{outlet_in}
use Rattle.rs_core.specs.Touched.Turns.{IsMarked}
use Rattle.rs_core.proofs.Run.Loops.{walk_on, walk_ends, all_changed, all_numbered}
use Rattle.rs_core.proofs.Run.Numbers.{same_kept, numbered_kept}
use Rattle.rs_core.proofs.Run.Freshness.{marked_fresh}
use Rattle.rs_core.proofs.ribs.Ribs.replace.Goals as goal

pub loop-c-preserved : goal.loop-c-preserved
loop-c-preserved c =
    walk_on _ _ c.loop-c.c _ c.loop-c.self c.touch_all.new.self c.loop-c-test.true c.loop-c.invariant c.touch_all.ensures.settings c.touch_all.ensures.tables c.touch_all.ensures.outlet
    (λ v w so. subst (λ ins. IsMarked ins v w) c.loop-c.invariant.tables so)

pub returns : goal.returns
returns c =
    let old = c.args.self.now in
    let mid = c.rule_by.new.self in
    let done = walk_ends (λ k. IsMarked mid.tables) c.loop-c.c mid c.loop-c.self c.loop-c.auto.c-end c.loop-c-test.false c.loop-c.invariant in
    let changed = all_changed _ mid c.loop-c.self done in
    let marked : (d : ℕ) (none : View) → d < old.count → IsMarked c.loop-c.self.tables (outlet_in old d none) (outlet_in c.loop-c.self d none) = λ d none lt. subst (λ v. IsMarked c.loop-c.self.tables v (outlet_in c.loop-c.self d none)) (ap (λ xs. slice_index_or xs d none) (ap (λ v. v.items) c.rule_by.ensures.outlets))
    (subst (λ ins. IsMarked ins (outlet_in mid d none) (outlet_in c.loop-c.self d none)) (sym done.tables) (changed.each d none (subst (λ n. d < n) (sym c.rule_by.ensures.count) lt))) in
    record {
      count = done.settings.count ∙ c.rule_by.ensures.count;
      extended = done.settings.extended ∙ c.rule_by.ensures.extended;
      config = done.settings.config ∙ c.rule_by.ensures.config;
      tables = subst (λ t. Same old.tables t) (sym done.tables) c.rule_by.ensures.tables;
      touched = record { each = marked };
      kept = record {
        numbered = λ h. all_numbered _ mid c.loop-c.self done (λ d v w so. so.numbered) (numbered_kept old mid c.rule_by.ensures.count (same_kept _ _ c.rule_by.ensures.numbers) (λ d none. ap (λ xs. slice_index_or xs d none) (ap (λ v. v.items) c.rule_by.ensures.outlets)) h);
        fresh = λ h f. marked_fresh old c.loop-c.self c.loop-c.self.tables (done.settings.count ∙ c.rule_by.ensures.count) (record { each = marked }) f;
      };
    }
