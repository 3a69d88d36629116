use Rattle.std.proofs.Common.{refl}
use Rattle.rs_core.proofs.Run.Numbers.{numbered_left}
use Rattle.rs_core.proofs.Run.Freshness.{same_fresh}
use Rattle.rs_core.proofs.ribs.Ribs.give_up.Goals as goal

pub returns-then-is_unused-clause-kept : goal.returns-then-is_unused-clause-kept
returns-then-is_unused-clause-kept c = record {
  numbered = λ h. numbered_left c.args.self.now _ c.args.number refl c.release.ensures.numbers (λ d none. refl) (c.is_unused.ensures c.if-is_unused.true) h;
  fresh = λ h f. same_fresh c.args.self.now _ (record { count = refl; extended = refl; config = refl }) c.release.ensures.same (λ d none. refl) f;
}
