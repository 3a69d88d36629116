use Rattle.std.proofs.Common.{refl}
use Rattle.rs_core.proofs.Run.Changing.{told_nobody}
use Rattle.rs_core.proofs.Run.Numbers.{same_kept}
use Rattle.rs_core.proofs.ribs.Ribs.forget.Goals as goal

pub returns-clause-kept : goal.returns-clause-kept
returns-clause-kept c = told_nobody c.args.self.now _ (record { count = refl; extended = refl; config = refl }) refl (same_kept _ _ c.forget.ensures.numbers) c.forget.ensures.same
