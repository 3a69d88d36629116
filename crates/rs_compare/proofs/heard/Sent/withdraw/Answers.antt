use Rattle.std.proofs.Common.{arith}
use Rattle.std.proofs.lemmas.Grind.{common_steps}
use Rattle.rs_compare.proofs.heard.Sent.withdraw.Goals as goal

pub loop-prefix-preserved : goal.loop-prefix-preserved
loop-prefix-preserved c = λ p. grind (arith, common_steps, c.loop-prefix.invariant p)
