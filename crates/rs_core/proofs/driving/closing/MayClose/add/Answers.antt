use Rattle.std.proofs.Common.{◌≡◌, ◌==◌, sym, ap, true, false, arith}
use Rattle.std.specs.Prelude.{if◌then◌else◌}
use Rattle.std.proofs.lemmas.Bool.Decides.{nat_tests}
use Rattle.rs_core.specs.Drives.Closing.{may_close}
use Rattle.rs_core.proofs.Drives.Sets.{with_bit}
use Rattle.rs_core.proofs.driving.closing.MayClose.add.Goals as goal

pub returns-then-c-lt512 : goal.returns-then-c-lt512
unfolding may_close
returns-then-c-lt512 c = λ d few. with_bit c.args.self.now.words c.args.c (omega (arith, c.if-c-lt512.true)) d

pub returns-else-c-lt512 : goal.returns-else-c-lt512
unfolding may_close
returns-else-c-lt512 c = λ d few. let not : (d == c.args.c) ≡ false = grind (arith, nat_tests, few, c.if-c-lt512.false) in sym (ap (λ b. if b then true else may_close c.args.self.now d) not)
