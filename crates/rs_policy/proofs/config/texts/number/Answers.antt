use Rattle.std.proofs.Common.{arith, sym}
use Rattle.rs_policy.proofs.Reading.Digits.{number_to-over}
use Rattle.rs_policy.proofs.config.texts.number.Goals as goal

pub returns-then-value-from-clause-value : goal.returns-then-value-from-clause-value
returns-then-value-from-clause-value c =
    sym (number_to-over c.args.high c.loop-octet.value c.loop-octet.octet-index c.args.text.now (omega arith) c.loop-octet.invariant.value (omega arith))
