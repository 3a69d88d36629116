use Rattle.std.proofs.Common.{arith, length, ap}
use Rattle.rs_policy.proofs.Decimals.{decimal_short, length-onto_decimal}
use Rattle.rs_policy.proofs.faults.line.Line.with_number.Goals as goal

pub returns-clause-short : goal.returns-clause-short
returns-clause-short c = omega (arith, ap length c.with_digits.ensures, length-onto_decimal c.args.self c.args.number (omega arith))

pub with_digits-requires : goal.with_digits-requires
with_digits-requires c = omega (arith, decimal_short c.args.number (omega arith))
