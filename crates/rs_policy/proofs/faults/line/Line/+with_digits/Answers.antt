use Rattle.std.proofs.Common.{◌+◌, ◌++◌, ◌∷◌, [], ◌/◌, ◌%◌, length, decimal, ap, ◌∙◌, arith, length-append}
use Rattle.std.proofs.lemmas.Fmt.{decimal_digit}
use Rattle.rs_policy.proofs.Decimals.{decimal_last, length-decimal-step, onto_decimal}
use Rattle.rs_policy.proofs.faults.line.Line.+with_digits.Goals as goal

pub with_digits-requires : goal.with_digits-requires
with_digits-requires t c = (omega arith, omega (arith, length-decimal-step c.args.number c.if-number-lt10.false (omega arith)))

pub with-requires-2 : goal.with-requires-2
with-requires-2 t c =
    omega (arith, ap length c.with_digits.ensures, length-append c.args.self (decimal (c.args.number / 10)), length-decimal-step c.args.number c.if-number-lt10.false (omega arith))

pub returns : goal.returns
returns t c =
    c.with-2.ensures ∙ ap (λ front. front ++ (48 + c.args.number % 10) ∷ []) c.with_digits.ensures
    ∙ onto_decimal c.args.self c.args.number c.if-number-lt10.false (omega arith)

pub with-requires : goal.with-requires
with-requires t c = omega (arith, c.requires, ap length (decimal_digit c.args.number c.if-number-lt10.true))

pub returns-then-number-lt10 : goal.returns-then-number-lt10
returns-then-number-lt10 t c = c.with.ensures ∙ ap (λ last. c.args.self ++ last) (decimal_last c.args.number c.if-number-lt10.true)
