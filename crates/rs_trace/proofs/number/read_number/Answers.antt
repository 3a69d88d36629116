use Rattle.std.proofs.Common.{arith, ◌≡◌, ◌∙◌, ◌+◌, sym, ap, take, Some}
use Rattle.std.proofs.lemmas.List.{take_all}
use Rattle.rs_trace.specs.Numbers.{value_of}
use Rattle.rs_trace.proofs.NumberLemmas.{value_of-more, value_of-front, number_of-over, number_of-good, has_length}
use Rattle.rs_trace.proofs.number.read_number.Goals as goal

pub returns-in_err-checked_mul : goal.returns-in_err-checked_mul
returns-in_err-checked_mul c =
    let text = c.args.text.now in
    let i = c.loop-octet.octet-index in
    let value = c.loop-octet.invariant.0 in
    let over = c.in_err-checked_mul.ensures in
    c.from_residual.ensures ∙ sym (number_of-over text (omega (arith, value, over, value_of-more text i 0 c.loop-octet-test.true, value_of-front text (i + 1))))

pub returns-in_err-value : goal.returns-in_err-value
returns-in_err-value c =
    let text = c.args.text.now in
    let i = c.loop-octet.octet-index in
    let value = c.loop-octet.invariant.0 in
    let over = c.in_err-value.ensures in
    c.from_residual-in_err-value.ensures ∙ sym (number_of-over text (omega (arith, value, over, value_of-more text i 0 c.loop-octet-test.true, value_of-front text (i + 1))))

pub returns : goal.returns
returns c =
    let text = c.args.text.now in
    let whole : take c.loop-octet.octet-index text ≡ text = take_all c.loop-octet.octet-index text c.loop-octet-test.false in
    let value : c.loop-octet.value ≡ value_of text = c.loop-octet.invariant.0 ∙ ap value_of whole in
    let digits = rw whole at c.loop-octet.invariant.1 in
    ap (λ n. Some n) value ∙ sym (number_of-good text (has_length text (sym c.is_empty.ensures ∙ c.if-is_empty.false) c.if-text-gt20.false) digits (omega (arith, value, c.loop-octet.invariant.2)))
