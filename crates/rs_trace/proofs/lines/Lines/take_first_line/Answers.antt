use Rattle.std.proofs.Common.{arith, ap, sym, ◌∙◌}
use Rattle.rs_trace.proofs.LineLemmas.{front_of_rest, length_of_rest, first_ended, first_too_long, first_last}
use Rattle.rs_trace.proofs.lines.Lines.take_first_line.Goals as goal

pub returns-in-Some-clause-some : goal.returns-in-Some-clause-some
returns-in-Some-clause-some c =
    let waits = ap (λ l. l.rest) c.self.view_is in
    let front = front_of_rest c.self.inside.buffer.items c.deref.result.now c.args.self.now.rest c.self.inside.rest_start c.self.inside.rest_end c.min-most.result c.deref.ensures.value waits (omega (arith, c.min-most.ensures)) in
    first_ended c.args.self.now.rest c.min-most.result c.in-Some.end c.take_line.new.self (omega (arith, c.min-most.ensures))
    (rw front at (sym c.first_place.ensures ∙ c.in-Some.is)) c.take_line.ensures.line c.take_line.ensures.rest

pub returns-then-size-gt-LONGEST_LINE-clause-some : goal.returns-then-size-gt-LONGEST_LINE-clause-some
returns-then-size-gt-LONGEST_LINE-clause-some c =
    let rest = c.args.self.now.rest in
    let waits = ap (λ l. l.rest) c.self.view_is in
    let front = front_of_rest c.self.inside.buffer.items c.deref.result.now rest c.self.inside.rest_start c.self.inside.rest_end c.min-most.result c.deref.ensures.value waits (omega (arith, c.min-most.ensures)) in
    let size = length_of_rest c.self.inside.buffer.items rest c.self.inside.rest_start c.self.inside.rest_end waits (omega (arith, c.self.invariant)) in
    let none = rw front at (sym c.first_place.ensures ∙ c.in_default.is) in
    let taken = c.take_line-then-size-gt-LONGEST_LINE in
    first_too_long rest c.min-most.result taken.new.self (omega (arith, size, c.min-most.ensures)) (omega (arith, size, c.if-size-gt-LONGEST_LINE.true))
    none taken.ensures.line taken.ensures.rest

pub returns-then-size-gt0-clause-some : goal.returns-then-size-gt0-clause-some
returns-then-size-gt0-clause-some c =
    let rest = c.args.self.now.rest in
    let waits = ap (λ l. l.rest) c.self.view_is in
    let front = front_of_rest c.self.inside.buffer.items c.deref.result.now rest c.self.inside.rest_start c.self.inside.rest_end c.min-most.result c.deref.ensures.value waits (omega (arith, c.min-most.ensures)) in
    let size = length_of_rest c.self.inside.buffer.items rest c.self.inside.rest_start c.self.inside.rest_end waits (omega (arith, c.self.invariant)) in
    let none = rw front at (sym c.first_place.ensures ∙ c.in_default.is) in
    let taken = c.take_line-then-size-gt0 in
    let over = taken.ensures.over ∙ sym (ap (λ l. l.is_over) c.self.view_is) ∙ c.if-self.true in
    first_last rest c.min-most.result taken.new.self (omega (arith, size, c.min-most.ensures)) (omega (arith, size, c.if-size-gt-LONGEST_LINE.false)) (omega (arith, size, c.if-size-gt0.true))
    none taken.ensures.line taken.ensures.rest over
