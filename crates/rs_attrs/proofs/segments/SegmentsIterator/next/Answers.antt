use Rattle.std.proofs.Common.{sym, ap, ◌∙◌, length, arith}
use Rattle.rs_attrs.proofs.segments.SegmentsIterator.next.Goals as goal

pub invariant_of-self : goal.invariant_of-self
invariant_of-self c = (c.in_ok-segment.ensures.segment c.self.invariant).whole

pub returns-clause-steps : goal.returns-clause-steps
returns-clause-steps c = sym c.self.view_is ∙ (c.in_ok-segment.ensures.segment c.self.invariant).segments

pub returns-clause-goes : goal.returns-clause-goes
returns-clause-goes c =
    let size = ap length (sym c.self.view_is ∙ (c.in_ok-segment.ensures.segment c.self.invariant).segments) in
    record { on = λ w. (tt, w, omega (arith, size)); keeps = tt; rests = λ w. tt }
