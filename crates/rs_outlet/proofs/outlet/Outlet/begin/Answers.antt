use Rattle.std.proofs.Common.{◌≡◌, ◌≤◌, ◌∙◌, [], length, slice_range, ap, arith}
use Rattle.rs_outlet.specs.Views.{View}
use Rattle.rs_outlet.proofs.Message.Ranges.{not_in_flight}
use Rattle.rs_outlet.proofs.outlet.Outlet.begin.Goals as goal

pub returns-then-self-clause-begins : goal.returns-then-self-clause-begins
returns-then-self-clause-begins c = λ speech flight note keepalive_due up.
    let a = c.self.inside in
    let kept = c.self.invariant in
    let none : slice_range a.octets.items a.start a.end ≡ [] = ap (λ (v : View). v.flight) c.self.view_is ∙ flight in
    let within : a.end ≤ length a.octets.items = omega (arith, kept.octets, kept.ended) in
    let low : a.end ≤ a.start = not_in_flight a.octets.items a.start a.end within none in
    absurd (omega (arith, low))
