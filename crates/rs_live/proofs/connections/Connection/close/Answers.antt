use Rattle.std.proofs.Common.{◌∙◌}
use Rattle.rs_live.proofs.Handling.Writing.{closes}
use Rattle.rs_live.proofs.connections.Connection.close.Goals as goal

pub returns-in-Some-clause-kept : goal.returns-in-Some-clause-kept
returns-in-Some-clause-kept g c d held phase below e o h = closes g.P.Ports.asked held phase d _ _ _ _ _ c.forget.ensures.now c.forget.ensures.empty (e ∙ c.in-Some.is) c.close.ensures h
