use Rattle.std.proofs.Common.{sym, ◌∙◌}
use Rattle.rs_live.proofs.Handling.Connections.{ends_none}
use Rattle.rs_live.proofs.live_link.LiveLink.end_session.Goals as goal

pub returns-in_default-clause-ended : goal.returns-in_default-clause-ended
returns-in_default-clause-ended g c h = ends_none g.P.Ports.asked _ _ c.args.c _ (sym c.live_key.ensures ∙ c.in_default.is) h
