use Rattle.std.proofs.Common.{◌≡◌, [], length, refl, subst, arith, rules}
use Rattle.rs_core.specs.declared.links.Event.TheVariants.{Moment}
use Rattle.rs_core.specs.Drives.Steps.{Happened}
use Rattle.rs_live.specs.declared.live_link.Stage.TheVariants as stages
use Rattle.rs_live.specs.Keeping.{IsFairBy}
use Rattle.rs_live.proofs.Handling.Calls.{at_phase, follows}
use Rattle.rs_live.proofs.Handling.Rounds.{starts}
use Rattle.rs_live.proofs.Places.{fair_held}
use Rattle.rs_live.proofs.live_link.LiveLink.start.Goals as goal

pub returns-clause-answers : goal.returns-clause-answers
returns-clause-answers g c piece p r text =
    let count : c.len-clients.result ≡ length c.args.self.now.connections.now.items = search (rules, arith) in
    let fair = subst (λ k. IsFairBy k c.args.self.now.phase c.fair_moment-self.result) count c.fair_moment-self.ensures in
    follows g.P.Ports.asked (Happened (Moment _) []) _ _ _ _ r.0 refl refl (starts g.P.Ports.asked _ c.args.self.now.phase _ _ (fair_held c.args.self.now.connections.now.items c.args.self.now.phase _ fair) (at_phase g.P.Ports.asked c.args.self.now stages.Start p r.1))
