use Rattle.std.proofs.Common.{◌≡◌, ◌+◌, [], length, ap, refl, ◌∙◌, arith, rules}
use Rattle.rs_open.specs.Notes.{no_text}
use Rattle.rs_session.specs.declared.command.Command.TheVariants as commands
use Rattle.rs_core.specs.declared.links.Event.TheVariants.{Commanded}
use Rattle.rs_core.specs.Drives.Steps.{Happened}
use Rattle.rs_live.specs.declared.live_link.Stage.{Stage}
use Rattle.rs_live.specs.declared.live_link.Stage.TheVariants as stages
use Rattle.rs_live.specs.declared.live_link.Stopping.{Stopping}
use Rattle.rs_live.specs.Keeping.{at, to_end}
use Rattle.rs_live.proofs.Handling.Calls.{at_phase, follows_at}
use Rattle.rs_live.proofs.Handling.Orders.{stops_next}
use Rattle.rs_live.proofs.Places.{below_count}
use Rattle.rs_live.proofs.live_link.LiveLink.stop_next.Goals as goal

pub returns-clause-answers : goal.returns-clause-answers
returns-clause-answers g c piece e p r text =
    let w = c.args.self.now.phase in
    let count : c.len.result ≡ length c.args.self.now.connections.now.items = search (rules, arith) in
    let below = below_count c.args.self.now.connections.now.items _ c.args.stopping.told count (omega arith) in
    let s : Stopping = record { since = c.args.stopping.since; told = c.args.stopping.told + 1 } in
    follows_at g.P.Ports.asked (Happened (Commanded c.args.stopping.told (commands.Stop no_text)) []) _ _ _ (to_end s (at (stages.Orders c.args.asked) w)) _ (c.keep_down.ensures.leaves.failed ∙ r.0) c.keep_down.ensures.held (c.keep_down.ensures.leaves.phase ∙ ap (λ (x : Stage). to_end s (at x w)) p) c.keep_down.ensures.unasked
    (stops_next g.P.Ports.asked _ w c.args.asked c.args.stopping s no_text _ refl e refl refl below (at_phase g.P.Ports.asked c.args.self.now (stages.Orders c.args.asked) p r.1))
