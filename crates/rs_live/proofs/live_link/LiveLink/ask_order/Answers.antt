use Rattle.std.proofs.Common.{◌≡◌, [], Some, length, ap, refl, sym, subst, ◌∙◌, arith, rules}
use Rattle.rs_session.specs.declared.command.Command.TheVariants as commands
use Rattle.rs_control.specs.declared.order.Order.TheVariants as orders
use Rattle.rs_core.specs.declared.links.Event.TheVariants.{Commanded}
use Rattle.rs_core.specs.Drives.Steps.{Happened}
use Rattle.rs_live.specs.declared.live_link.Stage.TheVariants as stages
use Rattle.rs_live.specs.Orders.{IsOf}
use Rattle.rs_live.proofs.Handling.Calls.{at_phase, follows, follows_at, keeps_at}
use Rattle.rs_live.proofs.Handling.Orders.{disables, enables, is_reload, orders_none, quits, refreshes}
use Rattle.rs_live.proofs.Places.{below_count}
use Rattle.rs_live.proofs.live_link.LiveLink.ask_order.Goals as goal

pub returns-in-Some-Disable-clause-answers : goal.returns-in-Some-Disable-clause-answers
returns-in-Some-Disable-clause-answers g c piece p r text =
    let a = c.in-Some-Disable in
    let w = c.args.self.now.phase in
    let count : c.len.result ≡ length c.args.self.now.connections.now.items = search (rules, arith) in
    let below = below_count c.args.self.now.connections.now.items _ a.c count (subst (λ o. IsOf c.len.result o) a.field-0-is a.ensures.client) in
    follows_at g.P.Ports.asked (Happened (Commanded a.c (commands.Stop a.text)) []) _ _ _ _ _ (c.keep_down.ensures.leaves.failed ∙ r.0) c.keep_down.ensures.held c.keep_down.ensures.leaves.phase c.keep_down.ensures.unasked
    (disables g.P.Ports.asked _ w c.args.asked _ a.c a.text _ _ _ (ap (λ o. Some o) a.field-0-is) below a.ensures.asked (at_phase g.P.Ports.asked c.args.self.now (stages.Orders c.args.asked) p r.1))

pub returns-in-Some-Enable-clause-answers : goal.returns-in-Some-Enable-clause-answers
returns-in-Some-Enable-clause-answers g c piece p r =
    let a = c.in-Some-Enable in
    let w = c.args.self.now.phase in
    let count : c.len.result ≡ length c.args.self.now.connections.now.items = search (rules, arith) in
    let below = below_count c.args.self.now.connections.now.items _ a.c count (subst (λ o. IsOf c.len.result o) a.field-0-is a.ensures.client) in (
      c.log.ensures.leaves.failed ∙ c.keep_down-in-Some-Enable.ensures.leaves.failed ∙ r.0,
      c.log.ensures.handled (keeps_at g.P.Ports.asked c.keep_down-in-Some-Enable.new.self _ _ _ c.keep_down-in-Some-Enable.ensures.held c.keep_down-in-Some-Enable.ensures.leaves.phase c.keep_down-in-Some-Enable.ensures.unasked
          (enables g.P.Ports.asked _ w c.args.asked _ a.c _ _ _ (ap (λ o. Some o) a.field-0-is) below a.ensures.asked (at_phase g.P.Ports.asked c.args.self.now (stages.Orders c.args.asked) p r.1))),
    )

pub returns-in-Some-Refresh-clause-answers : goal.returns-in-Some-Refresh-clause-answers
returns-in-Some-Refresh-clause-answers g c piece p r text =
    let a = c.in-Some-Refresh in
    let w = c.args.self.now.phase in
    follows g.P.Ports.asked (Happened (Commanded a.c commands.Refresh) []) _ _ _ _ r.0 refl refl
    (refreshes g.P.Ports.asked _ w c.args.asked _ a.c _ _ _ (ap (λ o. Some o) a.field-0-is) a.ensures.asked (at_phase g.P.Ports.asked c.args.self.now (stages.Orders c.args.asked) p r.1))

pub returns-in-Some-Reload-clause-answers : goal.returns-in-Some-Reload-clause-answers
returns-in-Some-Reload-clause-answers g c piece p r =
    let a = c.in-Some-Reload in
    let w = c.args.self.now.phase in
    (c.read_rules.ensures.failed ∙ r.0, c.read_rules.ensures.ordered _ refl (is_reload g.P.Ports.asked _ w c.args.asked _ _ _ _ (ap (λ o. Some o) a.field-0-is) a.ensures.asked (at_phase g.P.Ports.asked c.args.self.now (stages.Orders c.args.asked) p r.1)))

pub returns-in-Some-End-clause-answers : goal.returns-in-Some-End-clause-answers
returns-in-Some-End-clause-answers g c piece p r =
    let a = c.in-Some-End in
    let w = c.args.self.now.phase in
    (r.0, quits g.P.Ports.asked _ w c.args.asked _ _ _ _ _ (ap (λ o. Some o) a.field-0-is) refl refl a.ensures.asked (at_phase g.P.Ports.asked c.args.self.now (stages.Orders c.args.asked) p r.1))

pub returns-in-None-clause-answers : goal.returns-in-None-clause-answers
returns-in-None-clause-answers g c piece p r =
    let w = c.args.self.now.phase in
    (r.0, orders_none g.P.Ports.asked _ w c.args.asked _ _ _ refl c.in-None.ensures.asked (at_phase g.P.Ports.asked c.args.self.now (stages.Orders c.args.asked) p r.1))
