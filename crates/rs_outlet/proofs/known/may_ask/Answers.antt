use Rattle.std.proofs.Common.{subst}
use Rattle.std.specs.Arc.{arc_value}
use Rattle.rs_attrs.specs.Tagged.{LacksAsked}
use Rattle.rs_policy.specs.Alike.{ReceiversAreAlike}
use Rattle.rs_outlet.proofs.known.may_ask.Goals as goal

pub returns-then-not-lacks : goal.returns-then-not-lacks
returns-then-not-lacks c none =
    let s = c.args.sources.now in
    subst (ReceiversAreAlike s.config.now s.client) c.deref-then-not-lacks.ensures (c.may_ask_receiver.ensures none)

pub returns-else-not-lacks : goal.returns-else-not-lacks
returns-else-not-lacks c none =
    let s = c.args.sources.now in
    c.requires.server.receivers (arc_value c.args.holder.now.attrs.now) (subst (LacksAsked s.receivers) c.deref.ensures (c.lacks.ensures c.if-not-lacks.false))
