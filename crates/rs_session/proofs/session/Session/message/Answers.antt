use Rattle.rs_session.proofs.Briefs.{message_says}
use Rattle.rs_session.proofs.Messages.{message_hears, over_hears}
use Rattle.rs_session.proofs.Updates.{message_takes}
use Rattle.rs_session.proofs.session.Session.message.Goals as goal

pub returns-clause-hears : goal.returns-clause-hears
returns-clause-hears c = message_hears c.args.self.now c.hear.new.self c.args.heard c.hear.result c.hear.ensures.phase c.hear.ensures.latest c.hear.ensures.settings

pub returns-clause-over : goal.returns-clause-over
returns-clause-over c = over_hears c.args.self.now c.hear.new.self c.args.heard c.hear.result c.hear.ensures.phase c.hear.ensures.latest c.hear.ensures.settings

pub returns-clause-takes : goal.returns-clause-takes
returns-clause-takes c = message_takes c.args.self.now c.hear.new.self c.args.heard c.hear.result (returns-clause-hears c)

pub returns-clause-brief : goal.returns-clause-brief
returns-clause-brief c = message_says c.args.self.now c.hear.new.self c.args.heard c.hear.result c.hear.ensures.phase
