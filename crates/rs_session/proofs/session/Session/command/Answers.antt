use Rattle.rs_session.proofs.Briefs.{command_says}
use Rattle.rs_session.proofs.Commands.{command_hears, over_commanded}
use Rattle.rs_session.proofs.session.Session.command.Goals as goal

pub returns-clause-hears : goal.returns-clause-hears
returns-clause-hears c = command_hears c.args.self.now c.obey.new.self c.args.command c.obey.result c.obey.ensures.phase c.obey.ensures.latest c.obey.ensures.settings

pub returns-clause-over : goal.returns-clause-over
returns-clause-over c = over_commanded c.args.self.now c.obey.new.self c.args.command c.obey.result c.obey.ensures.phase c.obey.ensures.latest c.obey.ensures.settings

pub returns-clause-brief : goal.returns-clause-brief
returns-clause-brief c = command_says c.args.self.now c.obey.new.self c.args.command c.obey.result c.obey.ensures.phase
