use Rattle.rs_session.proofs.Briefs.{moment_says}
use Rattle.rs_session.proofs.Moments.{moment_hears}
use Rattle.rs_session.proofs.session.Session.moment.Goals as goal

pub returns-clause-hears : goal.returns-clause-hears
returns-clause-hears c = moment_hears c.args.self.now c.see.new.self c.args.t c.see.result c.see.ensures.phase c.see.ensures.latest c.see.ensures.settings

pub returns-clause-brief : goal.returns-clause-brief
returns-clause-brief c = moment_says c.args.self.now c.see.new.self c.see.result c.see.ensures.phase
