use Rattle.std.proofs.Common.{◌<◌, refl, sym, ap, subst}
use Rattle.rs_core.specs.Core.{client_count}
use Rattle.rs_core.specs.Ribs.{outlet_in}
use Rattle.rs_core.specs.Told.Outlets.{ActsOnOutlet}
use Rattle.rs_outlet.specs.Views.{View}
use Rattle.rs_core.proofs.Run.Around.{asked_again}
use Rattle.rs_core.proofs.Touched.KeptAnswers.{own_answers, same_answers}
use Rattle.rs_core.proofs.Touched.ChangedPrefixes.{own_touches_others, touches_others_same}
use Rattle.rs_core.proofs.route_server.Core.act.Goals as goal

pub returns-in-Again-clause-own : goal.returns-in-Again-clause-own
unfolding client_count
returns-in-Again-clause-own c = λ none. subst (λ a. ActsOnOutlet a c.args.self.now.ribs.extended c.args.c c.args.self.now.sessions.items (outlet_in c.args.self.now.ribs c.args.c none) (outlet_in c.again.new.self c.args.c none)) (sym c.in-Again.is)
    (asked_again (outlet_in c.args.self.now.ribs c.args.c none) (outlet_in c.again.new.self c.args.c none)
    (c.again.ensures.outlet.own none (subst (λ n. c.args.c < n) (sym c.args.self.now.ribs_len) c.requires)))

pub returns-in-None-clause-others_touched : goal.returns-in-None-clause-others_touched
returns-in-None-clause-others_touched c = touches_others_same c.args.c c.args.self.now.ribs c.args.self.now.ribs refl

pub returns-in-Say-clause-others_touched : goal.returns-in-Say-clause-others_touched
returns-in-Say-clause-others_touched c = own_touches_others c.args.c _ c.args.self.now.ribs c.say_keepalive.new.self c.say_keepalive.ensures.tables c.say_keepalive.ensures.outlet

pub returns-in-Again-clause-others_touched : goal.returns-in-Again-clause-others_touched
returns-in-Again-clause-others_touched c = own_touches_others c.args.c _ c.args.self.now.ribs c.again.new.self c.again.ensures.tables c.again.ensures.outlet

pub returns-in-None-clause-answers : goal.returns-in-None-clause-answers
returns-in-None-clause-answers c = same_answers c.args.self.now.ribs c.args.self.now.ribs refl

pub returns-in-Say-clause-answers : goal.returns-in-Say-clause-answers
returns-in-Say-clause-answers c = own_answers c.args.c _ c.args.self.now.ribs c.say_keepalive.new.self c.say_keepalive.ensures.outlet (λ v w e. ap (λ (x : View). x.last) e)

pub returns-in-Again-clause-answers : goal.returns-in-Again-clause-answers
returns-in-Again-clause-answers c = own_answers c.args.c _ c.args.self.now.ribs c.again.new.self c.again.ensures.outlet (λ v w e. ap (λ (x : View). x.last) e.rest)
