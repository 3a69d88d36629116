use Rattle.std.proofs.Common.{◌<◌, sym, ◌∙◌, ap, subst}
use Rattle.rs_outlet.specs.Views.{View}
use Rattle.rs_core.specs.Core.{client_count}
use Rattle.rs_core.specs.Ribs.{outlet_in}
use Rattle.rs_core.proofs.Run.Around.{held_others_alone, own_acts_on_outlet, others_alone_on}
use Rattle.rs_core.proofs.Touched.KeptAnswers.{answers_on, held_answers, own_answers}
use Rattle.rs_core.proofs.Touched.ChangedPrefixes.{held_touches_others, touches_then_own}
use Rattle.rs_core.specs.Told.Outlets.{IsFinished}
use Rattle.rs_core.proofs.Told.Alike.{ends_so}
use Rattle.rs_core.proofs.route_server.Core.end.Goals as goal

pub returns-clause-others_alone : goal.returns-clause-others_alone
returns-clause-others_alone c =
    others_alone_on c.args.c c.args.self.now.ribs c.forget_routes.new.self c.finish.new.self c.forget_routes.ensures.settings.count
    (held_others_alone c.args.c c.args.self.now.ribs.tables c.args.self.now.ribs c.forget_routes.new.self (c.forget_routes.ensures.touched c.args.self.now.numbered))
    (own_acts_on_outlet c.args.c _ c.forget_routes.new.self c.finish.new.self c.finish.ensures.outlet)

pub returns-clause-own : goal.returns-clause-own
unfolding client_count
returns-clause-own c = λ none.
    subst (λ v. IsFinished c.args.note v (outlet_in c.finish.new.self c.args.c none)) ((c.forget_routes.ensures.touched c.args.self.now.numbered).own none)
    (ends_so c.args.note (outlet_in c.forget_routes.new.self c.args.c none) (outlet_in c.finish.new.self c.args.c none)
    (c.finish.ensures.outlet.own none (subst (λ n. c.args.c < n) (sym (c.forget_routes.ensures.settings.count ∙ c.args.self.now.ribs_len)) c.requires)))

pub returns-clause-answers : goal.returns-clause-answers
returns-clause-answers c =
    answers_on c.args.self.now.ribs c.forget_routes.new.self c.finish.new.self c.forget_routes.ensures.settings.count
    (held_answers c.args.c c.args.self.now.ribs.tables c.args.self.now.ribs c.forget_routes.new.self (c.forget_routes.ensures.touched c.args.self.now.numbered))
    (own_answers c.args.c _ c.forget_routes.new.self c.finish.new.self c.finish.ensures.outlet (λ v w e. ap (λ (x : View). x.last) e))

pub returns-clause-others_touched : goal.returns-clause-others_touched
returns-clause-others_touched c = touches_then_own c.args.c _ c.args.self.now.ribs c.forget_routes.new.self c.finish.new.self c.forget_routes.ensures.settings.count
    (held_touches_others c.args.c 0 c.args.self.now.ribs c.forget_routes.new.self c.forget_routes.ensures.held (c.forget_routes.ensures.touched c.args.self.now.numbered)) c.finish.ensures.tables c.finish.ensures.outlet
