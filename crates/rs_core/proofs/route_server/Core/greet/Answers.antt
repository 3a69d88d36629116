use Rattle.std.proofs.Common.{◌<◌, sym, ◌∙◌, ap, subst}
use Rattle.rs_core.specs.Core.{client_count}
use Rattle.rs_outlet.specs.Views.{View}
use Rattle.rs_core.specs.Ribs.{KeepsAnswers, outlet_in}
use Rattle.rs_core.specs.Told.Outlets.{IsGreeting, LeavesOthersAlone}
use Rattle.rs_core.specs.declared.ribs.Ribs.{Ribs}
use Rattle.rs_core.proofs.Run.Around.{own_acts_on_outlet, others_alone_on}
use Rattle.rs_core.proofs.Touched.KeptAnswers.{answers_on, own_answers}
use Rattle.rs_core.proofs.Told.Alike.{greets}
use Rattle.rs_core.proofs.route_server.Core.greet.Goals as goal

pub returns-clause-others_alone : goal.returns-clause-others_alone
returns-clause-others_alone c = subst (λ r. LeavesOthersAlone c.args.c r c.say_open.new.self) c.pass_over.ensures.ribs
    (others_alone_on c.args.c c.pass_over.new.self.ribs c.clear.new.self c.say_open.new.self c.clear.ensures.settings.count
    (own_acts_on_outlet c.args.c _ c.pass_over.new.self.ribs c.clear.new.self c.clear.ensures.outlet)
    (own_acts_on_outlet c.args.c _ c.clear.new.self c.say_open.new.self c.say_open.ensures.outlet))

pub returns-clause-answers : goal.returns-clause-answers
returns-clause-answers c = subst (λ r. KeepsAnswers r c.say_open.new.self) c.pass_over.ensures.ribs
    (answers_on c.pass_over.new.self.ribs c.clear.new.self c.say_open.new.self c.clear.ensures.settings.count
    (own_answers c.args.c _ c.pass_over.new.self.ribs c.clear.new.self c.clear.ensures.outlet (λ v w e. ap (λ (x : View). x.last) e))
    (own_answers c.args.c _ c.clear.new.self c.say_open.new.self c.say_open.ensures.outlet (λ v w e. ap (λ (x : View). x.last) e)))

pub returns-clause-own : goal.returns-clause-own
unfolding client_count
returns-clause-own c = λ none.
    let lt : c.args.c < c.pass_over.new.self.ribs.count = subst (λ n. c.args.c < n) (sym (ap (λ (r : Ribs). r.count) c.pass_over.ensures.ribs ∙ c.args.self.now.ribs_len)) c.requires in
    subst (λ o. IsGreeting o (outlet_in c.say_open.new.self c.args.c none)) c.server_open-said.ensures (greets c.server_open-said.result (outlet_in c.pass_over.new.self.ribs c.args.c none) (outlet_in c.clear.new.self c.args.c none) (outlet_in c.say_open.new.self c.args.c none)
    (c.clear.ensures.outlet.own none lt)
    (c.say_open.ensures.outlet.own none (subst (λ n. c.args.c < n) (sym c.clear.ensures.settings.count) lt)))

pub returns-clause-apart : goal.returns-clause-apart
returns-clause-apart c = λ d none ne. c.say_open.ensures.outlet.others d none ne ∙ c.clear.ensures.outlet.others d none ne ∙ ap (λ (r : Ribs). outlet_in r d none) c.pass_over.ensures.ribs
