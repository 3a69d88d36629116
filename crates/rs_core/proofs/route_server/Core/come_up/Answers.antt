use Rattle.std.proofs.Common.{◌<◌, refl, sym, ◌∙◌, ap, subst}
use Rattle.std.proofs.lemmas.Option.{slice_get_read}
use Rattle.rs_session.specs.Sessions.{agreed_of}
use Rattle.rs_session.specs.Hearing.{HasHeard}
use Rattle.rs_core.specs.Core.{client_count}
use Rattle.rs_core.specs.Ribs.{outlet_in}
use Rattle.rs_core.specs.Told.Outlets.{HasComeUp}
use Rattle.rs_outlet.specs.Views.{View}
use Rattle.rs_core.proofs.Run.Around.{around_others_alone}
use Rattle.rs_core.proofs.Touched.KeptAnswers.{around_answers, same_answers}
use Rattle.rs_core.proofs.Touched.ChangedPrefixes.{around_touches, touches_others_same}
use Rattle.rs_core.proofs.Run.Lists.{some_is}
use Rattle.rs_core.proofs.Told.Alike.{begun_come_up}
use Rattle.rs_core.proofs.Told.BySession.{come_up_is}
use Rattle.rs_core.proofs.route_server.Core.come_up.Goals as goal

pub returns-in-Some-clause-others_alone : goal.returns-in-Some-clause-others_alone
returns-in-Some-clause-others_alone c = around_others_alone c.args.c _ c.args.self.now.ribs.tables c.args.self.now.ribs c.come_up.new.self (c.come_up.ensures.outlet c.args.self.now.numbered)

pub returns-in-Some-clause-own : goal.returns-in-Some-clause-own
unfolding client_count
returns-in-Some-clause-own c = λ none x read settings items has _.
    let ribs = c.args.self.now.ribs in
    let here = slice_get_read _ _ _ _ (sym c.args.self.now.sessions_len) c.requires c.index-session.ensures in
    let heard = subst (λ y. HasHeard y settings items) (some_is x c.index-session.result.now (sym read ∙ here)) has in
    subst (λ o. HasComeUp o (outlet_in ribs c.args.c none) (outlet_in c.come_up.new.self c.args.c none))
    (come_up_is (agreed_of settings items) ribs.extended settings c.in-Some.mode c.limit-limit.result (sym c.in-Some.is ∙ c.mode.ensures.mode settings items heard) (c.limit-limit.ensures.limit settings items heard))
    (begun_come_up _ (outlet_in ribs c.args.c none) (outlet_in c.come_up.new.self c.args.c none)
    ((c.come_up.ensures.outlet c.args.self.now.numbered).own none (subst (λ n. c.args.c < n) (sym c.args.self.now.ribs_len) c.requires)))

pub returns-in-Some-clause-others_touched : goal.returns-in-Some-clause-others_touched
returns-in-Some-clause-others_touched c = around_touches c.args.c _ _ c.args.self.now.ribs c.come_up.new.self c.come_up.ensures.held (c.come_up.ensures.outlet c.args.self.now.numbered)

pub returns-in-Some-clause-answers : goal.returns-in-Some-clause-answers
returns-in-Some-clause-answers c =
    around_answers c.args.c _ c.args.self.now.ribs.tables c.args.self.now.ribs c.come_up.new.self (c.come_up.ensures.outlet c.args.self.now.numbered) (λ v w e. ap (λ (x : View). x.last) e)

pub returns-in_default-clause-answers : goal.returns-in_default-clause-answers
returns-in_default-clause-answers c = same_answers c.args.self.now.ribs c.args.self.now.ribs refl

pub returns-in_default-clause-others_touched : goal.returns-in_default-clause-others_touched
returns-in_default-clause-others_touched c = touches_others_same c.args.c c.args.self.now.ribs c.args.self.now.ribs refl
