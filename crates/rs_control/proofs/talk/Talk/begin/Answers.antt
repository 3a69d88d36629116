use Rattle.std.proofs.Common.{◌∙◌, ap, subst}
use Rattle.rs_control.specs.declared.fronts.Front.{Front}
use Rattle.rs_control.specs.Fronts.{front_in}
use Rattle.rs_control.specs.Talks.{Begins, has_ended}
use Rattle.rs_control.proofs.talk.Talk.begin.Goals as goal

pub returns-in-Line : goal.returns-in-Line
returns-in-Line g c =
    let By : Front → Type 0 = λ front. Begins (g.P.Pages.finds c.args.server.now.pages.now) c.args.server.now.config.now front c.args.orders.now c.answer.new.orders c.args.self.now c.answer.new.self in
    subst By (c.in-Line.ensures.value ∙ ap (λ heard. front_in heard (has_ended c.args.self.now)) c.as_slice.ensures.value) (c.answer.ensures.obeys, c.answer.ensures.said)
