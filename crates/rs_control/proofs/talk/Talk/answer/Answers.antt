use Rattle.std.proofs.Common.{ℕ, List, take, ◌∙◌, ap, subst}
use Rattle.rs_control.specs.Lines.{line_meaning}
use Rattle.rs_control.specs.Steps.{ComesOf}
use Rattle.rs_control.specs.Talks.{Obeyed}
use Rattle.rs_control.proofs.talk.Talk.answer.Goals as goal

pub returns-in-Ok-clause-obeys : goal.returns-in-Ok-clause-obeys
returns-in-Ok-clause-obeys g c =
    let Comes : List ℕ → Type 0 = λ line. ComesOf (g.P.Pages.finds c.args.server.now.pages.now) c.args.server.now.config.now (line_meaning c.args.server.now.config.now line) c.args.orders.now c.step-next.new.orders c.in-Ok.outcome in
    Obeyed c.in-Ok.outcome (subst Comes (c.split_at.ensures.front ∙ ap (λ heard. take c.args.count heard) c.as_slice.ensures.value) c.in-Ok.ensures.ok) c.take_up.ensures.taken
