use Rattle.std.proofs.Common.{◌∙◌, sym, subst}
use Rattle.std.specs.Option.{IfSome}
use Rattle.rs_policy.specs.Unasked.{AreAllPassedOver}
use Rattle.rs_policy.proofs.Judging.Unasked.{if_asked}
use Rattle.rs_policy.proofs.rules.asked.asked_by_exports.Goals as goal

pub returns-in-Pass : goal.returns-in-Pass
returns-in-Pass c =
    let items = c.parts.result.0.now in
    let shared = c.parts.result.1.now in
    if_asked c.args.config.now c.args.to shared items c.asked_of.result c.is_read.ensures (sym c.default.ensures ∙ c.in-Pass.is) (sym c.export-exports.ensures ∙ c.parts.ensures)
    (subst (λ n. IfSome c.asked_of.result (λ asked. AreAllPassedOver asked n shared items)) c.client_as.ensures c.asked_of.ensures)
