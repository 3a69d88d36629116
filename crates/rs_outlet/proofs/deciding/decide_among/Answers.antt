use Rattle.std.proofs.Common.{◌≡◌, ◌<◌, IfOk, Some, None, sym, ap, ◌∙◌, subst, option_map, length}
use Rattle.std.specs.Arc.{arc_value}
use Rattle.rs_adjin.specs.AdjIns.{ListsHolders}
use Rattle.rs_policy.specs.Noted.{note_of_import}
use Rattle.rs_outlet.specs.Decided.HeldBy.{held_by}
use Rattle.rs_outlet.specs.Decided.Passing.{attributes_passed, passed_fitting}
use Rattle.rs_outlet.proofs.Decided.Ranks.{sent}
use Rattle.rs_outlet.proofs.Decided.Shared.{due_by_choice, known_choice, nothing_due}
use Rattle.rs_outlet.proofs.deciding.decide_among.Goals as goal

pub returns-in_default-clause-due : goal.returns-in_default-clause-due
returns-in_default-clause-due c = nothing_due (held_by c.args.sources.now) c.args.sources.now.client c.args.speech c.args.prefix.now (sym c.in_ok-place.ensures.chosen ∙ c.in_default.is)

pub returns-in_default-noted_at-clause-due : goal.returns-in_default-noted_at-clause-due
returns-in_default-noted_at-clause-due c =
    due_by_choice (held_by c.args.sources.now) c.args.sources.now.client c.args.speech c.args.prefix.now c.in-Some.place None (sym c.in_ok-place.ensures.chosen ∙ c.in-Some.is)
    (sym (c.in_default-noted_at.ensures.route c.args.prefix.now c.requires.number))

pub pass_fitting-requires-clause-known : goal.pass_fitting-requires-clause-known
pass_fitting-requires-clause-known c =
    let listed : ListsHolders c.args.sources.now.ins.now c.args.prefix.now (sent c.args.holders) = c.requires.holders in
    let place = subst (λ n. c.in-Some.place < n) c.requires.server.count (known_choice _ (held_by c.args.sources.now) c.args.sources.now.client c.args.prefix.now (sent c.args.holders) c.in-Some.place listed.all listed.known (sym c.in_ok-place.ensures.chosen ∙ c.in-Some.is)) in
    subst (λ d. d < length c.args.sources.now.config.now.clients) (sym c.in-Some-noted_at.ensures.client) place

pub pass_fitting-requires-clause-noted : goal.pass_fitting-requires-clause-noted
pass_fitting-requires-clause-noted c =
    let f = note_of_import c.args.sources.now.config.now in
    c.in-Some-noted_at.ensures.noted f c.requires.server.noted c.args.prefix.now c.requires.number
    ∙ ap (λ d. f d c.args.prefix.now (arc_value c.in-Some-noted_at.holder.attrs.now)) (sym c.in-Some-noted_at.ensures.client)

pub returns-clause-due : goal.returns-clause-due
returns-clause-due c =
    let m = arc_value c.in-Some-noted_at.holder.attrs.now in
    subst (λ due. IfOk c.pass_fitting.result (λ passed. option_map attributes_passed passed ≡ due))
    (ap (λ d. passed_fitting (held_by c.args.sources.now) c.args.sources.now.client c.args.speech c.args.prefix.now (d, m)) c.in-Some-noted_at.ensures.client
    ∙ due_by_choice (held_by c.args.sources.now) c.args.sources.now.client c.args.speech c.args.prefix.now c.in-Some.place (Some m) (sym c.in_ok-place.ensures.chosen ∙ c.in-Some.is)
    (sym (c.in-Some-noted_at.ensures.route c.args.prefix.now c.requires.number)))
    c.pass_fitting.ensures.due
