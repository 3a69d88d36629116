use Rattle.std.proofs.Common.{◌<◌, All, subst, sym, ◌∙◌}
use Rattle.rs_adjin.specs.AdjIns.{ListsHolders}
use Rattle.rs_outlet.specs.Decided.HeldBy.{held_by}
use Rattle.rs_outlet.proofs.Decided.Lent.{choice_of_others}
use Rattle.rs_outlet.proofs.Decided.Ranks.{senders_known, sent}
use Rattle.rs_outlet.proofs.Decided.Shared.{same_choice}
use Rattle.rs_outlet.proofs.chosen.has_choice_of_others.Goals as goal

pub returns-then-is_absent : goal.returns-then-is_absent
returns-then-is_absent c _ other alike none is =
    let t = held_by c.args.sources.now in
    let listed : ListsHolders c.args.sources.now.ins.now c.args.prefix.now (sent c.at_number-holders.result) = c.at_number-holders.ensures.holders c.args.prefix.now c.requires.number in
    sym (same_choice t other c.args.sources.now.client c.args.prefix.now (sent c.at_number-holders.result) listed.all alike none
    (c.is_absent.ensures c.if-is_absent.true c.args.prefix.now c.requires.number)
    (subst (λ n. All (λ h. h.0 < n) (sent c.at_number-holders.result)) c.requires.server.count listed.known) listed.each)
    ∙ is

pub is_alone_of_its_as-requires-clause-known : goal.is_alone_of_its_as-requires-clause-known
is_alone_of_its_as-requires-clause-known c =
    let listed : ListsHolders c.args.sources.now.ins.now c.args.prefix.now (sent c.at_number-holders.result) = c.at_number-holders.ensures.holders c.args.prefix.now c.requires.number in
    senders_known _ _ c.at_number-holders.result c.requires.server.count listed.known

pub returns-in-Some : goal.returns-in-Some
returns-in-Some c alone other alike none is =
    let t = held_by c.args.sources.now in
    let hs = sent c.at_number-holders.result in
    let listed : ListsHolders c.args.sources.now.ins.now c.args.prefix.now hs = c.at_number-holders.ensures.holders c.args.prefix.now c.requires.number in
    choice_of_others t other c.args.sources.now.client c.args.prefix.now hs c.in-Some.best listed.all alike none
    (subst (λ n. All (λ h. h.0 < n) hs) c.requires.server.count listed.known) listed.each listed.rising
    (c.is_alone_of_its_as.ensures alone) c.if-best-sources.true (is ∙ c.in-Some.is)
    ∙ sym c.in-Some.is
