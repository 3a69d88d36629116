use Rattle.std.proofs.Common.{◌≡◌, ◌∙◌, refl, sym, subst}
use Rattle.rs_adjin.specs.AdjIns.{ListsHolders}
use Rattle.rs_decision.specs.Best.{HasDistinctPlaces}
use Rattle.rs_decision.specs.Choice.{best_of}
use Rattle.rs_outlet.specs.Decided.Due.{ranks_among}
use Rattle.rs_outlet.specs.Decided.HeldBy.{held_by}
use Rattle.rs_outlet.proofs.Decided.Ranks.{distinct_places, senders_known, sent}
use Rattle.rs_outlet.proofs.Decided.Shared.{chosen_by}
use Rattle.rs_outlet.proofs.chosen.choose.Goals as goal

pub rank_all-requires-clause-known : goal.rank_all-requires-clause-known
rank_all-requires-clause-known c =
    let listed : ListsHolders c.args.sources.now.ins.now c.args.prefix.now (sent c.args.holders) = c.requires.holders in
    senders_known _ _ c.args.holders c.requires.server.count listed.known

pub best_place-requires : goal.best_place-requires
best_place-requires c =
    let listed : ListsHolders c.args.sources.now.ins.now c.args.prefix.now (sent c.args.holders) = c.requires.holders in
    let ranked : c.deref.result.now ≡ ranks_among (held_by c.args.sources.now) c.args.sources.now.client c.args.prefix.now (sent c.args.holders) = c.deref.ensures.value ∙ c.in_ok-rank_all.ensures in
    subst HasDistinctPlaces (sym ranked) (distinct_places (held_by c.args.sources.now) _ _ _ listed.rising)

pub returns-clause-chosen : goal.returns-clause-chosen
returns-clause-chosen c =
    let listed : ListsHolders c.args.sources.now.ins.now c.args.prefix.now (sent c.args.holders) = c.requires.holders in
    let ranked : c.deref.result.now ≡ ranks_among (held_by c.args.sources.now) c.args.sources.now.client c.args.prefix.now (sent c.args.holders) = c.deref.ensures.value ∙ c.in_ok-rank_all.ensures in
    c.best_place.ensures ∙ sym (chosen_by (held_by c.args.sources.now) _ _ (sent c.args.holders) _ (best_of c.deref.result.now) listed.all ranked refl)
