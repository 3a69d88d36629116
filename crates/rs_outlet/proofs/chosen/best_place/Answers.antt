use Rattle.std.proofs.Common.{◌∙◌, ap, option_map, refl, sym}
use Rattle.rs_decision.specs.declared.rank.Rank.{Rank}
use Rattle.rs_outlet.proofs.Decided.Ranks.{past, ranked_at}
use Rattle.rs_outlet.proofs.chosen.best_place.Goals as goal

pub returns-in-None : goal.returns-in-None
returns-in-None c =
    ap (option_map (λ (r : Rank). r.place)) (sym (past c.args.ranks.now c.in-Some.index c.in-None.ensures.lookup.3) ∙ c.in-Some.ensures.value)

pub returns-in-Some-get : goal.returns-in-Some-get
returns-in-Some-get c =
    let ranks = c.args.ranks.now in
    ap (option_map (λ (r : Rank). r.place)) (sym (ranked_at ranks ranks c.in-Some.index c.in-Some-get.rank.now refl c.in-Some-get.ensures.lookup.3.0 c.in-Some-get.ensures.lookup.1) ∙ c.in-Some.ensures.value)
