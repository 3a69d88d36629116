use Rattle.std.proofs.Common.{◌≡◌, ◌≢◌, ◌==◌, ◌∙◌, List, not, ap, option_map, subst, sym, unwrap_or}
use Rattle.std.proofs.lemmas.List.Kept.{AllPairs-filter}
use Rattle.rs_decision.specs.Best.{HasDistinctPlaces}
use Rattle.rs_decision.specs.Choice.{best_of}
use Rattle.rs_decision.specs.declared.rank.Rank.{Rank}
use Rattle.rs_outlet.specs.Decided.Choices.{without}
use Rattle.rs_outlet.proofs.chosen.choose_next.Goals as goal

pub best_place-requires : goal.best_place-requires
best_place-requires c =
    let client = c.in_ok-place.place in
    let left : c.deref.result.now ≡ without client c.args.ranks.now.items = c.deref.ensures.value ∙ c.keep_others.ensures in
    subst HasDistinctPlaces (sym left) (AllPairs-filter (λ (a b : Rank). a.place ≢ b.place) (λ (r : Rank). not (r.place == client)) c.args.ranks.now.items c.requires)

pub returns : goal.returns
returns c = λ best found.
    let ranks : List Rank = c.args.ranks.now.items in
    let same : c.in_ok-place.place ≡ best = ap (λ o. unwrap_or o best) (sym c.in_ok-place.was ∙ found) in
    c.best_place.ensures ∙ ap (λ rs. option_map (λ (r : Rank). r.place) (best_of rs)) (c.deref.ensures.value ∙ c.keep_others.ensures)
    ∙ ap (λ k. option_map (λ (r : Rank). r.place) (best_of (without k ranks))) same
