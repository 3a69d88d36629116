use Rattle.std.proofs.Common.{◌<◌, sym, ap, ◌∙◌, subst}
use Rattle.std.specs.List.{All}
use Rattle.rs_adjin.specs.AdjIns.{ListsHolders}
use Rattle.rs_decision.specs.Best.{HasDistinctPlaces}
use Rattle.rs_outlet.specs.Decided.Choices.{AreChoices, chosen}
use Rattle.rs_outlet.specs.Decided.HeldBy.{held_by}
use Rattle.rs_outlet.proofs.Decided.Next.{next_choice}
use Rattle.rs_outlet.proofs.Decided.Numbering.{number_once}
use Rattle.rs_outlet.proofs.Decided.Ranks.{distinct_places, sent}
use Rattle.rs_outlet.proofs.Decided.Shared.{still_choices}
use Rattle.rs_outlet.proofs.chosen.choose_once.Goals as goal

pub choose_next-next-requires : goal.choose_next-next-requires
choose_next-next-requires c =
    let listed : ListsHolders c.args.sources.now.ins.now c.args.prefix.now (sent c.args.holders) = c.requires.holders in
    subst HasDistinctPlaces (sym c.in_ok-place.ensures.ranks) (distinct_places (held_by c.args.sources.now) _ _ _ listed.rising)

pub returns-then-is_absent-clause-choices : goal.returns-then-is_absent-clause-choices
returns-then-is_absent-clause-choices c =
    let t = held_by c.args.sources.now in
    let ins = c.args.sources.now.ins.now in
    let client = c.args.sources.now.client in
    let hs = sent c.args.holders in
    let listed : ListsHolders ins c.args.prefix.now hs = c.requires.holders in
    still_choices t ins _ _ _ (subst (AreChoices t ins) (sym c.chosen_before.ensures.kept) c.requires.choices) (record {
      known = c.requires.server.client;
      absent = c.is_absent.ensures c.if-is_absent.true;
      next = λ q best at is alike.
          ap (chosen t best) (number_once ins q c.args.prefix.now c.args.number at c.requires.number)
          ∙ next_choice t client best c.args.prefix.now alike (c.is_absent.ensures c.if-is_absent.true c.args.prefix.now c.requires.number) hs _ _ listed.all
          (subst (λ n. All (λ h. h.0 < n) hs) c.requires.server.count listed.known) listed.each c.in_ok-place.ensures.ranks (c.choose_next-next.ensures best is);
      chosen = λ q at. ap (chosen t client) (number_once ins q c.args.prefix.now c.args.number at c.requires.number) ∙ sym c.in_ok-place.ensures.chosen;
    }) c.keep.ensures
