use Rattle.std.proofs.Common.{◌∙◌, ◌==◌, ap, None, Some}
use Rattle.rs_decision.specs.Rank.{blank}
use Rattle.rs_pages.specs.Candidates.{by_rank, by_step}
use Rattle.rs_pages.proofs.Placed.{placed}
use Rattle.rs_pages.proofs.candidates.outcome_by_rank.Goals as goal

pub returns-in-None : goal.returns-in-None
returns-in-None c = ap (by_rank c.args.ranks.now) (placed (λ r. r.place == c.args.member) c.args.ranks.now blank None c.in-None.ensures.place)

pub returns-in-None-lost_by : goal.returns-in-None-lost_by
returns-in-None-lost_by c =
    ap by_step c.in-None-lost_by.ensures.step ∙ ap (by_rank c.args.ranks.now) (placed (λ r. r.place == c.args.member) c.args.ranks.now blank (Some c.in-Some.place) c.in-Some.ensures.place)

pub returns-in-Some-lost_by : goal.returns-in-Some-lost_by
returns-in-Some-lost_by c =
    ap by_step c.in-Some-lost_by.ensures.step ∙ ap (by_rank c.args.ranks.now) (placed (λ r. r.place == c.args.member) c.args.ranks.now blank (Some c.in-Some.place) c.in-Some.ensures.place)
