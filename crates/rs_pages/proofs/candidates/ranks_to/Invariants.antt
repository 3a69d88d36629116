use Rattle.std.proofs.Common.{◌≡◌, ◌++◌, map, drop}
use Rattle.std.specs.List.{filter_map}
use Rattle.rs_decision.specs.Best.{HasDistinctPlaces}
use Rattle.rs_page_parts.specs.Holders.{holding}
use Rattle.rs_pages.specs.Counting.{AreBefore}
use Rattle.rs_pages.specs.Candidates.{rank_to, ranks_to, rising_from}
use Rattle.rs_pages.proofs.candidates.ranks_to.Given as goal

-- no two have the same place, each has one before the next, and those that are left complete the whole
abbrev pub invariant-loop-holder : goal.invariant-loop-holder
invariant-loop-holder l = record {
  distinct : HasDistinctPlaces l.ranks.items;
  before : AreBefore l.next l.ranks.items;
  whole : l.ranks.items ++ rising_from l.next (filter_map (rank_to l.question.config.now l.question.to l.question.prefix) (map holding (drop l.holder-index l.holders))) ≡ ranks_to l.question.config.now l.question.to l.question.prefix (map holding l.holders);
}
