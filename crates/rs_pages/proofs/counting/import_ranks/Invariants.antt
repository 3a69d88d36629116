use Rattle.std.proofs.Common.{◌≡◌, ◌++◌, map, drop}
use Rattle.std.specs.List.{filter_map}
use Rattle.rs_decision.specs.Best.{HasDistinctPlaces}
use Rattle.rs_page_parts.specs.Holders.{holding}
use Rattle.rs_pages.specs.Counting.{AreBefore, import_rank, import_ranks}
use Rattle.rs_pages.specs.Candidates.{rising_from}
use Rattle.rs_pages.proofs.counting.import_ranks.Given as goal

-- no two have the same place, each has one before the next, and those that are left complete the whole
abbrev pub invariant-loop-holder : goal.invariant-loop-holder
invariant-loop-holder l = record {
  distinct : HasDistinctPlaces l.ranks.items;
  before : AreBefore l.next l.ranks.items;
  whole : l.ranks.items ++ rising_from l.next (filter_map (import_rank l.config l.prefix) (map holding (drop l.holder-index l.holders))) ≡ import_ranks l.config l.prefix (map holding l.holders);
}
