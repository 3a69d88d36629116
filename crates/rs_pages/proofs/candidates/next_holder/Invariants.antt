use Rattle.std.proofs.Common.{◌≡◌, map, drop}
use Rattle.rs_page_parts.specs.Holders.{holding}
use Rattle.rs_pages.specs.Candidates.{next_holder}
use Rattle.rs_pages.proofs.candidates.next_holder.Given as goal

-- the first is among those that are left
abbrev pub invariant-loop-holder : goal.invariant-loop-holder
invariant-loop-holder l = next_holder l.config (map holding (drop l.holder-index l.holders)) l.from ≡ next_holder l.config (map holding l.holders) l.from
