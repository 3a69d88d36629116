use Rattle.std.proofs.Common.{rules}
use Rattle.std.proofs.lemmas.List.Sorted.{answers_always}
use Rattle.rs_decision.proofs.Grouped.{pair_of, sorted_is_grouped}
use Rattle.rs_decision.proofs.exits.group.Goals as goal

pub returns-clause-grouped : goal.returns-clause-grouped
returns-clause-grouped c = sorted_is_grouped c.sort_unstable_by_key.new.self (c.sort_unstable_by_key.ensures.sorted pair_of (answers_always _ _ _ (λ f a r g h. search rules)))
