use Rattle.std.proofs.Common.{◌∙◌, sym, rules}
use Rattle.std.proofs.lemmas.List.Sorted.{IsNonDecreasingBy-from_sort_by_key, list_any-IsPermutation}
use Rattle.rs_lists.specs.Lists.{covers, place}
use Rattle.rs_lists.proofs.Same.{relinked_same, rising_by_place}
use Rattle.rs_lists.proofs.arrange.Goals as goal

pub link-requires-clause-rising : goal.link-requires-clause-rising
link-requires-clause-rising c = rising_by_place c.sort_unstable_by_key.new.self (IsNonDecreasingBy-from_sort_by_key place _ c.sort_unstable_by_key.ensures.sorted (λ a r q k. search rules))

pub returns-clause-same : goal.returns-clause-same
returns-clause-same c n len =
    relinked_same n len c.sort_unstable_by_key.new.self c.link.new.spans c.link.ensures.same
    ∙ sym (list_any-IsPermutation (λ s. covers n len s) c.args.spans.now c.sort_unstable_by_key.new.self c.sort_unstable_by_key.ensures.permutation)
