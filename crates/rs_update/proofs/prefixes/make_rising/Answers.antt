use Rattle.std.proofs.Common.{List, sym, ap, ◌∙◌, subst}
use Rattle.std.specs.List.Sorted.{IsStrictlySortedBy}
use Rattle.std.proofs.lemmas.List.Filters.{dedup_is}
use Rattle.std.proofs.lemmas.List.Kept.{IsStrictlySortedBy-dedup}
use Rattle.rs_octets.specs.Prefixes.{Prefix, prefix_order}
use Rattle.rs_attrs.specs.Effects.{same_prefix, has_prefix}
use Rattle.rs_update.proofs.PrefixSets.{permuted, deduped, prefix_total, same_ties}
use Rattle.rs_update.proofs.prefixes.make_rising.Goals as goal

pub returns-clause-rising : goal.returns-clause-rising
returns-clause-rising c =
    let sorted : List Prefix = c.sort_unstable.new.self.items in
    let left = dedup_is same_prefix sorted c.dedup.new.self.items c.dedup.ensures.filtered in
    subst (λ (ps : List Prefix). IsStrictlySortedBy prefix_order ps) (sym left) (IsStrictlySortedBy-dedup prefix_total same_ties sorted c.sort_unstable.ensures.sorted)

pub returns-clause-members : goal.returns-clause-members
returns-clause-members c p =
    let sorted : List Prefix = c.sort_unstable.new.self.items in
    let left = dedup_is same_prefix sorted c.dedup.new.self.items c.dedup.ensures.filtered in
    ap (has_prefix p) left ∙ deduped p sorted ∙ permuted p c.args.prefixes.now.items sorted c.sort_unstable.ensures.permutation
