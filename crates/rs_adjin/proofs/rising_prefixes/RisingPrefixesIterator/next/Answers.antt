use Rattle.std.proofs.Common.{◌≡◌, ◌∙◌, ◌++◌, [], sym, ap, rules}
use Rattle.rs_adjin.specs.PrefixTrees.{entries_of}
use Rattle.rs_adjin.proofs.Onward.{all_between}
use Rattle.rs_adjin.proofs.rising_prefixes.RisingPrefixesIterator.next.Goals as goal

pub loop-prefix-preserved : goal.loop-prefix-preserved
loop-prefix-preserved c =
    let whole = c.range-self-inside.ensures.between tt ∙ all_between c.in_ok-tree.tree.now.entries in
    let ended : c.loop-prefix.self-inside.here ≡ [] = search rules in
    ap (λ es. es ++ entries_of c.in_ok-tree.trees.now) whole ∙ (ap entries_of (sym c.in_ok-tree.ensures.cases.0) ∙ (ap (λ es. es ++ entries_of c.loop-prefix.self-inside.trees.now) (sym ended) ∙ c.loop-prefix.invariant))
