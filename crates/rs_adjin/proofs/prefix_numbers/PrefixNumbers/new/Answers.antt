use Rattle.std.proofs.Common.{◌≡◌, ◌∙◌, ◌++◌, ◌+◌, [], ◌∷◌, length, sym, ap, subst, rules, arith}
use Rattle.rs_adjin.specs.PrefixTrees.{number_among, place_for, AreInPlace}
use Rattle.rs_adjin.proofs.PrefixTrees.{all_in_place, in_place, push_at, empty_at, push_empty}
use Rattle.rs_adjin.proofs.prefix_numbers.PrefixNumbers.new.Goals as goal

pub loop-preserved : goal.loop-preserved
loop-preserved c =
    let trees = c.loop.trees.items in
    let pushed : c.push.new.self.items ≡ trees ++ c.new.result ∷ [] = search rules in
    record {
      count = search (rules, arith);
      standing = subst AreInPlace (sym pushed) (in_place (trees ++ c.new.result ∷ []) (push_at 0 trees c.new.result (all_in_place trees c.loop.invariant.standing) (empty_at (0 + length trees) c.new.result c.new.ensures.empty c.new.ensures.ordered)));
      none = λ p. ap (λ ts. number_among ts p) pushed ∙ (push_empty trees c.new.result (place_for p) p c.new.ensures.empty ∙ c.loop.invariant.none p);
    }
