use Rattle.std.proofs.Common.{◌≡◌, None, length}
use Rattle.rs_octets.specs.Prefixes.{Prefix}
use Rattle.rs_adjin.specs.PrefixTrees.{number_among, AreInPlace}
use Rattle.rs_adjin.proofs.prefix_numbers.PrefixNumbers.new.Given as goal

abbrev pub invariant-loop : goal.invariant-loop
invariant-loop l = record {
  count : length l.trees.items ≡ l.counter;
  standing : AreInPlace l.trees.items;
  none : (p : Prefix) → number_among l.trees.items p ≡ None;
}
