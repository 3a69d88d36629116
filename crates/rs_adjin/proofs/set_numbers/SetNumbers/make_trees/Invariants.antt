use Rattle.std.proofs.Common.{◌≡◌, ◌-◌, List, length}
use Rattle.rs_attrs.specs.Meaning.{Attribute}
use Rattle.rs_adjin.specs.SetNumbering.{number_by}
use Rattle.rs_adjin.specs.declared.set_numbers.TheConstants.{TREES}
use Rattle.rs_adjin.proofs.set_numbers.SetNumbers.make_trees.Given as goal

abbrev pub invariant-loop-self : goal.invariant-loop-self
invariant-loop-self l = (m : List Attribute) → number_by l.self m ≡ number_by l.initial.self m

abbrev pub decreases-loop-self : goal.decreases-loop-self
decreases-loop-self l = TREES - length l.self.trees.items
