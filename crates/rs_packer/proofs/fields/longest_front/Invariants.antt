use Rattle.std.proofs.Common.{◌≡◌, ◌≤◌, take, sum_by}
use Rattle.rs_packer.specs.Parts.{prefix_size}
use Rattle.rs_packer.proofs.fields.longest_front.Given as goal

abbrev pub invariant-loop-i : goal.invariant-loop-i
invariant-loop-i l = (l.size ≡ sum_by prefix_size (take l.i l.prefixes)) × (l.size ≤ l.room)
