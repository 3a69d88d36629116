use Rattle.std.proofs.Common.{◌≡◌, ◌≤◌, drop, length}
use Rattle.rs_attrs.specs.Held.{attributes_in, values_size}
use Rattle.rs_attrs.specs.Meaning.{get}
use Rattle.rs_attrs.proofs.getters.find.Given as goal

-- the type isn't among the heads that were passed
abbrev pub invariant-loop-head : goal.invariant-loop-head
invariant-loop-head l = record {
  fits : values_size (drop l.head-index l.heads) ≤ length l.values;
  same : get l.kind (attributes_in (drop l.head-index l.heads) l.values) ≡ get l.kind (attributes_in l.heads l.fn.values);
}
