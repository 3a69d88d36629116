use Rattle.std.proofs.Common.{◌≡◌, ◌++◌, drop, length}
use Rattle.rs_attrs.specs.Held.{attributes_in, values_size}
use Rattle.rs_attrs.specs.Stripping.{stripped_of, taken_by}
use Rattle.rs_attrs.proofs.stripping.stripped.Given as goal

-- what is left of the attributes to come completes the whole
abbrev pub invariant-loop-head : goal.invariant-loop-head
invariant-loop-head l = record {
  size : values_size l.heads.items ≡ length l.values.items;
  rest : values_size (drop l.head-index l.head-items) ≡ length l.rest;
  left : attributes_in l.heads.items l.values.items ++ stripped_of (taken_by l.strip) (attributes_in (drop l.head-index l.head-items) l.rest) ≡ stripped_of (taken_by l.strip) l.attrs;
}
