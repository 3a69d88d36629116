use Rattle.std.proofs.Common.{◌≡◌, ◌++◌}
use Rattle.std.specs.List.{flat_map}
use Rattle.std.specs.Int.{w32, to_be_bytes}
use Rattle.rs_attrs.specs.Paths.{quads}
use Rattle.rs_attrs.specs.Stripping.{taken_by, unstripped}
use Rattle.rs_attrs.proofs.stripping.push_communities.Given as goal

-- what is left of those to come completes the whole
abbrev pub invariant-loop-community : goal.invariant-loop-community
invariant-loop-community l =
    l.values.items ++ flat_map (to_be_bytes w32) (unstripped (taken_by l.strip) l.community-iterator)
    ≡ l.fn.values.items ++ flat_map (to_be_bytes w32) (unstripped (taken_by l.strip) (quads l.value))
