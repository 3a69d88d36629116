use Rattle.std.proofs.Common.{◌≡◌, ◌++◌, [], ◌∷◌, take}
use Rattle.std.specs.Prelude.{codes, string_bytes}
use Rattle.std.specs.List.{flat_map}
use Rattle.rs_replay.proofs.tables.table_lines.Given as goal

abbrev pub invariant-loop-name : goal.invariant-loop-name
invariant-loop-name l = l.lines.items ≡ flat_map (λ name. (10 ∷ codes "table ") ++ string_bytes name ++ (10 ∷ [])) (take l.name-index l.names)
