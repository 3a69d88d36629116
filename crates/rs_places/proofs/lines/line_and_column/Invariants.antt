use Rattle.std.proofs.Common.{◌≡◌, ◌≤◌, ◌+◌, take}
use Rattle.rs_places.specs.Positions.{place_behind}
use Rattle.rs_places.proofs.lines.line_and_column.Given as goal

-- the place behind the octets that were passed
abbrev pub invariant-loop-octet : goal.invariant-loop-octet
invariant-loop-octet l = record {
  same : (l.line, l.column) ≡ place_behind (take l.octet-index l.octets);
  line : l.line ≤ l.octet-index + 1;
  column : l.column ≤ l.octet-index + 1;
}
