use Rattle.std.proofs.Common.{◌≡◌, ◌≤◌, ◌+◌, vec_len}
use Rattle.std.specs.Vec.{vec_capacity}
use Rattle.rs_rows.specs.Blocks.{IsGrown, listed}
use Rattle.rs_rows.proofs.blocks.Blocks.grow.Given as goal

abbrev pub invariant-loop : goal.invariant-loop
invariant-loop l = record {
  grown : IsGrown l.fn.self.items (listed l.self-inside.parts.items).items;
  len : vec_len l.self-inside.parts ≡ vec_len l.initial.self-inside.parts + l.counter;
  room : vec_len l.initial.self-inside.parts + l.more ≤ vec_capacity l.self-inside.parts;
}
