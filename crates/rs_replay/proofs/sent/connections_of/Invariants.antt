use Rattle.std.proofs.Common.{◌≡◌, [], ℕ, vec_len}
use Rattle.std.specs.Prelude.{Some, slice_get}
use Rattle.rs_attrs.specs.declared.mode.Mode.{Mode}
use Rattle.rs_replay.specs.declared.connection.Connection.{Connection}
use Rattle.rs_replay.specs.Taking.{HasTaken}
use Rattle.rs_replay.proofs.sent.connections_of.Given as goal

abbrev pub invariant-loop-c : goal.invariant-loop-c
invariant-loop-c l = record {
  count : vec_len l.connections ≡ l.c;
  none_taken : (d : ℕ) (connection : Connection) → slice_get l.connections.items d ≡ Some connection → (mode : Mode) → HasTaken mode [] connection;
}
