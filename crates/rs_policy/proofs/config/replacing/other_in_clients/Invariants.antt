use Rattle.std.proofs.Common.{◌≡◌, ◌+◌, drop}
use Rattle.rs_policy.specs.Replacing.{other_in_clients}
use Rattle.rs_policy.proofs.config.replacing.other_in_clients.Given as goal

abbrev pub invariant-loop-index : goal.invariant-loop-index
invariant-loop-index l = other_in_clients 1 l.a l.b ≡ other_in_clients (l.index + 1) (drop l.index l.a) (drop l.index l.b)
