use Rattle.std.proofs.Common.{◌≡◌, drop}
use Rattle.std.specs.List.{list_any}
use Rattle.rs_policy.specs.Documents.{is_same}
use Rattle.rs_policy.proofs.config.clients.Client.is_among.Given as goal

abbrev pub invariant-loop-other : goal.invariant-loop-other
invariant-loop-other l = list_any (is_same l.self) (drop l.other-index l.others) ≡ list_any (is_same l.self) l.others
