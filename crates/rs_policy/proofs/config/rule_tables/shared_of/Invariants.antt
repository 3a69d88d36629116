use Rattle.std.proofs.Common.{◌≡◌, drop}
use Rattle.std.specs.List.{position, position_from}
use Rattle.std.specs.Prelude.{bytes_eq, ◌&&◌}
use Rattle.rs_policy.specs.Documents.{may_stand}
use Rattle.rs_policy.proofs.config.rule_tables.shared_of.Given as goal

abbrev pub invariant-loop-index : goal.invariant-loop-index
invariant-loop-index l = position_from (λ used. bytes_eq used.name l.name && may_stand l.receiver used.rules) l.index (drop l.index l.shared) ≡ position (λ used. bytes_eq used.name l.name && may_stand l.receiver used.rules) l.shared
