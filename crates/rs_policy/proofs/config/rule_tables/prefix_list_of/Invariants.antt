use Rattle.std.proofs.Common.{◌≡◌, drop}
use Rattle.std.specs.List.{position, position_from}
use Rattle.std.specs.Prelude.{bytes_eq, ◌&&◌, is_some}
use Rattle.rs_policy.proofs.config.rule_tables.prefix_list_of.Given as goal

abbrev pub invariant-loop-index : goal.invariant-loop-index
invariant-loop-index l = position_from (λ list. bytes_eq list.name l.name && is_some list.prefixes) l.index (drop l.index l.lists) ≡ position (λ list. bytes_eq list.name l.name && is_some list.prefixes) l.lists
