use Rattle.std.proofs.Common.{◌≡◌, drop}
use Rattle.std.specs.List.{list_all}
use Rattle.toml.specs.View.{view}
use Rattle.rs_policy.specs.Values.{is_table}
use Rattle.rs_policy.proofs.config.arrays.are_tables.Given as goal

abbrev pub invariant-loop-value : goal.invariant-loop-value
invariant-loop-value l = list_all (λ v. is_table (view v)) (drop l.value-index l.values) ≡ list_all (λ v. is_table (view v)) l.values
