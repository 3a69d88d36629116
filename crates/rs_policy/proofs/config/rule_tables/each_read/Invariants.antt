use Rattle.std.proofs.Common.{◌≡◌, ◌++◌, drop, option_map}
use Rattle.rs_policy.specs.Seen.{data_of}
use Rattle.rs_policy.specs.Rules.{each_read}
use Rattle.rs_policy.proofs.config.rule_tables.each_read.Given as goal

abbrev pub invariant-loop-value : goal.invariant-loop-value
invariant-loop-value g l =
    each_read (g.K.Kind.reads l.kind) (data_of l.values)
    ≡ option_map (λ xs. l.patterns.items ++ xs) (each_read (g.K.Kind.reads l.kind) (data_of (drop l.value-index l.values)))
