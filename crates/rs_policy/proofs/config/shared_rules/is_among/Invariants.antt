use Rattle.std.proofs.Common.{◌≡◌, drop}
use Rattle.std.specs.List.{list_any}
use Rattle.std.specs.Prelude.{bytes_eq}
use Rattle.rs_policy.proofs.config.shared_rules.is_among.Given as goal

abbrev pub invariant-loop-other : goal.invariant-loop-other
invariant-loop-other l = list_any (λ s. bytes_eq l.name s.name) (drop l.other-index l.others) ≡ list_any (λ s. bytes_eq l.name s.name) l.others
