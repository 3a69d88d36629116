use Rattle.std.proofs.Common.{◌≡◌, drop}
use Rattle.std.specs.List.{position, position_from}
use Rattle.std.specs.Prelude.{bytes_eq}
use Rattle.rs_policy.proofs.config.rule_tables.place_of.Given as goal

abbrev pub invariant-loop-index : goal.invariant-loop-index
invariant-loop-index l = position_from (λ client. bytes_eq client.name l.name) l.index (drop l.index l.clients) ≡ position (λ client. bytes_eq client.name l.name) l.clients
