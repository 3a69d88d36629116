use Rattle.std.proofs.Common.{◌≡◌, drop}
use Rattle.std.specs.List.{position, position_from}
use Rattle.std.specs.Prelude.{◌==◌}
use Rattle.rs_policy.proofs.config.texts.place_of.Given as goal

abbrev pub invariant-loop-index : goal.invariant-loop-index
invariant-loop-index l = position_from (λ octet. octet == l.mark) l.index (drop l.index l.text) ≡ position (λ octet. octet == l.mark) l.text
