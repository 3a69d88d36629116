use Rattle.std.proofs.Common.{◌≡◌, ◌+◌, drop}
use Rattle.rs_policy.specs.Judged.{offered}
use Rattle.rs_policy.specs.Reasons.{placed_from}
use Rattle.rs_policy.specs.Verdicts.{matches}
use Rattle.rs_policy.proofs.Judging.Placed.{found}
use Rattle.rs_policy.proofs.rules.reasons.first_decider.Given as goal

abbrev pub invariant-loop-index : goal.invariant-loop-index
invariant-loop-index l =
    found (λ rule. matches l.lists rule (offered l.offer)) (placed_from l.shared (l.index + 1) (drop l.index l.items))
    ≡ found (λ rule. matches l.lists rule (offered l.offer)) (placed_from l.shared 1 l.items)
