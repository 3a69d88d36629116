use Rattle.std.proofs.Common.{◌≡◌, ◌+◌, drop}
use Rattle.rs_policy.specs.Judged.{offered}
use Rattle.rs_policy.specs.Reasons.{used_from}
use Rattle.rs_policy.specs.Verdicts.{matches}
use Rattle.rs_policy.proofs.Judging.Placed.{found}
use Rattle.rs_policy.proofs.rules.reasons.used_decider.Given as goal

abbrev pub invariant-loop-index : goal.invariant-loop-index
invariant-loop-index l =
    found (λ rule. matches l.lists rule (offered l.offer)) (used_from l.place l.number (l.index + 1) (drop l.index l.used))
    ≡ found (λ rule. matches l.lists rule (offered l.offer)) (used_from l.place l.number 1 l.used)
