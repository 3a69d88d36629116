use Rattle.std.proofs.Common.{◌≡◌, drop, find}
use Rattle.rs_policy.specs.Verdicts.{matches}
use Rattle.rs_policy.specs.Judged.{offered}
use Rattle.rs_policy.proofs.rules.verdict.action_among.Given as goal

abbrev pub invariant-loop-rule : goal.invariant-loop-rule
invariant-loop-rule l =
    find (λ rule. matches l.lists rule (offered l.offer)) (drop l.rule-index l.rules) ≡ find (λ rule. matches l.lists rule (offered l.offer)) l.rules
