use Rattle.std.proofs.Common.{◌≡◌, drop, find}
use Rattle.rs_policy.specs.Configuration.{written_out}
use Rattle.rs_policy.specs.Verdicts.{matches}
use Rattle.rs_policy.specs.Judged.{offered}
use Rattle.rs_policy.proofs.rules.verdict.action_of.Given as goal

abbrev pub invariant-loop-item : goal.invariant-loop-item
invariant-loop-item l =
    find (λ rule. matches l.lists rule (offered l.offer)) (written_out l.shared (drop l.item-index l.items))
    ≡ find (λ rule. matches l.lists rule (offered l.offer)) (written_out l.shared l.items)
