use Rattle.std.proofs.Common.{◌≡◌, sym, ◌∙◌, true, false}
use Rattle.rs_decision.proofs.Compared.{next_begins, next_takes, next_passes, none_after}
use Rattle.rs_decision.specs.Rank.{precedes}
use Rattle.rs_decision.proofs.choice.next_after.Goals as goal
use Rattle.rs_decision.proofs.choice.next_after.Goals.{then-precedes+then-precedes-2, else-precedes, else-precedes-via-then-precedes+else-precedes-2, else-precedes-via-else-precedes}

pub returns-in_err-start-clause-none : goal.returns-in_err-start-clause-none
returns-in_err-start-clause-none c none = none_after (λ r. precedes c.args.from.now r) c.args.ranks.now (sym c.in_err-start.ensures)

pub loop-i-init : goal.loop-i-init
loop-i-init c = next_begins c.args.ranks.now c.args.from.now c.in_ok-start.start (sym c.in_ok-start.ensures)

pub loop-i-preserved : goal.loop-i-preserved
loop-i-preserved c = elim c.if-precedes.branch [
  | then-precedes+then-precedes-2 w ↦
      next_takes c.args.ranks.now c.args.from.now c.loop-i.next c.loop-i.i c.if-precedes.next w.next-is c.loop-i.invariant c.loop-i-test.true (sym c.precedes.ensures ∙ w.if-precedes.true)
      (sym w.precedes-then-precedes.ensures ∙ w.if-precedes-2.true)
  | else-precedes w ↦
      next_passes c.args.ranks.now c.args.from.now c.loop-i.next c.loop-i.i c.if-precedes.next w.next-is c.loop-i.invariant
      (λ after. elim w.else-precedes.branch [
        | else-precedes-via-then-precedes+else-precedes-2 v ↦ absurd (let e : true ≡ false = sym after ∙ (sym v.precedes-then-precedes.ensures ∙ v.if-precedes-2.false) in (cc))
        | else-precedes-via-else-precedes v ↦ sym c.precedes.ensures ∙ v.if-precedes.false
      ])
]
