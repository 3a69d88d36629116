use Rattle.std.proofs.Common.{◌≡◌, length, arith, sym, ◌∙◌, subst, true, false}
use Rattle.rs_decision.specs.Exits.{is_left}
use Rattle.rs_decision.proofs.Grouped.{IsFirstLeft, left_takes, left_passes, left_is_none}
use Rattle.rs_decision.proofs.choice.first_left.Goals as goal
use Rattle.rs_decision.proofs.choice.first_left.Goals.{then-is_left+then-precedes_any, else-is_left, else-is_left-via-then-is_left+else-precedes_any, else-is_left-via-else-is_left}

pub loop-i-preserved : goal.loop-i-preserved
loop-i-preserved c = elim c.if-is_left.branch [
  | then-is_left+then-precedes_any w ↦
      left_takes (is_left c.args.exits.now c.args.level.now) c.args.ranks.now c.loop-i.i c.loop-i.left c.if-is_left.left w.left-is c.loop-i-test.true c.loop-i.invariant (sym c.is_left.ensures ∙ w.if-is_left.true)
      (sym w.precedes_any.ensures ∙ w.if-precedes_any.true)
  | else-is_left w ↦
      left_passes (is_left c.args.exits.now c.args.level.now) c.args.ranks.now c.loop-i.i c.loop-i.left c.if-is_left.left w.left-is c.loop-i.invariant
      (λ is. elim w.else-is_left.branch [
        | else-is_left-via-then-is_left+else-precedes_any v ↦ sym v.precedes_any.ensures ∙ v.if-precedes_any.false
        | else-is_left-via-else-is_left v ↦ absurd (let e : true ≡ false = sym is ∙ (sym c.is_left.ensures ∙ v.if-is_left.false) in (cc))
      ])
]

pub returns-clause-none : goal.returns-clause-none
returns-clause-none c none =
    let all : c.loop-i.i ≡ length c.args.ranks.now = omega (arith, c.loop-i.auto.i-end, c.loop-i-test.false) in
    left_is_none (is_left c.args.exits.now c.args.level.now) c.args.ranks.now c.loop-i.left (subst (λ n. IsFirstLeft (is_left c.args.exits.now c.args.level.now) c.args.ranks.now n c.loop-i.left) all c.loop-i.invariant) none
