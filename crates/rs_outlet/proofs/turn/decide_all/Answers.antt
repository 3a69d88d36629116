use Rattle.std.proofs.Common.{◌≡◌, ◌<◌, ℕ, Some, true, arith, subst, sym}
use Rattle.rs_octets.specs.Prefixes.{Prefix}
use Rattle.rs_adjin.specs.AdjIns.{number_of}
use Rattle.rs_outlet.specs.declared.turn.Decided.{Decided}
use Rattle.rs_outlet.specs.Decided.Counted.{is_counted}
use Rattle.rs_outlet.specs.Decided.Due.{any_holds, due_to}
use Rattle.rs_outlet.specs.Decided.HeldBy.{held_by}
use Rattle.rs_outlet.specs.Decided.Plans.{IsPlanned}
use Rattle.rs_outlet.specs.Views.{IsNumberOf}
use Rattle.rs_outlet.proofs.turn.decide_all.Goals as goal
use Rattle.rs_outlet.proofs.turn.decide_all.Goals.{then-idle+then-used-eq0+in_ok-decided, else-idle+in_ok-decided-2}

pub returns-clause-plan : goal.returns-clause-plan
returns-clause-plan c =
    let s = c.args.sources.now in
    let due_at = due_to (held_by s) s.client c.args.speech in
    let rows = c.args.rows.now.rows.items in
    let below : (p : Prefix) (n : ℕ) → number_of s.ins.now p ≡ Some n → n < c.in-Ok.numbers = λ p n at. let low = c.numbers.ensures p n at in omega (arith, low, c.in-Ok.ensures) in
    elim c.if-idle.branch [
      | then-idle+then-used-eq0+in_ok-decided w ↦
          subst (λ b. IsPlanned s.ins.now due_at rows (λ number. true) b c.if-idle.decided.plan) (sym w.if-idle.true)
          (subst (λ (it : Decided). IsPlanned s.ins.now due_at rows (λ number. true) true it.plan) (sym w.decided-is) (w.in_ok-decided.ensures.plan below))
      | else-idle+in_ok-decided-2 w ↦
          subst (λ (it : Decided). IsPlanned s.ins.now due_at rows (λ number. true) c.args.idle it.plan) (sym w.decided-is) (w.in_ok-decided-2.ensures.plan c.args.idle below)
    ]

pub returns-clause-count : goal.returns-clause-count
returns-clause-count c =
    let s = c.args.sources.now in
    let is_in = is_counted s.ins.now c.args.rows.now.rows.items (any_holds (held_by s)) in
    let below : (p : Prefix) (n : ℕ) → number_of s.ins.now p ≡ Some n → n < c.in-Ok.numbers = λ p n at. let low = c.numbers.ensures p n at in omega (arith, low, c.in-Ok.ensures) in
    elim c.if-idle.branch [
      | then-idle+then-used-eq0+in_ok-decided w ↦
          subst (λ (it : Decided). IsNumberOf is_in it.count) (sym w.decided-is) (w.in_ok-decided.ensures.count below)
      | else-idle+in_ok-decided-2 w ↦
          subst (λ (it : Decided). IsNumberOf is_in it.count) (sym w.decided-is) (w.in_ok-decided-2.ensures.count below)
    ]
