use Rattle.std.proofs.Common.{◌≡◌, false, sym, ◌∙◌}
use Rattle.rs_live.proofs.serve.play_round.Goals as goal

pub returns-then-has_failed-clause-err : goal.returns-then-has_failed-clause-err
returns-then-has_failed-clause-err g c e r = c.hand_on.ensures.halted (c.drive_on.ensures.halted (c.loop.invariant.handled r) (sym c.hand_on.ensures.leaves.failed ∙ sym c.has_failed.ensures ∙ c.if-has_failed.true))

pub returns-then-is_over-clause-ok : goal.returns-then-is_over-clause-ok
returns-then-is_over-clause-ok g c e r = let fine : c.hand_on.new.link.has_failed ≡ false = sym c.has_failed.ensures ∙ c.if-has_failed.false in (fine, c.hand_on.ensures.handled (c.drive_on.ensures.handled (c.loop.invariant.handled r) (sym c.hand_on.ensures.leaves.failed ∙ fine)))

pub loop-preserved : goal.loop-preserved
loop-preserved g c = record {
  same_ports = c.hand_on.ensures.leaves.same_ports ∙ c.drive_on.ensures.same_ports ∙ c.loop.invariant.same_ports;
  handled = λ r. let fine : c.hand_on.new.link.has_failed ≡ false = sym c.has_failed.ensures ∙ c.if-has_failed.false in (fine, c.hand_on.ensures.handled (c.drive_on.ensures.handled (c.loop.invariant.handled r) (sym c.hand_on.ensures.leaves.failed ∙ fine)));
}
