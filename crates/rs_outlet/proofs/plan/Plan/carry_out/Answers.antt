use Rattle.std.proofs.Common.{subst, sym}
use Rattle.rs_outlet.specs.Decided.Plans.{changes_of}
use Rattle.rs_outlet.specs.Pending.CarriedOut.{AreCarriedOut}
use Rattle.rs_outlet.proofs.plan.Plan.carry_out.Goals as goal

pub returns-in-Own-clause-done : goal.returns-in-Own-clause-done
returns-in-Own-clause-done c = subst (λ it. AreCarriedOut (changes_of it) c.args.rows.now c.args.waits.now c.commit.new.rows c.commit.new.waits) (sym c.in-Own.is) c.commit.ensures.done

pub returns-in-Shared-clause-done : goal.returns-in-Shared-clause-done
returns-in-Shared-clause-done c = subst (λ it. AreCarriedOut (changes_of it) c.args.rows.now c.args.waits.now c.commit-in-Shared.new.rows c.commit-in-Shared.new.waits) (sym c.in-Shared.is) c.commit-in-Shared.ensures.done
