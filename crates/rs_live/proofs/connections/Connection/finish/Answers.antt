use Rattle.std.proofs.Common.{refl, subst, ap}
use Rattle.rs_live.specs.Keeping.{with_rest}
use Rattle.rs_live.specs.Handled.{Has, AreKept}
use Rattle.rs_live.proofs.Places.{at_place, below_change, change_again}
use Rattle.rs_live.proofs.Handling.Writing.{drops, rests_written}
use Rattle.rs_live.proofs.connections.Connection.finish.Goals as goal

pub returns-in-Err : goal.returns-in-Err
returns-in-Err g c = record { kept = λ d held phase below e o h. drops g.P.Ports.asked held phase d _ _ _ _ _ _ _ _ _ e o c.in-Err.ensures.broke c.close.ensures c.forget.ensures.now c.forget.ensures.empty h }

pub returns-else-is_over : goal.returns-else-is_over
returns-else-is_over g c = record { kept = λ d held phase below e o h. rests_written g.P.Ports.asked held phase d _ _ _ _ _ _ e o c.write.ensures.key (c.in-Ok.ensures.sent refl) h }

pub returns-in-Ok : goal.returns-in-Ok
returns-in-Ok g c = record {
  kept = λ d held phase below e o h.
      let f = with_rest c.write.new.self.key c.write.new.self.out in
      let last = with_rest c.close-in-Ok.new.self.key c.close-in-Ok.new.self.out in
      let there = at_place f held d below in
      subst (λ hs. Has g.P.Ports.asked c.close-in-Ok.new.ports (AreKept hs phase)) (change_again f last last held d (λ x. refl))
      (c.close-in-Ok.ensures.kept d _ phase (below_change f held d below) (ap (λ x. x.rest_key) there) (ap (λ x. x.rest) there)
      (rests_written g.P.Ports.asked held phase d _ _ _ _ _ _ e o c.write.ensures.key (c.in-Ok.ensures.sent refl) h));
}
