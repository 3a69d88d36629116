use Rattle.std.proofs.Common.{◌≡◌, Ok, drop, refl, sym, subst, ◌∙◌}
use Rattle.rs_live.specs.Sending.{taken}
use Rattle.rs_live.proofs.Sending.{breaks_off, unsent, sends}
use Rattle.rs_live.proofs.connections.Connection.write.Goals as goal

pub returns-in_default-clause-sent : goal.returns-in_default-clause-sent
returns-in_default-clause-sent g c ok calls h = unsent g.P.Ports.asked _ _ _ _ h

pub loop-init : goal.loop-init
loop-init g c = record { key = refl; sent = λ calls h. unsent g.P.Ports.asked _ _ _ _ h }

pub returns-then-is_empty-clause-sent : goal.returns-then-is_empty-clause-sent
returns-then-is_empty-clause-sent g c ok calls h = c.loop.invariant.sent calls h

pub returns-in-Ok-None-clause-sent : goal.returns-in-Ok-None-clause-sent
returns-in-Ok-None-clause-sent g c ok calls h = sends g.P.Ports.asked _ _ _ _ _ _ _ _ _ _ c.in-Some.is refl c.waiting.ensures c.in-Ok-None.ensures.asked (subst (λ f. c.loop.self.out ≡ drop (taken (Ok f)) c.loop.self.out) (sym c.in-Ok-None.field-0-is) refl) (c.loop.invariant.sent calls h)

pub returns-in-Err-clause-broke : goal.returns-in-Err-clause-broke
returns-in-Err-clause-broke g c calls h = breaks_off g.P.Ports.asked _ _ _ _ _ _ _ _ _ c.in-Some.is c.waiting.ensures c.in-Err.ensures.asked (c.loop.invariant.sent calls h)

pub loop-preserved : goal.loop-preserved
loop-preserved g c = record {
  key = c.took.ensures.key ∙ c.loop.invariant.key;
  sent = λ calls h. sends g.P.Ports.asked _ _ _ _ _ _ _ _ _ _ c.in-Some.is refl c.waiting.ensures c.in-Ok-Some.ensures.asked (subst (λ f. c.took.new.self.out ≡ drop (taken (Ok f)) c.loop.self.out) (sym c.in-Ok-Some.field-0-is) c.took.ensures.rest) (c.loop.invariant.sent calls h);
}

pub returns-clause-sent : goal.returns-clause-sent
returns-clause-sent g c ok calls h = c.loop.invariant.sent calls h
