use Rattle.std.proofs.Common.{inl, inr, sym, ◌∙◌, subst}
use Rattle.rs_octets.specs.Fronts.{IsFront}
use Rattle.rs_core.proofs.Session.Filling.{not_wanted}
use Rattle.rs_core.proofs.Run.Lists.{none_are}
use Rattle.rs_core.proofs.hearing.fill_up.Goals as goal

pub returns-in_default : goal.returns-in_default
returns-in_default c = record {
  front = c.loop-allowed.invariant.0;
  whole = c.loop-allowed.invariant.1;
  behind = c.loop-allowed.invariant.2;
  wanted = c.loop-allowed.invariant.3;
  enough = inr (not_wanted c.args.allowed c.loop-allowed.buffer.items c.read_front.result (subst (λ o. IsFront c.args.allowed o c.read_front.result) c.deref.ensures.value c.read_front.ensures.front) c.in_default.not-Wants);
}

pub returns : goal.returns
returns c = record {
  front = c.loop-allowed.invariant.0;
  whole = c.loop-allowed.invariant.1;
  behind = c.loop-allowed.invariant.2;
  wanted = c.loop-allowed.invariant.3;
  enough = inl (none_are c.loop-allowed.rest.now (sym c.is_empty.ensures ∙ c.loop-allowed-test.false));
}
