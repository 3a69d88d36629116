use Rattle.std.proofs.Common.{◌≡◌, Some, None, arith, sym, ap, ◌∙◌}
use Rattle.rs_outlet.specs.Pending.Slots.{open_at, withdrawn_count}
use Rattle.rs_outlet.proofs.Pending.Chains.{none_chained}
use Rattle.rs_outlet.proofs.outlet.Outlet.new.Goals as goal

pub invariant_of-result : goal.invariant_of-result
invariant_of-result c = record {
  octets = c.in_ok-vec.ensures.len ∙ c.room.ensures.value;
  started = omega arith;
  ended = omega arith;
  slots = omega (arith, c.new.ensures.used, ap withdrawn_count c.new-2.ensures.slots);
  extended = λ speech e. cc e;
  backed = λ q w is. absurd (let f : None ≡ Some w = sym (ap (open_at q) c.new-2.ensures.slots) ∙ is in (cc));
  chained = none_chained _ _ _ c.new-2.ensures.chains;
  fit = λ speech e. cc e;
  asked = λ is. cc is;
}
