use Rattle.std.proofs.Common.{[], refl, subst, sym}
use Rattle.std.specs.List.{IsDistinct}
use Rattle.rs_outlet.specs.Decided.Touching.{AreOnce}
use Rattle.rs_outlet.proofs.ordered.Ordered.new.Goals as goal

none_once : AreOnce [] []
unfolding IsDistinct
none_once = record { once = tt; same = λ n. refl; numbered = λ ins are. are }

pub invariant_of-result : goal.invariant_of-result
invariant_of-result c =
    record { once = subst (λ xs. AreOnce xs c.new-2.result.items) (sym c.new.ensures.items) (subst (λ xs. AreOnce [] xs) (sym c.new-2.ensures.items) none_once) }
