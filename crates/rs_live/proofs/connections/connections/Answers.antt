use Rattle.std.proofs.Common.{◌≡◌, ℕ, subst, sym}
use Rattle.rs_live.specs.Keeping.{held_by, held_of, nothing}
use Rattle.rs_live.proofs.Places.{nothing_more}
use Rattle.rs_live.proofs.connections.connections.Goals as goal

pub loop-c-preserved : goal.loop-c-preserved
loop-c-preserved c = subst (λ all. (d : ℕ) → held_by d (held_of all) ≡ nothing) (sym c.in_ok-push.ensures.items) (nothing_more c.loop-c.all.items c.in_ok-new.field-0 c.in_ok-new.ensures c.loop-c.invariant)
