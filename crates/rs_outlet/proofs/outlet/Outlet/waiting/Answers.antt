use Rattle.std.proofs.Common.{◌≡◌, ◌∙◌, sym, ap, subst}
use Rattle.std.specs.FinMap as map
use Rattle.rs_outlet.specs.Views.{View}
use Rattle.rs_outlet.proofs.Pending.Draining.{waits_drained, empty_open}
use Rattle.rs_outlet.proofs.outlet.Outlet.waiting.Goals as goal

pub returns-clause-none : goal.returns-clause-none
returns-clause-none c = λ z. subst (λ (v : View). v.waits ≡ map.empty) c.self.view_is (waits_drained c.self.inside.waits.slots.items (sym c.len.ensures ∙ z))

pub returns-clause-some : goal.returns-clause-some
returns-clause-some c = λ e. c.len.ensures ∙ empty_open c.self.inside.waits.slots.items (ap (λ (v : View). v.waits) c.self.view_is ∙ e)
