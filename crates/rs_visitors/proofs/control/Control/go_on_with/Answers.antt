use Rattle.std.proofs.Common.{option_map, ap, sym, subst, ◌∙◌}
use Rattle.rs_control.specs.Courses.{Serves, Nobody, ComeAndGo, Somebody}
use Rattle.rs_visitors.specs.Callers.{talks_at, talks_with}
use Rattle.rs_visitors.proofs.Talking.{one_goes_on, others_stay}
use Rattle.rs_visitors.proofs.control.Control.go_on_with.Goals as goal

pub returns-in_default : goal.returns-in_default
returns-in_default g c = Nobody c.args.self.now.orders (talks_at c.args.self.now)

pub returns : goal.returns
returns g c =
    let finds = g.P.Pages.finds c.args.server.now.pages.now in
    let writes = g.P.Pages.writes c.args.server.now.pages.now in
    let config = c.args.server.now.config.now in
    let there = sym c.in-Some.ensures.value in
    subst (λ o. Serves finds writes config c.args.self.now.orders (talks_at c.args.self.now) o (talks_at c.let_go.new.self)) (sym (c.let_go.ensures.orders ∙ c.pass_on.ensures.orders))
    (ComeAndGo _ _ _ _ _
    (subst (λ s. Serves finds writes config c.args.self.now.orders (talks_at c.args.self.now) c.go_on.new.orders (talks_with s)) (sym c.pass_on.ensures.callers)
    (Somebody _ _ _ _ _ _ c.args.key c.in-Some.caller.now.talk _ (Nobody c.args.self.now.orders (talks_at c.args.self.now)) (ap (option_map (λ caller. caller.talk)) there) c.go_on.ensures (one_goes_on c.args.self.now.callers c.args.key c.in-Some.caller.now _ there) (others_stay c.args.self.now.callers c.args.key c.in-Some.caller.now _ there)))
    c.let_go.ensures.talks)
