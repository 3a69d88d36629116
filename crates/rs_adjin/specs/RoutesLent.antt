-- What the routes in a row end as, where they are lent.
use Rattle.std.specs.Prelude.{ℕ}
use Rattle.std.specs.Borrow.{Lends, MutBor, Fml}
use Rattle.rs_adjin.specs.declared.routes.Route.{Route}
use Rattle.rs_adjin.specs.declared.row_routes.Routes.{Routes}
use Rattle.rs_adjin.specs.RowRoutes.{with_one}
use Rattle.rs_adjin.specs.contracts.row_routes.Routes.{the_row}
use Rattle.rs_adjin.specs.contracts.routes.Route.{the_row as route_row}

abbrev pub LendsRoute : MutBor Routes → ℕ → MutBor Route → Fml
LendsRoute s i r = Lends the_row route_row s r (with_one s.now i)
