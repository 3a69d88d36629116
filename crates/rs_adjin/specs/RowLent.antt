-- What a row's routes end as, where they are lent.
use Rattle.std.specs.Prelude.{ℕ, List, slice_set}
use Rattle.std.specs.Borrow.{Lends, MutBor, Fml}
use Rattle.rs_adjin.specs.declared.routes.Route.{Route}
use Rattle.rs_adjin.specs.contracts.row_routes.RowRoutes.{the_row}
use Rattle.rs_adjin.specs.contracts.routes.Route.{the_row as route_row}

abbrev pub LendsRowRoute : MutBor (List Route) → ℕ → MutBor Route → Fml
LendsRowRoute s i r = Lends the_row route_row s r (slice_set s.now i)
