-- The routes in a row, as they lie in memory.
use Rattle.std.specs.Prelude.{ℕ, List, [], ◌∷◌}
use Rattle.std.specs.Vec as vec
use Rattle.rs_adjin.specs.declared.routes.Route.{Route}
use Rattle.rs_adjin.specs.declared.row_routes.Routes.{Routes}
use Rattle.rs_adjin.specs.declared.row_routes.Routes.TheVariants as form

-- the list that they are
abbrev pub listed : Routes → List Route
listed form.Empty = []
listed (form.One route) = route ∷ []
listed (form.Many routes) = routes.items

-- the same with this route at a place
abbrev pub with_one : Routes → ℕ → Route → Routes
with_one form.Empty i written = form.Empty
with_one (form.One route) i written = form.One written
with_one (form.Many routes) i written = form.Many (vec.with_item routes i written)
