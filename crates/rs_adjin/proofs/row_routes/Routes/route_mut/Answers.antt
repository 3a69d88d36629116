use Rattle.std.proofs.Common.{refl}
use Rattle.rs_adjin.proofs.row_routes.Routes.route_mut.Goals as goal

pub returns-in-Many : goal.returns-in-Many
returns-in-Many c =
    let e = rw c.in-Many.is at c.index_mut.ensures in
    rw c.in-Many.is ((refl, λ w. refl), record { writes_back = tt; value = e.value })
