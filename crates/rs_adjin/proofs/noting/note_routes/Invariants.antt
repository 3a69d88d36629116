use Rattle.std.proofs.Common.{◌≡◌, ◌++◌, map, take, drop}
use Rattle.rs_adjin.specs.Noting.{with_note}
use Rattle.rs_adjin.proofs.noting.note_routes.Given as goal

abbrev pub invariant-loop-route : goal.invariant-loop-route
invariant-loop-route g l = l.routes ≡ map (with_note (λ c m. g.N.Notes.note_by l.notes c l.prefix m)) (take l.route-index l.fn.routes) ++ drop l.route-index l.fn.routes
