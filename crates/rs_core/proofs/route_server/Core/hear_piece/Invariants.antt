use Rattle.std.proofs.Common.{◌≡◌, ℕ, List, ◌++◌, length}
use Rattle.rs_policy.specs.Configuration.{Configuration}
use Rattle.rs_core.specs.Session.Hearing.{Hearing, hears}
use Rattle.rs_core.specs.Touched.Altering.{IsAlteredBy}
use Rattle.rs_outlet.specs.Views.{View}
use Rattle.rs_core.specs.Touched.Touches.{KeepsTouches}
use Rattle.rs_core.specs.Ribs.{TouchesOthersJustWhere, outlet_in}
use Rattle.rs_core.specs.Run.Parts.{IsBetween}
use Rattle.rs_core.specs.Run.Agreeing.{Spares}
use Rattle.rs_core.proofs.route_server.Core.hear_piece.Given as goal

abbrev pub invariant-loop-octets : goal.invariant-loop-octets
invariant-loop-octets l = record {
  spares : Spares l.c l.fn.self l.self;
  buffers : l.self.buffers ≡ l.fn.self.buffers;
  heard : (before : List ℕ) × (l.piece ≡ before ++ l.octets)
      × ((s : Configuration) (h : Hearing) → l.fn.self.ribs.config ≡ s → IsBetween l.fn.self s l.c h → IsBetween l.self s l.c (hears s l.c before h))
      × ((s : Configuration) (h : Hearing) → l.fn.self.ribs.config ≡ s → IsBetween l.fn.self s l.c h → TouchesOthersJustWhere (IsAlteredBy s l.c before h) l.c l.fn.self.ribs l.self.ribs)
      × ((s : Configuration) (h : Hearing) → l.fn.self.ribs.config ≡ s → IsBetween l.fn.self s l.c h → (none : View) → KeepsTouches (outlet_in l.fn.self.ribs l.c none) (outlet_in l.self.ribs l.c none));
}

abbrev pub decreases-loop-octets : goal.decreases-loop-octets
decreases-loop-octets l = length l.octets
