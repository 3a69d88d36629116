use Rattle.std.proofs.Common.{◌≡◌, ◌+◌, drop}
use Rattle.rs_core.specs.Touched.Turns.{refused_in}
use Rattle.rs_core.proofs.ribs.Ribs.turns.Given as goal

abbrev pub invariant-loop-outlet : goal.invariant-loop-outlet
invariant-loop-outlet l = (refused_in l.self.outlets.items ≡ l.turns.refused + refused_in (drop l.outlet-index l.self.outlets.items)) × (l.turns.done + l.turns.refused ≡ l.outlet-index)
