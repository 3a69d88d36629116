use Rattle.std.proofs.Common.{◌<◌, ◌+◌, ◌*◌, ℕ}
use Rattle.rs_outlet.specs.Decided.HeldBy.{held_by}
use Rattle.rs_outlet.specs.Decided.Precedents.{ServesAt}
use Rattle.rs_outlet.proofs.known.Asked.serves_whole.Given as goal

abbrev pub invariant-loop-index : goal.invariant-loop-index
invariant-loop-index l = (j : ℕ) → j < l.index → ServesAt (held_by l.sources) l.sources.ins.now l.sources.client l.self (l.whole.place * 16 + j)
