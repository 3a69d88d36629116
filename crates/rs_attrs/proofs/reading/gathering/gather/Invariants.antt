use Rattle.std.proofs.Common.{length}
use Rattle.rs_attrs.proofs.Fields.GatherWalk.{Gathering}
use Rattle.rs_attrs.proofs.reading.gathering.gather.Given as goal

abbrev pub invariant-loop-found : goal.invariant-loop-found
invariant-loop-found l = Gathering l.fn.mode l.fn.field l.came l.kept.items (l.faults, l.faulted) l.rest

abbrev pub decreases-loop-found : goal.decreases-loop-found
decreases-loop-found l = length l.rest
