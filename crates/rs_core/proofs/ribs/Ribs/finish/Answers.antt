use Rattle.std.proofs.Common.{refl, subst, sym}
use Rattle.std.specs.FinSet as set
use Rattle.rs_octets.specs.Prefixes.{prefix_order}
use Rattle.rs_core.proofs.Run.KeptFresh.{IsEmptied, emptied}
use Rattle.rs_core.proofs.Run.Loops.{own_set}
use Rattle.rs_core.proofs.ribs.Ribs.finish.Goals as goal

pub returns-clause-kept : goal.returns-clause-kept
returns-clause-kept c =
    emptied c.args.c c.args.self.now _ (record { count = refl; extended = refl; config = refl }) refl
    (own_set c.args.c (λ v w. IsEmptied w) c.args.self.now _ c.index_mut-outlet.result.now c.finish.new.self c.requires refl c.index_mut-outlet.ensures.value
    (subst IsEmptied (sym c.finish.ensures) (record { speech = refl; numbers = refl; stale_touched = λ p out. set.contains-empty prefix_order p })))
