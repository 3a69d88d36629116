use Rattle.std.proofs.Common.{refl, subst, sym}
use Rattle.rs_core.proofs.Run.KeptFresh.{IsAsDecided, as_decided}
use Rattle.rs_core.proofs.Run.Loops.{own_set}
use Rattle.rs_core.proofs.ribs.Ribs.say_open.Goals as goal

pub returns-clause-kept : goal.returns-clause-kept
returns-clause-kept c =
    as_decided c.args.c c.args.self.now _ (record { count = refl; extended = refl; config = refl }) refl
    (own_set c.args.c IsAsDecided c.args.self.now _ c.index_mut-outlet.result.now c.say_open.new.self c.requires refl c.index_mut-outlet.ensures.value
    (subst (IsAsDecided c.index_mut-outlet.result.now) (sym c.say_open.ensures) (record { speech = refl; loc = refl; touched = refl; stale = refl; numbers = refl })))
