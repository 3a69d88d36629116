use Rattle.std.proofs.Common.{◌≡◌, ◌<◌, List, arith, get_or, refl, sym, subst}
use Rattle.rs_outlet.specs.Decided.HeldBy.{tables_of}
use Rattle.rs_outlet.specs.Views.{View}
use Rattle.rs_workers.specs.Turned.{TurnedAlone}
use Rattle.rs_workers.proofs.Placing.{walked_on}
use Rattle.rs_workers.proofs.turning.turn_share.Goals as goal

pub loop-k-init : goal.loop-k-init
loop-k-init g c = (λ j d le. refl, λ j d below. absurd (omega (arith, below)), c.new-handover.ensures (tables_of c.args.config.now c.args.tables.now) c.args.tables.now)

pub loop-k-preserved : goal.loop-k-preserved
loop-k-preserved g c =
    let walked =
    walked_on (TurnedAlone c.args.config.now c.args.tables.now) c.args.outlets.now c.loop-k.outlets c.loop-k.k c.index-outlets-k.result c.turn_one.new.outlet
    (subst (λ n. c.loop-k.k < n) (sym c.loop-k.auto.outlets) c.loop-k-test.true) c.turn_one.ensures.turned c.loop-k.invariant.0 c.loop-k.invariant.1 in
    let outlets = sym c.share_at.ensures in (
      λ j d le. subst (λ (xs : List View). get_or xs j d ≡ get_or c.args.outlets.now j d) outlets (walked.0 j d le),
      λ j d below. subst (λ (xs : List View). TurnedAlone c.args.config.now c.args.tables.now (get_or c.args.outlets.now j d) (get_or xs j d)) outlets (walked.1 j d below),
      c.turn_one.ensures.handover,
    )

pub turn_one-requires-clause-handover : goal.turn_one-requires-clause-handover
turn_one-requires-clause-handover g c = c.lend_to.ensures (tables_of c.args.config.now c.args.tables.now) c.args.tables.now c.loop-k.invariant.2
