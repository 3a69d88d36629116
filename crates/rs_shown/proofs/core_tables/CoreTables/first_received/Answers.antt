use Rattle.std.proofs.Common.{arith, subst, sym}
use Rattle.rs_core.specs.Run.Meaning.{table}
use Rattle.rs_page_parts.proofs.Firsts.{AreLeft, begun, passed, found, emptied}
use Rattle.rs_shown.proofs.core_tables.CoreTables.first_received.Goals as goal

pub loop-prefix-init : goal.loop-prefix-init
loop-prefix-init c = λ run agrees.
    subst (AreLeft (table run c.args.member) c.args.at) (sym c.into_iter-prefix-iterator.ensures.into_iter_gives)
    (begun (table run c.args.member) c.prefix_at.result c.args.at c.received_from-prefix-items.result c.prefix_at.ensures.prefix c.prefix_at.ensures.number c.received_from-prefix-items.ensures.rising (c.received_from-prefix-items.ensures.routes run agrees))

pub loop-prefix-preserved : goal.loop-prefix-preserved
loop-prefix-preserved c = λ run agrees.
    passed (table run c.args.member) c.args.at c.loop-prefix.prefix-iterator c.next.new.self _ _ (c.loop-prefix.invariant run agrees) c.in-Some.ensures.steps (omega arith)

pub returns-then-key-at : goal.returns-then-key-at
returns-then-key-at c = λ run agrees.
    found (table run c.args.member) c.args.at c.loop-prefix.prefix-iterator c.next.new.self _ _ (c.loop-prefix.invariant run agrees) c.in-Some.ensures.steps c.key.ensures.prefix (omega arith)

pub returns : goal.returns
returns c = λ run agrees. emptied (table run c.args.member) c.args.at c.loop-prefix.prefix-iterator (c.loop-prefix.invariant run agrees) c.in-None.ensures.steps.0
