use Rattle.std.proofs.Common.{arith, subst, sym}
use Rattle.rs_shown.specs.Shown.{due_last}
use Rattle.rs_shown.proofs.Showing.{begun_due}
use Rattle.rs_page_parts.proofs.Firsts.{AreLeft, passed, found, emptied}
use Rattle.rs_shown.proofs.core_tables.CoreTables.first_sent.Goals as goal

pub loop-prefix-init : goal.loop-prefix-init
loop-prefix-init c = λ run agrees.
    subst (AreLeft (due_last run c.args.member) c.args.at) (sym c.into_iter-prefix-iterator.ensures.into_iter_gives)
    (begun_due c.args.self.now.0.now run c.args.member c.prefix_at.result c.args.at c.routes_from-prefix-items.result c.requires agrees c.prefix_at.ensures.prefix c.prefix_at.ensures.number c.routes_from-prefix-items.ensures.rising c.routes_from-prefix-items.ensures.routes (c.routes_from-prefix-items.ensures.down run agrees))

pub loop-prefix-preserved : goal.loop-prefix-preserved
loop-prefix-preserved c = λ run agrees.
    passed (due_last run c.args.member) c.args.at c.loop-prefix.prefix-iterator c.next.new.self _ _ (c.loop-prefix.invariant run agrees) c.in-Some.ensures.steps (omega arith)

pub returns-then-key-at : goal.returns-then-key-at
returns-then-key-at c = λ run agrees.
    found (due_last run c.args.member) c.args.at c.loop-prefix.prefix-iterator c.next.new.self _ _ (c.loop-prefix.invariant run agrees) c.in-Some.ensures.steps c.key.ensures.prefix (omega arith)

pub returns : goal.returns
returns c = λ run agrees. emptied (due_last run c.args.member) c.args.at c.loop-prefix.prefix-iterator (c.loop-prefix.invariant run agrees) c.in-None.ensures.steps.0
