use Rattle.std.proofs.Common.{◌≡◌, take, refl, sym, subst, ◌∙◌}
use Rattle.rs_streams.specs.Printing.{Goes}
use Rattle.rs_streams.proofs.Printing.{goes_none, goes_piece}
use Rattle.rs_streams.proofs.line_queue.LineQueue.flush.Goals as goal

pub loop-init : goal.loop-init
loop-init g c = record { goes = goes_none g.S.Stream.takes _ _; dropped = refl }

pub returns-then-count-eq0-clause-goes : goal.returns-then-count-eq0-clause-goes
returns-then-count-eq0-clause-goes g c = subst (λ w. Goes g.S.Stream.takes c.args.self.now.stream c.args.self.now.waiting c.give-count.new.self w) (sym c.took.ensures) (goes_piece g.S.Stream.takes _ _ _ _ _ _ c.loop.invariant.goes (subst (λ w. g.S.Stream.takes c.loop.self.stream (take c.give-count.result w) c.give-count.new.self) c.waiting.ensures c.give-count.ensures.takes))

pub loop-preserved : goal.loop-preserved
loop-preserved g c = record {
  goes = subst (λ w. Goes g.S.Stream.takes c.args.self.now.stream c.args.self.now.waiting c.give-count.new.self w) (sym c.took.ensures) (goes_piece g.S.Stream.takes _ _ _ _ _ _ c.loop.invariant.goes (subst (λ w. g.S.Stream.takes c.loop.self.stream (take c.give-count.result w) c.give-count.new.self) c.waiting.ensures c.give-count.ensures.takes));
  dropped = c.loop.invariant.dropped;
}
