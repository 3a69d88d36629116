use Rattle.std.proofs.Common.{◌≡◌, take, sym, subst}
use Rattle.rs_streams.specs.Printing.{Goes}
use Rattle.rs_streams.proofs.Printing.{goes_none, goes_piece}
use Rattle.rs_streams.proofs.record_file.RecordFile.step.Goals as goal

pub returns-then-count-eq0 : goal.returns-then-count-eq0
returns-then-count-eq0 g c = record { goes = subst (λ w. Goes g.S.Stream.takes c.args.self.now.file c.args.self.now.queue c.give-count.new.self w) (sym c.took.ensures) (goes_piece g.S.Stream.takes _ _ _ _ _ _ (goes_none g.S.Stream.takes _ _) (subst (λ w. g.S.Stream.takes c.args.self.now.file (take c.give-count.result w) c.give-count.new.self) c.waiting-waiting.ensures c.give-count.ensures.takes)) }

pub returns : goal.returns
returns g c = record { goes = subst (λ w. Goes g.S.Stream.takes c.args.self.now.file c.args.self.now.queue c.give-count.new.self w) (sym c.took.ensures) (goes_piece g.S.Stream.takes _ _ _ _ _ _ (goes_none g.S.Stream.takes _ _) (subst (λ w. g.S.Stream.takes c.args.self.now.file (take c.give-count.result w) c.give-count.new.self) c.waiting-waiting.ensures c.give-count.ensures.takes)) }
