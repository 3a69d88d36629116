use Rattle.std.proofs.Common.{arith, ◌+◌, ap}
use Rattle.rs_trace.proofs.LineLemmas.{behind_of_rest}
use Rattle.rs_trace.proofs.lines.Lines.take_line.Goals as goal

pub returns-clause-rest : goal.returns-clause-rest
returns-clause-rest c =
    behind_of_rest c.self.inside.buffer.items c.args.self.now.rest c.self.inside.rest_start c.self.inside.rest_end (c.args.size + c.args.end)
    (ap (λ l. l.rest) c.self.view_is) (omega (arith, c.self.invariant)) c.requires
