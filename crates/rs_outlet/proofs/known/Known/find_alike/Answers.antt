use Rattle.rs_outlet.proofs.Decided.Precedents.{listed_too}
use Rattle.rs_outlet.proofs.known.Known.find_alike.Goals as goal

pub returns-in-None-clause-due : goal.returns-in-None-clause-due
returns-in-None-clause-due c = λ t ins client speech known.
    c.listed_whole.ensures.due t ins client speech (listed_too t ins known.other client speech c.args.self.now.changes.now c.args.self.now.wholes.now (known.same c.in-None.is) known.listed)
