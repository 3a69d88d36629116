use Rattle.rs_outlet.specs.Decided.Due.{due_to}
use Rattle.rs_outlet.specs.Decided.HeldBy.{held_by}
use Rattle.rs_outlet.proofs.Answered.{on_all}
use Rattle.rs_outlet.proofs.turn.decide_one.Goals as goal

pub returns-clause-decided : goal.returns-clause-decided
returns-clause-decided c =
    let s = c.args.sources.now in
    on_all c.list_change.result _ _ (λ rows there. c.list_change.ensures s.ins.now (due_to (held_by s) s.client c.args.speech) rows c.requires.number there c.in_ok-due.ensures.due)
