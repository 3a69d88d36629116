use Rattle.rs_outlet.proofs.Message.Chosen.{pushed}
use Rattle.rs_outlet.proofs.waiting.choosing.list_slot.Goals as goal

pub returns-clause-are : goal.returns-clause-are
returns-clause-are c = λ rows ws said are is. pushed rows ws said _ _ _ _ c.args.slot c.args.prefix c.push_reserved.ensures.items c.push_reserved-2.ensures.items are is
