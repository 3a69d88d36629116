use Rattle.rs_workers.proofs.sharing.lend_to.Goals as goal

pub returns-in-Some-get : goal.returns-in-Some-get
returns-in-Some-get c = λ t ins h. c.lend_blocks.ensures t ins (c.take_back.ensures t ins h)
