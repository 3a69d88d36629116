use Rattle.std.proofs.Common.{rules, subst}
use Rattle.rs_control.specs.Answers.{no_memory}
use Rattle.rs_control.specs.Talks.{IsAnswered, Paid}
use Rattle.rs_control.proofs.talk.Talk.pay.Goals as goal

pub returns-in-Ok : goal.returns-in-Ok
returns-in-Ok c = Paid c.in-Ok.text.items (search rules) c.in-Ok.ensures (subst (λ text. IsAnswered text c.put.new.self) c.deref.ensures.value c.put.ensures.answered) c.put.ensures.owed c.put.ensures.said

pub returns-in-Err : goal.returns-in-Err
returns-in-Err c = Paid no_memory (search rules) (search rules) c.put_no_memory.ensures.answered c.put_no_memory.ensures.owed c.put_no_memory.ensures.said
