use Rattle.std.proofs.Common.{arith}
use Rattle.rs_outlet.proofs.Pending.TwoParts.{first_whole}
use Rattle.rs_outlet.proofs.waiting.Waits.make_one_part.Goals as goal

pub returns-then-self-len-clause-rises : goal.returns-then-self-len-clause-rises
returns-then-self-len-clause-rises c = first_whole c.args.self.now.sorted c.args.self.now.slots.items (omega (arith, c.if-self-len.true, c.args.self.now.slots.ok)) c.args.self.now.first
