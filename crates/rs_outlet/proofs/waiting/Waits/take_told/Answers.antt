use Rattle.std.proofs.Common.{◌∙◌, None, ap, cond}
use Rattle.rs_outlet.specs.Pending.Slots.{open_at}
use Rattle.rs_outlet.proofs.Decided.LocByNumber.{same}
use Rattle.rs_outlet.proofs.Pending.Apart.{stands_somewhere}
use Rattle.rs_outlet.proofs.waiting.Waits.take_told.Goals as goal

pub returns-in-Some-clause-slots : goal.returns-in-Some-clause-slots
returns-in-Some-clause-slots c = λ q.
    let ws = c.args.self.now.slots.items in
    let is = c.in-Some.ensures.found in
    c.close-told.ensures.slots is.wait is.at (stands_somewhere c.args.prefix.now ws is.wait is.stands).2 q ∙ ap (λ p. cond (same q p) None (open_at q ws)) is.prefix
