use Rattle.std.proofs.Common.{refl, subst, arith}
use Rattle.rs_octets.specs.Messages.{rest_of}
use Rattle.rs_page_parts.specs.Updates.{any, IsAt}
use Rattle.rs_page_parts.proofs.Counted.{goes_on, body_on, body_ends}
use Rattle.rs_page_parts.proofs.traffic.Traffic.pass_body.Goals as goal

pub returns-then-part-left-clause-counted : goal.returns-then-part-left-clause-counted
returns-then-part-left-clause-counted c before octets is h =
    goes_on before octets c.args.part.now c.args.self.now _ h.count refl
    (body_on c.args.kind c.args.left c.args.self.now.header (rest_of any octets) c.args.part.now (subst (λ r. IsAt r c.args.self.now.header (rest_of any octets)) is h.reading) c.if-part-left.true)

pub returns-else-part-left-clause-counted : goal.returns-else-part-left-clause-counted
returns-else-part-left-clause-counted c before octets is h =
    c.end_message.ensures.counted before octets c.args.part.now h.count
    (body_ends c.args.kind c.args.left c.args.self.now.header (rest_of any octets) c.args.part.now (subst (λ r. IsAt r c.args.self.now.header (rest_of any octets)) is h.reading) (omega (arith, c.requires, c.if-part-left.false)))
