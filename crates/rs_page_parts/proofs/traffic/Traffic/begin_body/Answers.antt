use Rattle.std.proofs.Common.{◌++◌, refl, arith}
use Rattle.rs_octets.specs.Messages.{rest_of}
use Rattle.rs_page_parts.specs.Updates.{any}
use Rattle.rs_page_parts.proofs.Counted.{goes_on, header_on, header_ends}
use Rattle.rs_page_parts.proofs.traffic.Traffic.begin_body.Goals as goal

pub returns-then-length-gt19-clause-counted : goal.returns-then-length-gt19-clause-counted
returns-then-length-gt19-clause-counted c before octets part count same e =
    goes_on before octets part c.args.self.now _ count refl
    (header_on (rest_of any octets ++ part) c.args.self.now.header c.args.head c.from-length.result same (omega arith) e c.from-length.ensures (omega (arith, c.if-length-gt19.true)))

pub returns-else-length-gt19-clause-counted : goal.returns-else-length-gt19-clause-counted
returns-else-length-gt19-clause-counted c before octets part count same e =
    c.end_message.ensures.counted before octets part count
    (header_ends (rest_of any octets ++ part) c.args.self.now.header c.args.head same (omega arith) e (omega (arith, c.from-length.ensures, c.if-length-gt19.false)))
