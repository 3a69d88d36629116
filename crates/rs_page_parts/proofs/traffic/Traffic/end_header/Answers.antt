use Rattle.std.proofs.Common.{◌++◌, refl, sym, ◌∙◌, arith}
use Rattle.rs_octets.specs.Messages.{rest_of}
use Rattle.rs_page_parts.specs.Updates.{any}
use Rattle.rs_page_parts.proofs.Counted.{goes_on, header_refused}
use Rattle.rs_page_parts.proofs.traffic.Traffic.end_header.Goals as goal

pub returns-in-Ok-clause-counted : goal.returns-in-Ok-clause-counted
returns-in-Ok-clause-counted c before octets part count same = c.begin_body.ensures.counted before octets part count same (sym c.header.ensures.value ∙ c.in-Ok.is)

pub returns-in-Err-clause-counted : goal.returns-in-Err-clause-counted
returns-in-Err-clause-counted c before octets part count same =
    goes_on before octets part c.args.self.now _ count refl
    (header_refused (rest_of any octets ++ part) c.args.self.now.header _ same (omega arith) (sym c.header.ensures.value ∙ c.in-Err.is))
