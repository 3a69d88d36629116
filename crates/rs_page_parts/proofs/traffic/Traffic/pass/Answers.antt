use Rattle.std.proofs.Common.{◌++◌, refl, sym, subst, ap, arith}
use Rattle.rs_octets.specs.Messages.{rest_of}
use Rattle.rs_page_parts.specs.Updates.{any, IsAt, most_behind}
use Rattle.rs_page_parts.proofs.Counted.{goes_on, refused_on}
use Rattle.rs_page_parts.proofs.traffic.Traffic.pass.Goals as goal

pub pass_header-requires : goal.pass_header-requires
pass_header-requires c = omega (arith, c.requires, ap most_behind c.in-Header.is, c.args.self.now.goes_on)

pub pass_body-requires : goal.pass_body-requires
pass_body-requires c = omega (arith, c.requires, ap most_behind c.in-Body.is)

pub returns-in-Header-clause-counted : goal.returns-in-Header-clause-counted
returns-in-Header-clause-counted c before octets h = c.pass_header.ensures.counted before octets c.in-Header.is h

pub returns-in-Body-clause-counted : goal.returns-in-Body-clause-counted
returns-in-Body-clause-counted c before octets h = c.pass_body.ensures.counted before octets c.in-Body.is h

pub returns-in-Refused-clause-counted : goal.returns-in-Refused-clause-counted
returns-in-Refused-clause-counted c before octets h =
    goes_on before octets c.args.part.now c.args.self.now c.args.self.now h.count refl
    (subst (λ r. IsAt r c.args.self.now.header (rest_of any octets ++ c.args.part.now)) (sym c.in-Refused.is)
    (refused_on c.args.self.now.header (rest_of any octets) c.args.part.now (subst (λ r. IsAt r c.args.self.now.header (rest_of any octets)) c.in-Refused.is h.reading)))
