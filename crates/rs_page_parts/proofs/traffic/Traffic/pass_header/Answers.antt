use Rattle.std.proofs.Common.{◌++◌, take, refl, sym, ap, subst, ◌∙◌, arith}
use Rattle.std.proofs.Math.Seq.{take-length}
use Rattle.rs_octets.specs.Messages.{rest_of}
use Rattle.rs_page_parts.specs.Updates.{any, IsAt}
use Rattle.rs_page_parts.proofs.Counted.{goes_on, written_front}
use Rattle.rs_page_parts.proofs.traffic.Traffic.pass_header.Goals as goal

pub returns-then-end-lt19-clause-counted : goal.returns-then-end-lt19-clause-counted
returns-then-end-lt19-clause-counted c before octets is h =
    let at = subst (λ r. IsAt r c.args.self.now.header (rest_of any octets)) is h.reading in
    goes_on before octets c.args.part.now c.args.self.now _ h.count refl (
      c.if-end-lt19.true,
      ap (λ front. front ++ c.args.part.now) at.1 ∙ written_front c.args.count c.args.part.now c.args.self.now.header c.put-end.new.out (omega (arith, c.requires)) c.put-end.ensures.octets
          ∙ ap (λ n. take n c.put-end.new.out) (sym c.put-end.ensures.end),
    )

pub returns-else-end-lt19-clause-counted : goal.returns-else-end-lt19-clause-counted
returns-else-end-lt19-clause-counted c before octets is h =
    let at = subst (λ r. IsAt r c.args.self.now.header (rest_of any octets)) is h.reading in
    c.end_header.ensures.counted before octets c.args.part.now h.count
    (ap (λ front. front ++ c.args.part.now) at.1 ∙ written_front c.args.count c.args.part.now c.args.self.now.header c.put-end.new.out (omega (arith, c.requires)) c.put-end.ensures.octets
    ∙ ap (λ n. take n c.put-end.new.out) (omega (arith, c.requires, c.put-end.ensures.end, c.if-end-lt19.false)) ∙ take-length c.put-end.new.out)
