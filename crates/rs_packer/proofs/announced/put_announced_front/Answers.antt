use Rattle.std.proofs.Common.{[], ◌∷◌, ◌++◌, refl, arith}
use Rattle.std.specs.Int.{w16, to_be_bytes}
use Rattle.rs_octets.specs.declared.heads.Kind.TheVariants.{Update}
use Rattle.rs_octets.specs.Headers.{header_octets}
use Rattle.rs_octets.proofs.Writing.{written}
use Rattle.rs_packer.proofs.announced.put_announced_front.Goals as goal

pub returns-clause-octets : goal.returns-clause-octets
returns-clause-octets c =
    let head = header_octets c.args.total Update in
    written (head ++ (0 ∷ 0 ∷ [])) c.to_be_bytes.result (to_be_bytes w16 c.args.size) c.args.out.now c.put-end.new.out c.put.new.out c.put-end.result c.to_be_bytes.ensures (omega arith) (omega arith)
    (written head (0 ∷ 0 ∷ []) (0 ∷ 0 ∷ []) c.args.out.now c.put_header-end.new.out c.put-end.new.out c.put_header-end.result refl (omega arith) (omega arith) c.put_header-end.ensures.octets c.put-end.ensures.octets)
    c.put.ensures.octets
