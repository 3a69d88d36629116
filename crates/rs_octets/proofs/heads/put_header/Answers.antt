use Rattle.std.proofs.Common.{◌∷◌, [], arith}
use Rattle.std.specs.Prelude.{replicate, ◌++◌}
use Rattle.std.specs.Int.{w16, to_be_bytes}
use Rattle.rs_octets.specs.Headers.{type_number}
use Rattle.rs_octets.proofs.Writing.{written}
use Rattle.rs_octets.proofs.heads.put_header.Goals as goal

pub returns-clause-octets : goal.returns-clause-octets
returns-clause-octets c =
    written (replicate 16 255 ++ to_be_bytes w16 c.args.total) (c.number.result ∷ []) (type_number c.args.kind ∷ []) c.args.out.now c.put-end-2.new.out c.put.new.out c.put-end-2.result
    (λ i. c.number.ensures i ∷ []) (omega arith) (omega arith)
    (written (replicate 16 255) c.to_be_bytes.result (to_be_bytes w16 c.args.total) c.args.out.now c.put-end.new.out c.put-end-2.new.out c.put-end.result c.to_be_bytes.ensures (omega arith) (omega arith) c.put-end.ensures.octets c.put-end-2.ensures.octets)
    c.put.ensures.octets
