use Rattle.std.proofs.Common.{◌+◌, ◌∷◌, [], ◌∙◌, ℕ, refl, ap, subst, arith}
use Rattle.std.specs.Prelude.{◌++◌}
use Rattle.byteorder.specs.Endian.{big_bytes}
use Rattle.rs_octets.specs.Writes.{Writes}
use Rattle.rs_octets.specs.declared.heads.Kind.TheVariants as kinds
use Rattle.rs_octets.specs.Headers.{header_octets}
use Rattle.rs_octets.proofs.Writing.{written}
use Rattle.rs_open.specs.Writing.{my_as_said}
use Rattle.rs_open.proofs.writing.put_open_front.Goals as goal

pub returns-clause-octets : goal.returns-clause-octets
returns-clause-octets c =
    let said = c.args.said.now in
    let size = c.args.capabilities in
    let old = c.args.out.now in
    let head = header_octets (31 + size) kinds.Open in
    let version = head ++ 4 ∷ [] in
    let my_as = version ++ big_bytes 2 (my_as_said said.server_as) in
    let hold = my_as ++ big_bytes 2 said.hold in
    let identifier = hold ++ big_bytes 4 said.identifier in
    let first : Writes 0 head old c.put_header-end.new.out =
    let P : ℕ → Type 0 = λ n. Writes 0 (header_octets (31 + n) kinds.Open) old c.put_header-end.new.out in subst P c.from.ensures c.put_header-end.ensures.octets in
    let last = (2 + size) ∷ 2 ∷ size ∷ [] in
    written identifier last last old c.put-end-4.new.out c.put.new.out c.put-end-4.result refl (omega arith) (omega arith)
    (written hold c.to_be_bytes-3.result (big_bytes 4 said.identifier) old c.put-end-3.new.out c.put-end-4.new.out c.put-end-3.result c.to_be_bytes-3.ensures (omega arith) (omega arith)
    (written my_as c.to_be_bytes-2.result (big_bytes 2 said.hold) old c.put-end-2.new.out c.put-end-3.new.out c.put-end-2.result c.to_be_bytes-2.ensures (omega arith) (omega arith)
    (written version c.to_be_bytes.result (big_bytes 2 (my_as_said said.server_as)) old c.put-end.new.out c.put-end-2.new.out c.put-end.result
    (c.to_be_bytes.ensures ∙ ap (big_bytes 2) c.my_as.ensures) (omega arith) (omega arith)
    (written head (4 ∷ []) (4 ∷ []) old c.put_header-end.new.out c.put-end.new.out c.put_header-end.result refl (omega arith) (omega arith)
    first c.put-end.ensures.octets)
    c.put-end-2.ensures.octets) c.put-end-3.ensures.octets) c.put-end-4.ensures.octets) c.put.ensures.octets
