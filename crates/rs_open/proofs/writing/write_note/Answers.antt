use Rattle.std.proofs.Common.{◌≡◌, ◌+◌, ◌-◌, ◌∙◌, ap, take, length, min, arith}
use Rattle.std.proofs.lemmas.List.{take_min, length-take}
use Rattle.rs_open.proofs.Written.{note_written}
use Rattle.rs_open.proofs.writing.write_note.Goals as goal

pub returns-clause-octets : goal.returns-clause-octets
returns-clause-octets c =
    let size : c.note_size-size.result ≡ 21 + length (take c.args.count c.args.extra) = c.note_size-size.ensures.exact in
    let count : c.note_size-size.result - c.put-end.result ≡ min c.args.count (length c.args.extra) =
    omega (arith, size, length-take c.args.count c.args.extra, c.put-end.ensures.end, c.put_header-end.ensures.end) in
    let taken = ap (λ n. take n c.args.extra) count ∙ take_min c.args.count c.args.extra in
    note_written c.note_size-size.result c.args.code c.args.sub c.put_header-end.result c.put-end.result
    (take c.args.count c.args.extra) (take (c.note_size-size.result - c.put-end.result) c.args.extra)
    c.args.out.now c.put_header-end.new.out c.put-end.new.out c.put.new.out
    size taken (omega (arith, c.requires)) c.put_header-end.ensures.end c.put-end.ensures.end
    c.put_header-end.ensures.octets c.put-end.ensures.octets c.put.ensures.octets
