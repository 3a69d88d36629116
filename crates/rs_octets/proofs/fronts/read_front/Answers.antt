use Rattle.std.proofs.Common.{List, ℕ, length, sym, drop, take, ◌+◌, ◌-◌, ◌≡◌, ◌∙◌, ap}
use Rattle.std.proofs.Math.Seq.{take-length}
use Rattle.std.proofs.lemmas.List.{length-drop}
use Rattle.rs_octets.proofs.Fronting.{message_begins, message_sizes}
use Rattle.rs_octets.proofs.fronts.read_front.Goals as goal

-- the body is all behind the header
body : (message : List ℕ) → take (length message - 19) (drop 19 message) ≡ drop 19 message
body message = ap (λ n. take n (drop 19 message)) (sym (length-drop 19 message)) ∙ take-length (drop 19 message)

pub returns-clause-front : goal.returns-clause-front
returns-clause-front c =
    let chunk = c.in-Some.ensures.cases in
    let message = c.split_at.result.0.now in
    message_begins c.args.allowed c.args.octets.now c.in-Some.head.now message _ c.split_at.result.1.now c.in-Ok.head c.from-length.result chunk.enough chunk.same
    (sym c.header.ensures.value ∙ c.in-Ok.is) c.from-length.ensures c.if-octets-length.false c.split_at.ensures.front (body message) c.split_at.ensures.back

pub returns-clause-sizes : goal.returns-clause-sizes
returns-clause-sizes c =
    let message = c.split_at.result.0.now in
    let rest = c.split_at.result.1.now in
    message_sizes c.in-Ok.head.kind c.args.octets.now message _ rest c.in-Ok.head.length c.in-Ok.ensures.length.0
    (c.split_at.ensures.front_len ∙ c.from-length.ensures) (body message) (ap (λ n. length rest + n) (sym c.from-length.ensures) ∙ c.split_at.ensures.back_len)
