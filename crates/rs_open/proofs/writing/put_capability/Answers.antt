use Rattle.std.proofs.Common.{◌∷◌, [], ap, length}
use Rattle.rs_octets.proofs.Writing.{writes_then}
use Rattle.rs_open.specs.Walk.{capability_octets}
use Rattle.rs_open.proofs.writing.put_capability.Goals as goal

pub returns-clause-octets : goal.returns-clause-octets
returns-clause-octets c =
    writes_then c.args.at c.put-end.result (c.args.code ∷ length c.args.value.now ∷ []) c.args.value.now (capability_octets c.args.wanted c.args.code c.args.value.now)
    c.args.out.now c.put-end.new.out c.put.new.out
    (ap (λ b. capability_octets b c.args.code c.args.value.now) c.if-not-wanted.false) c.put-end.ensures.end c.requires.room c.put-end.ensures.octets c.put.ensures.octets
