use Rattle.std.proofs.Common.{◌+◌, ◌∷◌, ◌∙◌, [], length, length-append, sym, arith}
use Rattle.std.proofs.lemmas.Bool.{le-leb, leb-true}
use Rattle.rs_octets.specs.PrefixFields.{prefix_octets}
use Rattle.rs_attrs.specs.Writing.{spelt}
use Rattle.rs_packer.specs.Packed.{announcement}
use Rattle.rs_packer.proofs.Announcing.{update_length}
use Rattle.rs_packer.proofs.announced.fits.Goals as goal

pub returns-then-has_room : goal.returns-then-has_room
returns-then-has_room c =
    let p = c.args.prefix.now in
    let room = leb-true (23 + c.size_at_most.result + length (prefix_octets p)) c.args.limit (sym c.has_room.ensures ∙ c.if-has_room.true) in
    let whole = update_length (spelt c.args.attrs.now c.args.mode) (p ∷ []) in
    sym (le-leb (length (announcement c.args.attrs.now c.args.mode (p ∷ []))) c.args.limit (omega (arith, room, whole, length-append (prefix_octets p) [], c.size_at_most.ensures.most)))
