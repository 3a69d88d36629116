-- An UPDATE is one whole message of its type, so it is heard.
use Rattle.std.proofs.Common.{ℕ, ◌≤◌, List, ◌++◌, length, refl, arith, length-append}
use Rattle.rs_octets.specs.declared.heads.Allowed.{Allowed}
use Rattle.rs_octets.specs.declared.heads.Kind.TheVariants.{Update}
use Rattle.rs_octets.specs.Headers.{longest}
use Rattle.rs_octets.specs.Messages.{IsMessageOf}
use Rattle.rs_octets.specs.Prefixes.{Prefix}
use Rattle.rs_octets.proofs.GoodHeaders.{written_is_message}
use Rattle.rs_attrs.specs.Effects.{behind_its_length}
use Rattle.rs_packer.specs.Packed.{prefixes_octets, update, update_body}

pub update_is_message : (allowed : Allowed) (withdrawn : List Prefix) (attributes : List ℕ) (nlri : List Prefix)
    → length (update withdrawn attributes nlri) ≤ longest allowed → IsMessageOf allowed Update (update withdrawn attributes nlri)
update_is_message allowed withdrawn attributes nlri fits =
    let fields = length-append (prefixes_octets withdrawn) (behind_its_length attributes) in
    let all = length-append (prefixes_octets withdrawn ++ behind_its_length attributes) (prefixes_octets nlri) in
    written_is_message allowed Update (update_body withdrawn attributes nlri) refl (omega arith) (omega (arith, fits))
