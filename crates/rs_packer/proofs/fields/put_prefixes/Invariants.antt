use Rattle.std.proofs.Common.{◌≡◌, ◌+◌, take, length}
use Rattle.rs_octets.specs.Writes.{Writes}
use Rattle.rs_packer.specs.Packed.{prefixes_octets}
use Rattle.rs_packer.proofs.fields.put_prefixes.Given as goal

abbrev pub invariant-loop-prefix : goal.invariant-loop-prefix
invariant-loop-prefix l =
    (l.end ≡ l.at + length (prefixes_octets (take l.prefix-index l.prefixes)))
    × Writes l.at (prefixes_octets (take l.prefix-index l.prefixes)) l.fn.out l.out
