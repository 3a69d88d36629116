-- Prefixes as numbers, by which a page goes on.
use Rattle.std.specs.Prelude.{◌≡◌, ℕ, ◌*◌, ◌+◌}
use Rattle.rs_octets.specs.Prefixes.{Prefix, IsIpv4Prefix}

-- the bits, and in six bits more the length: numbers rise as prefixes do
abbrev pub key_of : Prefix → ℕ
key_of p = p.bits * 64 + p.len

-- there is this prefix, and the number is its own
abbrev pub IsAt : ℕ → Prefix → Type 0
IsAt at p = IsIpv4Prefix p × (key_of p ≡ at)
