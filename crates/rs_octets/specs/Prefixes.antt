-- What a prefix is: 32 bits and a length, the bits behind the length 0 (RFC 4271, 4.3).
use Rattle.std.specs.Prelude.{◌≡◌, ℕ, ◌+◌, ◌-◌, ◌*◌, ◌/◌, ◌^◌, ◌≤◌, ◌<◌}
use Rattle.std.specs.Ordering.{nat_cmp, ordering_then}
use Rattle.std.specs.declared.cmp.Ordering.{Ordering}

pub record Prefix : Type 0 where
  pub bits : ℕ
  pub len : ℕ

-- the bits, with those behind the length set to 0
abbrev pub masked : ℕ → ℕ → ℕ
masked bits len = bits / 2 ^ (32 - len) * 2 ^ (32 - len)

-- the fewest octets that hold so many bits
abbrev pub octet_count : ℕ → ℕ
octet_count bits = (bits + 7) / 8

-- a prefix that there is
abbrev pub IsIpv4Prefix : Prefix → Type 0
IsIpv4Prefix p = (p.bits < 2 ^ 32) × (p.len ≤ 32) × (masked p.bits p.len ≡ p.bits)

-- prefixes are ordered by their bits as a number, and then by length
abbrev pub prefix_order : Prefix → Prefix → Ordering
prefix_order p q = ordering_then (nat_cmp p.bits q.bits) (nat_cmp p.len q.len)
