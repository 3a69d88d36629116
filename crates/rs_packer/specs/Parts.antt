-- The parts in which the code writes a message. No contract of a public call names them.
use Rattle.std.specs.Prelude.{ℕ, List, [], ◌∷◌, ◌++◌, length}
use Rattle.std.specs.Int.{w16, to_be_bytes}
use Rattle.rs_octets.specs.declared.heads.Kind.TheVariants.{Update}
use Rattle.rs_octets.specs.Headers.{header_octets}
use Rattle.rs_octets.specs.Prefixes.{Prefix}
use Rattle.rs_octets.specs.PrefixFields.{prefix_octets}

abbrev pub prefix_size : Prefix → ℕ
prefix_size p = length (prefix_octets p)

-- what stands before the attributes of a message that withdraws nothing
abbrev pub announced_front : ℕ → ℕ → List ℕ
announced_front total size = header_octets total Update ++ (0 ∷ 0 ∷ []) ++ to_be_bytes w16 size

-- what stands before the prefixes of a message that announces none
abbrev pub withdrawn_front : ℕ → ℕ → List ℕ
withdrawn_front total size = header_octets total Update ++ to_be_bytes w16 size
