-- UPDATE messages as octets, and the longest front of a list that fits into one (RFC 4271, 4.1 and 4.3).
use Rattle.std.specs.Prelude.{◌≡◌, ℕ, suc, ◌+◌, ◌-◌, ◌<◌, ◌≤◌, List, [], ◌∷◌, ◌++◌, length, take, nat_le, if◌then◌else◌}
use Rattle.std.specs.List.{flat_map}
use Rattle.rs_octets.specs.declared.heads.Kind.TheVariants.{Update}
use Rattle.rs_octets.specs.Messages.{message_octets}
use Rattle.rs_octets.specs.Prefixes.{Prefix}
use Rattle.rs_octets.specs.PrefixFields.{prefix_octets}
use Rattle.rs_attrs.specs.declared.mode.Mode.{Mode}
use Rattle.rs_attrs.specs.Meaning.{Attribute}
use Rattle.rs_attrs.specs.Effects.{behind_its_length}
use Rattle.rs_attrs.specs.Writing.{spelt}
use Rattle.rs_octets.specs.Writes.{Writes}
use Rattle.rs_packer.specs.declared.packed.Packed.{Packed}

-- a field of prefixes
abbrev pub prefixes_octets : List Prefix → List ℕ
prefixes_octets ps = flat_map prefix_octets ps

-- withdrawn routes, path attributes, NLRI
abbrev pub update_body : List Prefix → List ℕ → List Prefix → List ℕ
update_body withdrawn attributes nlri =
    behind_its_length (prefixes_octets withdrawn) ++ behind_its_length attributes ++ prefixes_octets nlri

abbrev pub update : List Prefix → List ℕ → List Prefix → List ℕ
update withdrawn attributes nlri = message_octets Update (update_body withdrawn attributes nlri)

-- the message that announces these prefixes with these attributes, as the mode spells them
abbrev pub announcement : List Attribute → Mode → List Prefix → List ℕ
announcement m mode ps = update [] (spelt m mode) ps

-- the message that withdraws these prefixes
abbrev pub withdrawal : List Prefix → List ℕ
withdrawal ps = update ps [] []

-- ---- the longest front

-- the message of the first n fits, and no more prefixes are there or the next does not fit
pub record IsLongestFront (message : List Prefix → List ℕ) (limit : ℕ) (ps : List Prefix) (n : ℕ) : Type 0 where
  pub within : n ≤ length ps
  pub fits : length (message (take n ps)) ≤ limit
  pub full : n < length ps → limit < length (message (take (n + 1) ps))

-- the same, computed: how many prefixes fit into so many octets, from the first on
abbrev pub fitting : ℕ → List Prefix → ℕ
fitting room [] = 0
fitting room (p ∷ ps) = if nat_le (length (prefix_octets p)) room then suc (fitting (room - length (prefix_octets p)) ps) else 0

-- how many fit beside these attributes into a message of so many octets
abbrev pub announced_fit : List Attribute → Mode → ℕ → List Prefix → ℕ
announced_fit m mode limit ps = fitting (limit - (23 + length (spelt m mode))) ps

abbrev pub withdrawn_fit : ℕ → List Prefix → ℕ
withdrawn_fit limit ps = fitting (limit - 23) ps

-- ---- the answer

-- the message of the longest front stands at the front of the octets, and those behind it are as they were
pub record IsPacked (message : List Prefix → List ℕ) (ps : List Prefix) (old new : List ℕ) (packed : Packed) : Type 0 where
  pub some : 0 < packed.prefixes
  pub longest : IsLongestFront message (length old) ps packed.prefixes
  pub size : packed.octets ≡ length (message (take packed.prefixes ps))
  pub octets : Writes 0 (message (take packed.prefixes ps)) old new
