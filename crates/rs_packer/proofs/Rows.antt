-- Messages taken apart by hand, which the checker computes.
use Rattle.std.specs.Prelude.{◌≡◌, ℕ, zero, suc, ◌+◌, List, [], ◌∷◌, ◌++◌, length, replicate, Some, None, refl, codes}
use Rattle.rs_octets.specs.Prefixes.{Prefix}
use Rattle.rs_attrs.specs.declared.mode.Mode.TheVariants.{Two, Four}
use Rattle.rs_attrs.specs.Meaning.{Attribute, all_types, read_of}
use Rattle.rs_attrs.specs.Effects.{Changes, effect_of}
use Rattle.rs_octets.proofs.Rows.{hex}
use Rattle.rs_attrs.proofs.Rows.{well}
use Rattle.rs_packer.specs.Packed.{announcement, withdrawal}
use Rattle.rs_octets.specs.Messages.{body_of}

abbrev a_prefix : Prefix
a_prefix = record { bits = 0xc6336400; len = 24 }

-- ORIGIN IGP, AS_PATH of 64496 alone, NEXT_HOP 192.0.2.11
abbrev three_attributes : List Attribute
three_attributes = well (0 ∷ []) 1 ∷ well (hex (codes "02010000fbf0")) 2 ∷ well (hex (codes "c000020b")) 3 ∷ []

-- the same with a path of 64496 and 4200000000
abbrev wide_attributes : List Attribute
wide_attributes = (read_of (hex (codes "40010100 40020a02020000fbf0fa56ea00 400304c000020b")) Four).attributes

one_announcement : announcement three_attributes Four (a_prefix ∷ []) ≡ replicate 16 255 ++ hex (codes "002f 02 0000 0014 40010100 40020602010000fbf0 400304c000020b 18c63364")
unfolding all_types
one_announcement = refl

one_withdrawal : withdrawal (a_prefix ∷ []) ≡ replicate 16 255 ++ hex (codes "001b 02 0004 18c63364 0000")
one_withdrawal = refl

announcement_to_a_two_octet_peer : announcement wide_attributes Two (a_prefix ∷ [])
    ≡ replicate 16 255 ++ hex (codes "003c 02 0000 0021 40010100 4002060202fbf05ba0 400304c000020b c0110a02020000fbf0fa56ea00 18c63364")
unfolding all_types
announcement_to_a_two_octet_peer = refl

-- what these messages do, as it is computed

one_change : effect_of (body_of (announcement three_attributes Four (a_prefix ∷ []))) Four
    ≡ Changes (record { withdrawn = []; announced = a_prefix ∷ []; attributes = Some three_attributes })
unfolding all_types
one_change = refl

change_at_a_two_octet_peer : effect_of (body_of (announcement wide_attributes Two (a_prefix ∷ []))) Two
    ≡ Changes (record { withdrawn = []; announced = a_prefix ∷ []; attributes = Some wide_attributes })
unfolding all_types
change_at_a_two_octet_peer = refl

-- a two-octet peer's message, read as a four-octet peer's
withdrawn_in_the_wrong_mode : effect_of (body_of (announcement wide_attributes Two (a_prefix ∷ []))) Four
    ≡ Changes (record { withdrawn = a_prefix ∷ []; announced = []; attributes = None })
unfolding all_types
withdrawn_in_the_wrong_mode = refl

change_by_a_withdrawal : effect_of (body_of (withdrawal (a_prefix ∷ []))) Two ≡ Changes (record { withdrawn = a_prefix ∷ []; announced = []; attributes = None })
unfolding all_types
change_by_a_withdrawal = refl

-- a prefix given twice is announced once
change_of_a_prefix_twice : effect_of (body_of (announcement three_attributes Four (a_prefix ∷ a_prefix ∷ []))) Four
    ≡ Changes (record { withdrawn = []; announced = a_prefix ∷ []; attributes = Some three_attributes })
unfolding all_types
change_of_a_prefix_twice = refl

-- so many prefixes of length 24, from these bits on
abbrev prefixes : ℕ → ℕ → List Prefix
prefixes bits zero = []
prefixes bits (suc n) = record { bits = bits; len = 24 } ∷ prefixes (bits + 256) n

full_but_an_octet : length (announcement three_attributes Four (prefixes 0x0a000000 1013)) ≡ 4095
unfolding all_types
full_but_an_octet = refl

full_message : length (announcement three_attributes Four (prefixes 0x0a000000 1013 ++ record { bits = 0; len = 0 } ∷ [])) ≡ 4096
unfolding all_types
full_message = refl
