-- What UPDATEs do where something is wrong with them (RFC 7606), worked out by hand, by computation.
use Rattle.std.specs.Prelude.{◌≡◌, List, [], ◌∷◌, ◌++◌, refl, codes, Some, None}
use Rattle.rs_octets.specs.declared.notification.Notification.TheVariants as names
use Rattle.rs_octets.specs.Names.{codes_named}
use Rattle.rs_octets.specs.Prefixes.{Prefix}
use Rattle.rs_attrs.specs.declared.mode.Mode.TheVariants.{Two, Four}
use Rattle.rs_attrs.specs.Meaning.{Attribute, all_types}
use Rattle.rs_attrs.specs.Effects.{Effect, Reset, Changes, effect_of}
use Rattle.rs_octets.proofs.Rows.{hex}
use Rattle.rs_attrs.proofs.Rows.{u1, u1_attributes}

-- 198.51.100.0/24 and 203.0.113.0/24
abbrev test_net_2 : Prefix
test_net_2 = record { bits = 0xc6336400; len = 24 }

abbrev test_net_3 : Prefix
test_net_3 = record { bits = 0xcb007100; len = 24 }

abbrev withdraws : List Prefix → Effect
withdraws prefixes = Changes (record { withdrawn = prefixes; announced = []; attributes = None })

abbrev changes : List Prefix → List Prefix → List Attribute → Effect
changes withdrawn announced attributes = Changes (record { withdrawn = withdrawn; announced = announced; attributes = Some attributes })

-- ---- session reset (RFC 7606, 2 and 3)

-- the second length goes past the end (RFC 4271, 6.3)
second_length_exceeds : effect_of (hex (codes "0000 0015") ++ u1) Four ≡ Reset 3 1
unfolding all_types
second_length_exceeds = refl

-- a prefix of 33 bits (RFC 7606, 5.3)
nlri_of_33_bits : effect_of (hex (codes "0000 0014") ++ u1 ++ hex (codes "21c633640000")) Four ≡ Reset 3 10
unfolding all_types
nlri_of_33_bits = refl

-- two MP_UNREACH_NLRI beside a route (RFC 7606, 3, g)
mp_unreach_twice : effect_of (hex (codes "0000 001a") ++ u1 ++ hex (codes "800f00 800f00 18c63364")) Four ≡ Reset 3 1
unfolding all_types
mp_unreach_twice = refl

-- treat-as-withdraw with nothing that it could withdraw but what the UPDATE withdraws itself (RFC 7606, 5.2)
bad_origin_without_nlri : effect_of (hex (codes "0004 18c63364 0004 40010500")) Four ≡ Reset 3 1
unfolding all_types
bad_origin_without_nlri = refl

-- a well-known attribute that isn't recognized, beside a route (RFC 4271, 6.3)
unrecognized_well_known : effect_of (hex (codes "0000 0017") ++ u1 ++ hex (codes "406300 18c63364")) Four ≡ Reset 3 2
unfolding all_types
unrecognized_well_known = refl

-- ---- the first of two resets

lengths_before_a_cut_prefix : effect_of (hex (codes "0002 18c6 0005 4001")) Four ≡ Reset 3 1
unfolding all_types
lengths_before_a_cut_prefix = refl

cut_prefix_before_mp_reach_twice : effect_of (hex (codes "0002 18c6 0006 800e00 800e00")) Four ≡ Reset 3 10
unfolding all_types
cut_prefix_before_mp_reach_twice = refl

cut_nlri_before_unrecognized : effect_of (hex (codes "0000 0003 406300 18c6")) Four ≡ Reset 3 10
unfolding all_types
cut_nlri_before_unrecognized = refl

bad_origin_before_unrecognized : effect_of (hex (codes "0000 0007 40010500 406300")) Four ≡ Reset 3 1
unfolding all_types
bad_origin_before_unrecognized = refl

-- ---- treat-as-withdraw (RFC 7606, 2): all that the UPDATE names is withdrawn

-- an ORIGIN of two octets (RFC 7606, 7.1)
bad_origin_withdraws_both_fields : effect_of (hex (codes "0004 18c63364 0005 4001020000 18cb0071")) Four ≡ withdraws (test_net_2 ∷ test_net_3 ∷ [])
unfolding all_types
bad_origin_withdraws_both_fields = refl

-- a MULTI_EXIT_DISC of three octets (RFC 7606, 7.4)
short_multi_exit_disc : effect_of (hex (codes "0000 001a") ++ u1 ++ hex (codes "800403000000 18c63364")) Four ≡ withdraws (test_net_2 ∷ [])
unfolding all_types
short_multi_exit_disc = refl

-- no AS_PATH (RFC 7606, 3, d)
no_as_path : effect_of (hex (codes "0000 000b 40010100 400304c000020b 18c63364")) Four ≡ withdraws (test_net_2 ∷ [])
unfolding all_types
no_as_path = refl

-- AS numbers of four octets from a peer that has two (RFC 7606, 7.2)
wide_path_from_a_two_octet_peer : effect_of (hex (codes "0000 0018 40010100 40020a02020000fbf0fa56ea00 400304c000020b 18c63364")) Two ≡ withdraws (test_net_2 ∷ [])
unfolding all_types
wide_path_from_a_two_octet_peer = refl

-- ---- attribute discard (RFC 7606, 2): the route stays, without the attribute

-- an AGGREGATOR of five octets (RFC 7606, 7.7)
short_aggregator : effect_of (hex (codes "0000 001c") ++ u1 ++ hex (codes "c007050000fbf0c0 18c63364")) Four ≡ changes [] (test_net_2 ∷ []) u1_attributes
unfolding all_types
short_aggregator = refl

-- LOCAL_PREF from outside (RFC 7606, 7.5)
local_pref : effect_of (hex (codes "0000 001b") ++ u1 ++ hex (codes "400504000000c8 18c63364")) Four ≡ changes [] (test_net_2 ∷ []) u1_attributes
unfolding all_types
local_pref = refl

-- ---- prefixes

-- in both fields: it is announced (RFC 4271, 4.3)
in_both_fields : effect_of (hex (codes "0008 18c63364 18cb0071 0014") ++ u1 ++ hex (codes "18c63364")) Four ≡ changes (test_net_3 ∷ []) (test_net_2 ∷ []) u1_attributes
unfolding all_types
in_both_fields = refl

-- ---- the resets by name (RFC 4271, 6.3)

malformed_attribute_list : codes_named names.MalformedAttributeList ≡ (3, 1)
malformed_attribute_list = refl

unrecognized_well_known_attribute : codes_named names.UnrecognizedWellKnownAttribute ≡ (3, 2)
unrecognized_well_known_attribute = refl

invalid_network_field : codes_named names.InvalidNetworkField ≡ (3, 10)
invalid_network_field = refl
