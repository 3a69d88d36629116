-- Worked rows on what UPDATEs do, by computation.
use Rattle.std.specs.Prelude.{◌≡◌, ℕ, true, false, List, [], ◌∷◌, ◌++◌, refl, codes, Option, Some, None, option_map}
use Rattle.rs_octets.specs.Prefixes.{Prefix}
use Rattle.rs_attrs.specs.declared.mode.Mode.TheVariants.{Two, Four}
use Rattle.rs_attrs.specs.declared.faults.AttributeFault.{AttributeFault}
use Rattle.rs_attrs.specs.declared.faults.Cause.TheVariants as cause
use Rattle.rs_attrs.specs.declared.faults.Faulted.{Faulted}
use Rattle.rs_attrs.specs.Meaning.{Attribute, all_types}
use Rattle.rs_attrs.specs.Flaws.{fault}
use Rattle.rs_attrs.specs.Effects.{Effect, Change, Reset, Changes, effect_of, fields_of, table_of, faulted_in}
use Rattle.rs_octets.proofs.Rows.{hex}
use Rattle.rs_attrs.proofs.Rows.{well, u1, u1_attributes}

abbrev net : ℕ → ℕ → Prefix
net bits len = record { bits = bits; len = len }

-- 198.51.100.0/24
abbrev n24 : Prefix
n24 = net 0xc6336400 24

abbrev nothing : Change
nothing = record { withdrawn = []; announced = []; attributes = None }

abbrev withdraws : List Prefix → Effect
withdraws ps = Changes (record { withdrawn = ps; announced = []; attributes = None })

abbrev announces : List Prefix → List Attribute → Effect
announces ps m = Changes (record { withdrawn = []; announced = ps; attributes = Some m })

empty_update : effect_of (hex (codes "0000 0000")) Four ≡ Changes nothing
unfolding all_types
empty_update = refl

lengths_exceed : effect_of (hex (codes "0005 18c6336400 00")) Four ≡ Reset 3 1
unfolding all_types
lengths_exceed = refl

withdrawn_cut_off : effect_of (hex (codes "0002 18c6 0000")) Four ≡ Reset 3 10
unfolding all_types
withdrawn_cut_off = refl

discarded_alone : effect_of (hex (codes "0000 0003 800e00")) Four ≡ Changes nothing
unfolding all_types
discarded_alone = refl

mp_twice : effect_of (hex (codes "0000 0006 800e00 800e00")) Four ≡ Reset 3 1
unfolding all_types
mp_twice = refl

unrecognized : effect_of (hex (codes "0000 0003 406300")) Four ≡ Reset 3 2
unfolding all_types
unrecognized = refl

unrecognized_wins_with_nlri : effect_of (hex (codes "0000 0007 40010103 406300 18c63364")) Four ≡ Reset 3 2
unfolding all_types
unrecognized_wins_with_nlri = refl

bad_origin_withdraws : effect_of (hex (codes "0000 0004 40010500 18c63364")) Four ≡ withdraws (n24 ∷ [])
unfolding all_types
bad_origin_withdraws = refl

withdraw_without_nlri : effect_of (hex (codes "0000 0004 40010500")) Four ≡ Reset 3 1
unfolding all_types
withdraw_without_nlri = refl

no_next_hop : effect_of (hex (codes "0000 000d 40010100 40020602010000fbf0 18c63364")) Four ≡ withdraws (n24 ∷ [])
unfolding all_types
no_next_hop = refl

empty_path : effect_of (hex (codes "0000 000e 40010100 400200 400304c000020b 18c63364")) Four
    ≡ announces (n24 ∷ []) (well (0 ∷ []) 1 ∷ well [] 2 ∷ well (hex (codes "c000020b")) 3 ∷ [])
unfolding all_types
empty_path = refl

long_length_form : effect_of (hex (codes "0000 0015 5001000100 40020602010000fbf0 400304c000020b 18c63364")) Four ≡ announces (n24 ∷ []) u1_attributes
unfolding all_types
long_length_form = refl

host_bits : effect_of (hex (codes "0000 0014") ++ u1 ++ hex (codes "19c63364ff")) Four ≡ announces (net 0xc6336480 25 ∷ []) u1_attributes
unfolding all_types
host_bits = refl

-- ---- what is noted of an UPDATE with this body

abbrev faults_noted : List ℕ → Option Faulted
faults_noted body = option_map (λ fields. faulted_in fields Four) (fields_of body)

abbrev at_fault : Option AttributeFault → Option AttributeFault → Option Faulted
at_fault withdraw discard = Some (record { withdraw = withdraw; discard = discard; mp_reach = false })

no_next_hop_noted : faults_noted (hex (codes "0000 000d 40010100 40020602010000fbf0 18c63364")) ≡ at_fault (Some (fault 3 cause.Missing)) None
unfolding all_types
no_next_hop_noted = refl

first_missing_noted : faults_noted (hex (codes "0000 0009 40020602010000fbf0 18c63364")) ≡ at_fault (Some (fault 1 cause.Missing)) None
unfolding all_types
first_missing_noted = refl

-- an ORIGIN that came and is none, and no NEXT_HOP
came_before_missing : faults_noted (hex (codes "0000 000d 40010103 40020602010000fbf0 18c63364")) ≡ at_fault (Some (fault 1 cause.Value)) None
unfolding all_types
came_before_missing = refl

-- an ATOMIC_AGGREGATE of one octet, and no NEXT_HOP
missing_beside_discarded : faults_noted (hex (codes "0000 0011 40010100 40020602010000fbf0 40060100 18c63364")) ≡ at_fault (Some (fault 3 cause.Missing)) (Some (fault 6 cause.Length))
unfolding all_types
missing_beside_discarded = refl

none_missing : faults_noted (hex (codes "0000 0014") ++ u1 ++ hex (codes "18c63364")) ≡ at_fault None None
unfolding all_types
none_missing = refl

-- routes of another address family beside one of IPv4
routes_passed_over : faults_noted (hex (codes "0000 001c") ++ u1 ++ hex (codes "800e050002010000 18c63364")) ≡ Some (record { withdraw = None; discard = None; mp_reach = true })
unfolding all_types
routes_passed_over = refl

withdrawn_alone_noted : faults_noted (hex (codes "0004 18c63364 0000")) ≡ at_fault None None
unfolding all_types
withdrawn_alone_noted = refl

no_nlri_noted : faults_noted (hex (codes "0000 0004 40010100")) ≡ at_fault None None
unfolding all_types
no_nlri_noted = refl

-- ---- the UPDATEs of traces

-- withdrawn and announced
in_both_fields : effect_of (hex (codes "0004 18c63364 0014") ++ u1 ++ hex (codes "18c63364")) Four ≡ announces (n24 ∷ []) u1_attributes
unfolding all_types
in_both_fields = refl

-- ORIGIN 3, with a prefix and without
origin_3 : effect_of (hex (codes "0000 0014 40010103 40020602010000fbf0 400304c000020b 18c63364")) Four ≡ withdraws (n24 ∷ [])
unfolding all_types
origin_3 = refl

origin_3_without_nlri : effect_of (hex (codes "0000 0014 40010103 40020602010000fbf0 400304c000020b")) Four ≡ Reset 3 1
unfolding all_types
origin_3_without_nlri = refl

bad_prefix_wins : effect_of (hex (codes "0000 001a") ++ u1 ++ hex (codes "800403000000 21c633640000")) Four ≡ Reset 3 10
unfolding all_types
bad_prefix_wins = refl

abbrev optional : List ℕ → ℕ → Attribute
optional value kind = record { kind = kind; optional = true; transitive = false; partial = false; value = value }

first_med_counts : effect_of (hex (codes "0000 0031") ++ u1 ++ hex (codes "8004040000000a 80040400000014 400504000000c8 c007050000fbf0c0 18c63364")) Four
    ≡ announces (n24 ∷ []) (u1_attributes ++ optional (0 ∷ 0 ∷ 0 ∷ 10 ∷ []) 4 ∷ [])
unfolding all_types
first_med_counts = refl

unrecognized_optional : effect_of (hex (codes "0000 001c") ++ u1 ++ hex (codes "c06302abcd 806400 18c63364")) Four
    ≡ announces (n24 ∷ []) (u1_attributes ++ record { kind = 99; optional = true; transitive = true; partial = true; value = 0xab ∷ 0xcd ∷ [] } ∷ optional [] 100 ∷ [])
unfolding all_types
unrecognized_optional = refl

wide_path : effect_of (hex (codes "0000 0018 40010100 40020a02020000fbf0fa56ea00 400304c000020b 18c63364")) Four
    ≡ announces (n24 ∷ []) (well (0 ∷ []) 1 ∷ well (hex (codes "02020000fbf0fa56ea00")) 2 ∷ well (hex (codes "c000020b")) 3 ∷ [])
unfolding all_types
wide_path = refl

path_of_two_octet_peer : effect_of (hex (codes "0000 0023 40010100 4002080203fbf05ba05ba0 400304c000020b c0110a0202fa56ea00fa56ea01 18c63364")) Two
    ≡ announces (n24 ∷ []) (well (0 ∷ []) 1 ∷ well (hex (codes "02010000fbf00202fa56ea00fa56ea01")) 2 ∷ well (hex (codes "c000020b")) 3 ∷ [])
unfolding all_types
path_of_two_octet_peer = refl

-- ---- a prefix named twice counts once; the attributes are there only where something is announced

withdrawn_twice : effect_of (hex (codes "0008 18c63364 18c63364 0000")) Four ≡ withdraws (n24 ∷ [])
unfolding all_types
withdrawn_twice = refl

announced_twice : effect_of (hex (codes "0000 0014") ++ u1 ++ hex (codes "18c63364 18c63364")) Four ≡ announces (n24 ∷ []) u1_attributes
unfolding all_types
announced_twice = refl

attributes_alone : effect_of (hex (codes "0000 000e 40010100 400200 400304c000020b")) Four ≡ Changes nothing
unfolding all_types
attributes_alone = refl

-- ---- lists of UPDATEs: announced, then withdrawn

abbrev gives : Change
gives = record { withdrawn = []; announced = n24 ∷ []; attributes = Some u1_attributes }

abbrev takes : Change
takes = record { withdrawn = n24 ∷ []; announced = []; attributes = None }

announced : table_of (gives ∷ []) n24 ≡ Some u1_attributes
unfolding all_types
announced = refl

withdrawn : table_of (gives ∷ takes ∷ []) n24 ≡ None
unfolding all_types
withdrawn = refl

announced_again : table_of (takes ∷ gives ∷ nothing ∷ []) n24 ≡ Some u1_attributes
unfolding all_types
announced_again = refl
