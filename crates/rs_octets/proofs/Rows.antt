-- Octets taken apart by hand, which the checker computes.
use Rattle.std.specs.Prelude.{take, false, true, ◌≡◌, ℕ, ◌+◌, ◌-◌, ◌*◌, List, [], ◌∷◌, ◌++◌, refl, codes, nat_lt, if◌then◌else◌, replicate, Ok, Err}
use Rattle.rs_octets.specs.declared.heads.HeaderFault.TheVariants as faults
use Rattle.rs_octets.specs.declared.heads.Kind.TheVariants.{Open, Update, Note, Keepalive, Refresh}
use Rattle.rs_octets.specs.declared.prefix.FieldFault.TheVariants.{TooLong, Cut}
use Rattle.rs_octets.specs.declared.heads.Allowed.{Allowed}
use Rattle.rs_octets.specs.Headers.{header_of}
use Rattle.rs_octets.specs.Messages.{messages_of, rest_of, heard_of, newly_heard, message_octets}
use Rattle.rs_octets.specs.Fronts.{wanted_behind}
use Rattle.rs_octets.specs.PrefixFields.{prefixes_of}

abbrev pub digit : ℕ → ℕ
digit c = if nat_lt c 58 then c - 48 else c - 87

-- the octets of a text of hexadecimal digits in lower case; spaces are passed over
abbrev pub hex : List ℕ → List ℕ
hex [] = []
hex (a ∷ []) = []
hex (a ∷ b ∷ text) = if nat_lt a 33 then hex (b ∷ text) else (16 * digit a + digit b) ∷ hex text

-- these octets behind a good marker
abbrev m : List ℕ → List ℕ
m text = replicate 16 255 ++ hex text

-- RFC 4271 alone; with long messages; with ROUTE-REFRESH
abbrev plain : Allowed
plain = record { long = false; refresh = false }

abbrev long : Allowed
long = record { long = true; refresh = false }

abbrev refresh : Allowed
refresh = record { long = false; refresh = true }

-- ---- headers

marker : header_of plain (replicate 15 255 ++ hex (codes "00 0013 04")) ≡ Err faults.Marker
marker = refl

too_long : header_of plain (m (codes "1001 02")) ≡ Err (faults.Length 4097)
too_long = refl

too_short : header_of plain (m (codes "0012 04")) ≡ Err (faults.Length 18)
too_short = refl

keepalive_of_20 : header_of plain (m (codes "0014 04")) ≡ Err (faults.Length 20)
keepalive_of_20 = refl

of_type_5 : header_of plain (m (codes "0013 05")) ≡ Err (faults.Kind 5)
of_type_5 = refl

of_type_0 : header_of long (m (codes "0013 00")) ≡ Err (faults.Kind 0)
of_type_0 = refl

keepalive : header_of plain (m (codes "0013 04")) ≡ Ok (record { length = 19; kind = Keepalive })
keepalive = refl

-- the marker is checked before the length, the length before the type
marker_and_length : header_of plain (replicate 15 255 ++ hex (codes "00 0000 09")) ≡ Err faults.Marker
marker_and_length = refl

length_and_type : header_of plain (m (codes "1001 09")) ≡ Err (faults.Length 4097)
length_and_type = refl

open_of_28 : header_of plain (m (codes "001c 01")) ≡ Err (faults.Length 28)
open_of_28 = refl

open_of_4096 : header_of plain (m (codes "1000 01")) ≡ Ok (record { length = 4096; kind = Open })
open_of_4096 = refl

update_of_22 : header_of plain (m (codes "0016 02")) ≡ Err (faults.Length 22)
update_of_22 = refl

notification_of_20 : header_of plain (m (codes "0014 03")) ≡ Err (faults.Length 20)
notification_of_20 = refl

notification_of_21 : header_of plain (m (codes "0015 03")) ≡ Ok (record { length = 21; kind = Note })
notification_of_21 = refl

-- ---- headers with long messages

long_update : header_of long (m (codes "1001 02")) ≡ Ok (record { length = 4097; kind = Update })
long_update = refl

longest_update : header_of long (m (codes "ffff 02")) ≡ Ok (record { length = 65535; kind = Update })
longest_update = refl

long_notification : header_of long (m (codes "ffff 03")) ≡ Ok (record { length = 65535; kind = Note })
long_notification = refl

long_keepalive : header_of long (m (codes "1001 04")) ≡ Err (faults.Length 4097)
long_keepalive = refl

long_open : header_of long (m (codes "1001 01")) ≡ Err (faults.Length 4097)
long_open = refl

-- ---- headers with ROUTE-REFRESH

refresh_of_23 : header_of refresh (m (codes "0017 05")) ≡ Ok (record { length = 23; kind = Refresh })
refresh_of_23 = refl

refresh_of_24 : header_of refresh (m (codes "0018 05")) ≡ Err (faults.Length 24)
refresh_of_24 = refl

refresh_of_22 : header_of refresh (m (codes "0016 05")) ≡ Err (faults.Length 22)
refresh_of_22 = refl

of_type_6 : header_of refresh (m (codes "0017 06")) ≡ Err (faults.Kind 6)
of_type_6 = refl

-- ---- messages

abbrev an_update : List ℕ
an_update = m (codes "002f 02 0000 0014 40010100 40020602010000fbf0 400304c000020b 18c63364")

abbrev a_keepalive : List ℕ
a_keepalive = m (codes "0013 04")

-- a KEEPALIVE, an UPDATE, and ten octets of the next
cut : messages_of plain (a_keepalive ++ an_update ++ replicate 10 255) ≡ a_keepalive ∷ an_update ∷ []
cut = refl

cut_rest : rest_of plain (a_keepalive ++ an_update ++ replicate 10 255) ≡ replicate 10 255
cut_rest = refl

-- nothing is heard after a fault
heard_fault : heard_of plain (an_update ++ m (codes "0013 05") ++ an_update) ≡ Ok an_update ∷ Err (faults.Kind 5) ∷ []
heard_fault = refl

-- 18 octets are no header yet, and a message that is not whole has no fault
heard_short : heard_of plain (replicate 18 0) ≡ []
heard_short = refl

heard_marker : heard_of plain (replicate 19 0) ≡ Err faults.Marker ∷ []
heard_marker = refl

heard_part : heard_of plain (a_keepalive ++ take 46 an_update) ≡ Ok a_keepalive ∷ []
heard_part = refl

-- ---- pieces

-- the end of the UPDATE is what makes it heard
heard_at_its_end : newly_heard plain (a_keepalive ++ take 46 an_update) (0x64 ∷ []) ≡ Ok an_update ∷ []
heard_at_its_end = refl

-- nothing is heard after a fault
heard_behind_a_fault : newly_heard plain (an_update ++ m (codes "0013 05")) an_update ≡ []
heard_behind_a_fault = refl

-- ---- what is wanted at the front

wants_a_header : wanted_behind plain [] ≡ 19
wants_a_header = refl

wants_an_octet_of_a_header : wanted_behind plain (take 18 an_update) ≡ 1
wants_an_octet_of_a_header = refl

wants_a_body : wanted_behind plain (take 19 an_update) ≡ 28
wants_a_body = refl

wants_nothing : wanted_behind plain an_update ≡ 0
wants_nothing = refl

-- what is written is read
written_update : message_octets Update (hex (codes "0000 0014 40010100 40020602010000fbf0 400304c000020b 18c63364")) ≡ an_update
written_update = refl

-- ---- fields of prefixes

prefixes : prefixes_of (hex (codes "18c63364 19c63364ff 00 21c6"))
    ≡ Ok (record { bits = 0xc6336400; len = 24 }) ∷ Ok (record { bits = 0xc6336480; len = 25 }) ∷ Ok (record { bits = 0; len = 0 }) ∷ Err TooLong ∷ []
prefixes = refl

cut_prefix : prefixes_of (hex (codes "18c6")) ≡ Err Cut ∷ []
cut_prefix = refl

-- nothing comes after a fault
after_fault : prefixes_of (hex (codes "21 18c63364")) ≡ Err TooLong ∷ []
after_fault = refl

no_prefixes : prefixes_of [] ≡ []
no_prefixes = refl

host : prefixes_of (hex (codes "20c0000201")) ≡ Ok (record { bits = 0xc0000201; len = 32 }) ∷ []
host = refl
