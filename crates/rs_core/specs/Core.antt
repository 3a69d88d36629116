-- What contracts see of a route server.
use Rattle.std.specs.Prelude.{ℕ, zero, suc, Bool, true, false, List, [], ◌∷◌, Option, Some, None, slice_get, if◌then◌else◌}
use Rattle.std.specs.FinMap as fin
use Rattle.std.specs.FinSet as set
use Rattle.rs_octets.specs.Prefixes.{Prefix}
use Rattle.rs_attrs.specs.Meaning.{Attribute}
use Rattle.rs_outlet.specs.declared.answers.Last.{Last}
use Rattle.rs_outlet.specs.declared.answers.Last.TheVariants as lasts
use Rattle.rs_outlet.specs.Views.{View, Prefixes}
use Rattle.rs_core.specs.Session.Conversations.{Outgoing, outgoing_of}
use Rattle.rs_core.specs.Owed.Owing.{owed_by, is_decided_for}
use Rattle.rs_core.specs.Ribs.{lent_by}
use Rattle.rs_core.specs.Touched.Turns.{refused_in}
use Rattle.rs_core.specs.declared.route_server.Core.{Core}

unfoldable pub client_count : Core → ℕ
client_count core = core.count

-- what is left of the message in flight to a client
unfoldable pub lent_octets : Core → ℕ → List ℕ
lent_octets core c = lent_by core.ribs c

abbrev pub outgoing_in : Option View → Outgoing
outgoing_in None = record { flight = []; note = None; keepalive_due = false }
outgoing_in (Some o) = outgoing_of o

-- what is still to be said to a client
unfoldable pub outgoing : Core → ℕ → Outgoing
outgoing core c = outgoing_in (slice_get core.ribs.outlets.items c)

abbrev pub loc_in : Option View → Prefix → Option (List Attribute)
loc_in None p = None
loc_in (Some o) p = fin.get o.loc p

-- what the Loc-RIB of a client has
unfoldable pub loc_rib : Core → ℕ → Prefix → Option (List Attribute)
loc_rib core c p = loc_in (slice_get core.ribs.outlets.items c) p

abbrev pub owed_in : Option View → ℕ
owed_in None = 0
owed_in (Some o) = owed_by o

-- at most so many octets are still to be sent to a client, by what was decided
unfoldable pub owed : Core → ℕ → ℕ
owed core c = owed_in (slice_get core.ribs.outlets.items c)

abbrev pub decided_in : Option View → Bool
decided_in None = false
decided_in (Some o) = is_decided_for o

-- whether nothing is touched for a client
unfoldable pub is_decided : Core → ℕ → Bool
is_decided core c = decided_in (slice_get core.ribs.outlets.items c)

-- at how many clients memory was refused at the last turn
unfoldable pub refused_clients : Core → ℕ
refused_clients core = refused_in core.ribs.outlets.items

abbrev pub touched_in : Option View → Option Prefixes
touched_in None = Some set.empty
touched_in (Some o) = o.touched

-- the prefixes that the next turn of a client decides; with None all
unfoldable pub touched_for : Core → ℕ → Option Prefixes
touched_for core c = touched_in (slice_get core.ribs.outlets.items c)

abbrev pub is_refusal : Last → Bool
is_refusal lasts.Refused = true
is_refusal lasts.Never = false
is_refusal (lasts.Done turned) = false

abbrev pub refusal_in : Option View → Bool
refusal_in None = false
refusal_in (Some o) = is_refusal o.last

-- whether memory was refused for a client at the last turn
unfoldable pub is_refused : Core → ℕ → Bool
is_refused core c = refusal_in (slice_get core.ribs.outlets.items c)

abbrev pub last_in : Option View → Last
last_in None = lasts.Never
last_in (Some o) = o.last

-- the answer of a client's last turn
unfoldable pub last_of : Core → ℕ → Last
last_of core c = last_in (slice_get core.ribs.outlets.items c)

-- for which of the first so many clients, the greatest first
abbrev pub refused_below : Core → ℕ → List ℕ
refused_below core zero = []
refused_below core (suc c) = if is_refused core c then c ∷ refused_below core c else refused_below core c
