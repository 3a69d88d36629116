-- Who holds a route for a prefix, by a run.
use Rattle.std.specs.Prelude.{List, map}
use Rattle.rs_octets.specs.Prefixes.{Prefix}
use Rattle.rs_adjin.specs.Listing.{Sent}
use Rattle.rs_outlet.specs.Decided.Due.{holders_at}
use Rattle.rs_core.specs.Run.Moves.{Move}
use Rattle.rs_core.specs.Run.Meaning.{held_in}

-- the routes for a prefix, each with its sender and the BGP Identifier of the sender's session, by rising client
abbrev pub candidates_in : List Move → Prefix → List Sent
candidates_in run p = map (λ h. record { client = h.0; identifier = (held_in run).identifier h.0; attrs = h.1 }) (holders_at (held_in run) p)
