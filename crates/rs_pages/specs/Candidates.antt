-- What becomes of the routes for a prefix on their way to a member (RFC 4271, 9.1; RFC 7947, 2.3).
use Rattle.std.specs.Prelude.{ℕ, ◌+◌, ◌==◌, ◌&&◌, ◌||◌, nat_le, nat_lt, Bool, not, false, List, [], ◌∷◌, find, Option, Some, None, is_none, unwrap_or, if◌then◌else◌}
use Rattle.std.specs.List.{filter_map}
use Rattle.rs_octets.specs.Prefixes.{Prefix}
use Rattle.rs_attrs.specs.Getters.{origin_of, med_of, path_length_of, path_has_of}
use Rattle.rs_attrs.specs.Meaning.{Attribute}
use Rattle.rs_attrs.specs.Stripping.{stripped_of}
use Rattle.rs_policy.specs.Configuration.{Configuration, client_of}
use Rattle.rs_policy.specs.Verdicts.{Judgement, dropped, passed, verdict}
use Rattle.rs_decision.specs.declared.rank.Rank.{Rank}
use Rattle.rs_decision.specs.declared.losing.Step.{Step}
use Rattle.rs_decision.specs.Losing.{lost_by}
use Rattle.rs_outlet.specs.declared.answers.Speech.{Speech}
use Rattle.rs_outlet.specs.Decided.Due.{if_fits}
use Rattle.rs_page_parts.specs.Holders.{Holding}
use Rattle.rs_page_parts.specs.Members.{is_client}
use Rattle.rs_pages.specs.declared.candidates.Outcome.{Outcome}
use Rattle.rs_pages.specs.declared.candidates.Outcome.TheVariants as outcomes

-- a holder is a member of the configuration, this one or a later one
abbrev pub is_from : Configuration → ℕ → Holding → Bool
is_from s from h = nat_le from h.member && is_client s h.member

-- the first of those who hold a prefix from a member on
abbrev pub next_holder : Configuration → List Holding → ℕ → Option Holding
next_holder s held from = find (is_from s from) held

-- the same for a member of the configuration
abbrev pub next_candidate : Configuration → ℕ → List Holding → ℕ → Option Holding
next_candidate s to held from = if is_client s to then next_holder s held from else None

-- what the choice looks at in a route (RFC 4271, 9.1.2.2)
abbrev pub rank_with : Configuration → Holding → ℕ → Rank
rank_with s h preference = record {
  preference = preference;
  path_len = path_length_of h.attributes;
  origin = unwrap_or (origin_of h.attributes) 0;
  med = med_of h.attributes;
  neighbour = (client_of s h.member).client_as;
  identifier = h.identifier;
  address = (client_of s h.member).peer;
  place = h.member;
}

abbrev pub rank_by : Configuration → Holding → Judgement → Option Rank
rank_by s h dropped = None
rank_by s h (passed preference taken) = Some (rank_with s h preference)

-- its AS_PATH has the server's AS
abbrev pub has_server_as : Configuration → Holding → Bool
has_server_as s h = path_has_of s.top.server_as h.attributes

-- the rank of a route where it is a candidate: not the member's own, without the server's AS in its path, and passed by the rules
abbrev pub rank_to : Configuration → ℕ → Prefix → Holding → Option Rank
rank_to s to p h =
    if is_client s h.member && (is_client s to && not ((h.member == to) || has_server_as s h))
    then rank_by s h (verdict s h.member to p h.attributes)
    else None

-- those whose places rise: all, where each member has one and they come by rising member
abbrev pub rising_from : ℕ → List Rank → List Rank
rising_from place [] = []
rising_from place (r ∷ ranks) = if nat_lt r.place place then rising_from place ranks else r ∷ rising_from (r.place + 1) ranks

-- the ranks of all candidates
abbrev pub ranks_to : Configuration → ℕ → Prefix → List Holding → List Rank
ranks_to s to p held = rising_from 0 (filter_map (rank_to s to p) held)

abbrev pub by_step : Option Step → Outcome
by_step None = outcomes.Chosen
by_step (Some step) = outcomes.Lost step

abbrev pub by_rank : List Rank → Option Rank → Outcome
by_rank ranks None = outcomes.Dropped
by_rank ranks (Some r) = by_step (lost_by ranks r)

-- what becomes of a route, by the ranks of all candidates: one that the rules drop has none
abbrev pub outcome_of : Configuration → ℕ → List Rank → Holding → Outcome
outcome_of s to ranks h =
    if h.member == to then outcomes.Own
    else (if has_server_as s h then outcomes.ServerAs
    else by_rank ranks (find (λ r. r.place == h.member) ranks))

-- a route that the rules pass, without what they take away, doesn't fit into a message to a member who is spoken to so: nothing is due then
abbrev pub lacks_room : Speech → Prefix → List Attribute → Judgement → Bool
lacks_room speech p m dropped = false
lacks_room speech p m (passed preference taken) = is_none (if_fits speech p (stripped_of taken m))

-- the same of who holds the prefix; of a member that isn't Established it isn't known
abbrev pub is_too_long : Configuration → ℕ → Option Speech → Prefix → Holding → Bool
is_too_long s to None p h = false
is_too_long s to (Some speech) p h = lacks_room speech p h.attributes (verdict s h.member to p h.attributes)

-- what becomes of a route, where this is asked of the best alone
abbrev pub sent_as : Bool → Outcome → Outcome
sent_as too_long outcomes.Own = outcomes.Own
sent_as too_long outcomes.ServerAs = outcomes.ServerAs
sent_as too_long outcomes.Dropped = outcomes.Dropped
sent_as too_long (outcomes.Lost step) = outcomes.Lost step
sent_as too_long outcomes.Chosen = if too_long then outcomes.TooLong else outcomes.Chosen
sent_as too_long outcomes.TooLong = outcomes.TooLong

-- what becomes of a route on its way into a message
abbrev pub sent_outcome : Configuration → ℕ → Option Speech → Prefix → List Rank → Holding → Outcome
sent_outcome s to speech p ranks h = sent_as (is_too_long s to speech p h) (outcome_of s to ranks h)
