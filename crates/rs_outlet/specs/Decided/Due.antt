-- What is due to a client (RFC 7947, 2.3; RFC 4271, 9.1): the best of the other clients' routes that the rules pass, where it fits.
use Rattle.std.specs.Prelude.{ℕ, ◌==◌, ◌||◌, Bool, nat_le, List, [], ◌∷◌, length, unwrap_or, Option, Some, None, option_and_then, if◌then◌else◌, true}
use Rattle.std.specs.List.{filter_map, list_any}
use Rattle.rs_octets.specs.Prefixes.{Prefix}
use Rattle.rs_attrs.specs.Meaning.{Attribute}
use Rattle.rs_attrs.specs.Getters.{origin_of, med_of, path_length_of, path_has_of}
use Rattle.rs_attrs.specs.Stripping.{stripped_of}
use Rattle.rs_open.specs.Notes.{limit_octets}
use Rattle.rs_adjin.specs.Listing.{holders_from}
use Rattle.rs_policy.specs.Configuration.{Configuration, client_of}
use Rattle.rs_policy.specs.Verdicts.{Judgement, dropped, passed, verdict}
use Rattle.rs_decision.specs.declared.rank.Rank.{Rank}
use Rattle.rs_decision.specs.Choice.{best_of}
use Rattle.rs_packer.specs.Packed.{announcement}
use Rattle.rs_outlet.specs.declared.answers.Speech.{Speech}

-- What a client is decided by: the configuration, what each client holds, and the BGP Identifiers of their sessions.
pub record Held : Type 0 where
  pub settings : Configuration
  pub count : ℕ
  pub held : ℕ → Prefix → Option (List Attribute)
  pub identifier : ℕ → ℕ

-- what the choice looks at in the route of a client
abbrev pub rank_of : Held → ℕ → List Attribute → ℕ → Rank
rank_of t from m preference = record {
  preference = preference;
  path_len = path_length_of m;
  origin = unwrap_or (origin_of m) 0;
  med = med_of m;
  neighbour = (client_of t.settings from).client_as;
  identifier = t.identifier from;
  address = (client_of t.settings from).peer;
  place = from;
}

abbrev pub rank_by : Held → ℕ → List Attribute → Judgement → Option Rank
rank_by t from m dropped = None
rank_by t from m (passed preference taken) = Some (rank_of t from m preference)

-- a candidate: not the client's own, without the server's AS in its path, and passed by the rules
abbrev pub rank_to : Held → ℕ → Prefix → ℕ × List Attribute → Option Rank
rank_to t c p h =
    if (h.0 == c) || path_has_of t.settings.top.server_as h.1 then None
    else rank_by t h.0 h.1 (verdict t.settings h.0 c p h.1)

-- the candidates' ranks among these routes
abbrev pub ranks_among : Held → ℕ → Prefix → List (ℕ × List Attribute) → List Rank
ranks_among t c p holders = filter_map (rank_to t c p) holders

abbrev pub holders_at : Held → Prefix → List (ℕ × List Attribute)
holders_at t p = holders_from (λ d. t.held d p) 0 t.count

-- without what the rules take away
abbrev pub passed_on : List Attribute → Judgement → Option (List Attribute)
passed_on m dropped = None
passed_on m (passed preference taken) = Some (stripped_of taken m)

-- what fits into a message to the client that announces this prefix alone
abbrev pub if_fits : Speech → Prefix → List Attribute → Option (List Attribute)
if_fits speech p m = if nat_le (length (announcement m speech.mode (p ∷ []))) (limit_octets speech.limit) then Some m else None

-- the route of this sender as it is passed on
abbrev pub route_from : Held → ℕ → Speech → Prefix → ℕ → Option (List Attribute)
route_from t c speech p from =
    option_and_then (if_fits speech p) (option_and_then (λ m. passed_on m (verdict t.settings from c p m)) (t.held from p))

-- what is due to client c at p: the best candidate's route
abbrev pub due_to : Held → ℕ → Speech → Prefix → Option (List Attribute)
due_to t c speech p = option_and_then (λ best. route_from t c speech p best.place) (best_of (ranks_among t c p (holders_at t p)))

-- whether any client holds p
abbrev pub any_holds : Held → Prefix → Bool
any_holds t p = list_any (λ h. true) (holders_at t p)
