-- Whose route is due to a client: another client's, with its attributes as that one announced them (RFC 7947, 2.2).
use Rattle.std.specs.Prelude.{◌≡◌, ◌≢◌, ◌<◌, ℕ, List, length, slice_get, Option, Some, option_and_then}
use Rattle.rs_octets.specs.Prefixes.{Prefix}
use Rattle.rs_attrs.specs.Effects.{MeansTable}
use Rattle.rs_attrs.specs.Meaning.{Attribute, get}
use Rattle.rs_attrs.specs.Paths.{quads}
use Rattle.rs_attrs.specs.Patterns.{large_communities_in}
use Rattle.rs_attrs.specs.Stripping.{Taken, unstripped, unstripped_large, with_communities, with_large_communities}
use Rattle.rs_attrs.specs.Types as types
use Rattle.rs_policy.specs.Verdicts.{passed, verdict}
use Rattle.rs_outlet.specs.declared.answers.Speech.{Speech}
use Rattle.rs_core.specs.Run.Moves.{Move, config_in}
use Rattle.rs_core.specs.Run.Meaning.{IsServed, due, hearing, speech_in, table}
use Rattle.rs_core.specs.Told.Telling.{updates_in}

-- COMMUNITIES without those that these rules take away, with its flags; none where none is left (RFC 1997)
abbrev pub communities_left : Taken → Option Attribute → Option Attribute
communities_left taken found = option_and_then (λ a. slice_get (with_communities a (unstripped taken (quads a.value))) 0) found

-- LARGE_COMMUNITY so (RFC 8092)
abbrev pub large_communities_left : Taken → Option Attribute → Option Attribute
large_communities_left taken found = option_and_then (λ a. slice_get (with_large_communities a (unstripped_large taken (large_communities_in a.value))) 0) found

-- Of each type but COMMUNITIES and LARGE_COMMUNITY there is the same attribute with the same flags, or none in both: so of NEXT_HOP
-- (RFC 7947, 2.2.1), of AS_PATH, which gets no AS number of the server (2.2.2), and of MULTI_EXIT_DISC (2.2.3). Of these two types
-- the communities that the rules take away are taken away, and no others (2.2.4).
pub record ArePassedOn (taken : Taken) (announced told : List Attribute) : Type 0 where
  pub next_hop : get types.next_hop told ≡ get types.next_hop announced
  pub as_path : get types.as_path told ≡ get types.as_path announced
  pub multi_exit_disc : get types.multi_exit_disc told ≡ get types.multi_exit_disc announced
  pub others : (kind : ℕ) → kind ≢ types.communities → kind ≢ types.large_community → get kind told ≡ get kind announced
  pub communities : get types.communities told ≡ communities_left taken (get types.communities announced)
  pub large_communities : get types.large_community told ≡ large_communities_left taken (get types.large_community announced)

-- A client other than c announced a route at p and has not withdrawn it, the rules pass it to c, and these are its attributes,
-- without the communities that these rules take away.
pub record IsSendersRoute (run : List Move) (c : ℕ) (p : Prefix) (told : List Attribute) : Type 0 where
  pub sender : ℕ
  pub client : sender < length (config_in run).clients
  pub another : sender ≢ c
  pub announced : List Attribute
  pub holds : table run sender p ≡ Some announced
  pub preference : ℕ
  pub taken : Taken
  pub rules : verdict (config_in run) sender c p announced ≡ passed preference taken
  pub attributes : ArePassedOn taken announced told

-- so is each route that is due to a client
abbrev pub DueRoutesAreTheSenders : Type 0
DueRoutesAreTheSenders = (run : List Move) (c : ℕ) (p : Prefix) (told : List Attribute) → due run c p ≡ Some told → IsSendersRoute run c p told

-- and each that the UPDATEs mean that the link of a client took, where it is served
abbrev pub ToldRoutesAreTheSenders : Type 0
ToldRoutesAreTheSenders =
    (run : List Move) (c : ℕ) (speech : Speech) (table : Prefix → Option (List Attribute)) → IsServed run c → speech_in (config_in run) c (hearing c run) ≡ Some speech
    → MeansTable (updates_in speech.limit (hearing c run).taken) speech.mode table → (p : Prefix) (told : List Attribute) → table p ≡ Some told → IsSendersRoute run c p told
