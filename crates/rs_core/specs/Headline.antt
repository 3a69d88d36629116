-- The claim of the whole, in one statement. For every configuration and every interleaving of connections, octets in any pieces,
-- moments, turns, taken octets, losses and replaced rules: wherever a client is drained, it is Established, and the UPDATEs that its
-- link took since its connection came mean exactly the table that RFC 7947 gives it from what the other clients' octets mean: at each
-- prefix the best of their routes that the rules pass, with its sender's AS_PATH, NEXT_HOP and MULTI_EXIT_DISC, and at any other nothing.
use Rattle.std.specs.Prelude.{◌≡◌, ℕ, List, [], ◌∷◌, Some}
use Rattle.rs_octets.specs.Prefixes.{Prefix}
use Rattle.rs_attrs.specs.Meaning.{Attribute}
use Rattle.rs_policy.specs.Configuration.{Configuration}
use Rattle.rs_core.specs.Run.Moves.{Ruled}
use Rattle.rs_core.specs.Run.Agreeing.{Agrees}
use Rattle.rs_core.specs.Drives.Steps.{Step}
use Rattle.rs_core.specs.Drives.Courses.{Course, Continues, Reaches}
use Rattle.rs_core.specs.Drives.Answers.{Drives, Drove}
use Rattle.rs_core.specs.Drives.Serving.{start, IsServedBy}
use Rattle.rs_core.specs.Run.Meaning.{due}
use Rattle.rs_core.specs.Told.Senders.{IsSendersRoute}
use Rattle.rs_core.specs.Owed.Draining.{IsDrained}
use Rattle.rs_core.specs.declared.route_server.Core.{Core}

-- A new route server of this configuration and a link were driven any number of times, by one thread or by workers; now they are
-- these. A source may stop after any event, so each point between two events is one of these.
pub data WereDriven {L : Type 0} (happens : L → Step → L → Type 0) (config : Configuration) (first : L) : Core → L → Type 0 where
  New : (core : Core) → Agrees core (Ruled config ∷ []) → WereDriven happens config first core first
  Driven : (old new : Core) (before after : L) → WereDriven happens config first old before → Continues happens old before new after Drives
      → WereDriven happens config first new after

-- Client c is Established, and the UPDATEs that its link took of the offers since its connection was last begun mean exactly the table
-- that is due to it; and each route of that is another client's, with its attributes as that one announced them.
pub record HasWhatIsDue (x : Course) (c : ℕ) : Type 0 where
  pub served : IsServedBy x c
  pub senders : (p : Prefix) (route : List Attribute) → due x.run c p ≡ Some route → IsSendersRoute x.run c p route

-- the steps of the link are those of a course of drives from the start on, and in it each drained client has what is due to it
pub record HasCome (config : Configuration) (x : Course) : Type 0 where
  pub new : Core
  pub agrees : Agrees new (Ruled config ∷ [])
  pub drove : Drove (start config new agrees) x
  pub drained : (c : ℕ) → IsDrained x c → HasWhatIsDue x c

abbrev pub DrainedClientsHaveWhatIsDue : {L : Type 0} → (L → Step → L → Type 0) → Type 0
DrainedClientsHaveWhatIsDue {L} happens =
    (config : Configuration) (first : L) (core : Core) (link : L) → WereDriven happens config first core link → Reaches happens first core link (HasCome config)
