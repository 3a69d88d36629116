-- What a client that is drained was told, by the offers that its link took.
use Rattle.std.specs.Prelude.{◌≡◌, ◌==◌, ℕ, true, List, [], ◌∷◌, ◌++◌, take, Some, None, if◌then◌else◌}
use Rattle.rs_session.specs.Items.{is_connected}
use Rattle.rs_policy.specs.Configuration.{Configuration}
use Rattle.rs_outlet.specs.declared.answers.Speech.{Speech}
use Rattle.rs_core.specs.Run.Moves.{Ruled, config_in}
use Rattle.rs_core.specs.Told.Telling.{Speaks}
use Rattle.rs_core.specs.Run.Meaning.{hearing, speech_in, is_established, due, IsServed}
use Rattle.rs_core.specs.Drives.Steps.{Step, Happened, Begin, Busy, Offer, Memory, End, Replaced}
use Rattle.rs_core.specs.Run.Agreeing.{Agrees}
use Rattle.rs_core.specs.Drives.Courses.{Course, course}
use Rattle.rs_core.specs.Drives.Answers.{Drove}
use Rattle.rs_core.specs.declared.route_server.Core.{Core}

-- what the link of a client took of its offers, since its connection was last begun
abbrev pub taken_by : ℕ → List Step → List ℕ
taken_by c [] = []
taken_by c (Happened event octets ∷ steps) = taken_by c steps
taken_by c (Begin d ∷ steps) = if d == c then [] else taken_by c steps
taken_by c (Busy d ∷ steps) = taken_by c steps
taken_by c (Offer d octets None ∷ steps) = taken_by c steps
taken_by c (Offer d octets (Some n) ∷ steps) = if d == c then taken_by c steps ++ take n octets else taken_by c steps
taken_by c (Memory d ∷ steps) = taken_by c steps
taken_by c (End d ∷ steps) = taken_by c steps
taken_by c (Replaced answer ∷ steps) = taken_by c steps

-- nothing has happened yet
abbrev pub start : (config : Configuration) (core : Core) → Agrees core (Ruled config ∷ []) → Course
start config core agrees = course core [] (Ruled config ∷ []) agrees

-- a client is Established, and its link took whole messages whose UPDATEs mean exactly the table that is due to it
pub record IsServedBy (x : Course) (c : ℕ) : Type 0 where
  pub established : is_established x.run c ≡ true
  pub told : (speech : Speech) → speech_in (config_in x.run) c (hearing c x.run) ≡ Some speech → Speaks speech (taken_by c x.steps) (due x.run c)

-- what a connection took by the run is what its link took of the offers
abbrev pub IsTakenBy : ℕ → Course → Type 0
IsTakenBy c x = is_connected (hearing c x.run).items ≡ true → (hearing c x.run).taken ≡ taken_by c x.steps

-- after any number of drives a client that is served was told its table by the offers
abbrev pub ServesByOffers : Type 0
ServesByOffers = (c : ℕ) (config : Configuration) (core : Core) (agrees : Agrees core (Ruled config ∷ [])) (x : Course) → Drove (start config core agrees) x → IsServed x.run c → IsServedBy x c
