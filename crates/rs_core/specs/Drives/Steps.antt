-- The steps of a link, the newest first: events that came from the source, and calls on the sink.
use Rattle.std.specs.Prelude.{◌≡◌, ℕ, Bool, true, false, List, [], ◌∷◌, take, Option, Result, ⊤}
use Rattle.rs_policy.specs.declared.faults.RulesFault.{RulesFault}
use Rattle.rs_core.specs.declared.links.Event.{Event}
use Rattle.rs_core.specs.declared.links.Event.TheVariants.{Opened, Octets, Moment, Commanded, Turn, Room, Lost, Rules, Stop}

-- the octets of an event, where it left this in the piece and this is the text of the rules
abbrev pub octets_of : Event → List ℕ → List ℕ → List ℕ
octets_of (Octets c n) piece text = take n piece
octets_of (Opened c) piece text = []
octets_of (Moment t) piece text = []
octets_of (Commanded c command) piece text = []
octets_of Turn piece text = []
octets_of (Room c n) piece text = []
octets_of (Lost c) piece text = []
octets_of Rules piece text = text
octets_of Stop piece text = []

pub data Step : Type 0 where
  -- an event came from the source, with its octets
  Happened : (event : Event) (octets : List ℕ) → Step
  -- the calls on the sink, and what an offer answered
  Begin : (c : ℕ) → Step
  Busy : (c : ℕ) → Step
  Offer : (c : ℕ) (octets : List ℕ) (answer : Option ℕ) → Step
  Memory : (c : ℕ) → Step
  End : (c : ℕ) → Step
  Replaced : (answer : Result Unit RulesFault) → Step

-- these steps, the newest first, lead from one link to the other
abbrev pub Leads : {L : Type 0} → (L → Step → L → Type 0) → L → List Step → L → Type 0
Leads happens old [] new = old ≡ new
Leads {L} happens old (s ∷ run) new = (mid : L) × Leads happens old run mid × happens mid s new

-- there are no more events
abbrev pub stops : Event → Bool
stops (Opened c) = false
stops (Octets c n) = false
stops (Moment t) = false
stops (Commanded c command) = false
stops Turn = false
stops (Room c n) = false
stops (Lost c) = false
stops Rules = false
stops Stop = true

-- it is not the event that there are no more
abbrev pub GoesOn : Step → Type 0
GoesOn (Happened event octets) = stops event ≡ false
GoesOn (Begin c) = ⊤
GoesOn (Busy c) = ⊤
GoesOn (Offer c octets answer) = ⊤
GoesOn (Memory c) = ⊤
GoesOn (End c) = ⊤
GoesOn (Replaced answer) = ⊤

abbrev pub AllGoOn : List Step → Type 0
AllGoOn [] = ⊤
AllGoOn (s ∷ run) = AllGoOn run × GoesOn s

-- some steps lead from one link to the other, none of them a stop
pub record HasLed {L : Type 0} (happens : L → Step → L → Type 0) (old new : L) : Type 0 where
  pub run : List Step
  pub onward : AllGoOn run
  pub leads : Leads happens old run new

-- and then a stop
pub record HasStopped {L : Type 0} (happens : L → Step → L → Type 0) (old new : L) : Type 0 where
  pub before : L
  pub octets : List ℕ
  pub led : HasLed happens old before
  pub stops : happens before (Happened Stop octets) new
