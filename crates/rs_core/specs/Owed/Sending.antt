-- What messages that begin, and octets that are taken, make of what is owed to clients.
use Rattle.std.specs.Prelude.{◌≡◌, ◌≢◌, ◌<◌, ◌≤◌, ◌+◌, ◌==◌, ℕ, true, List, [], ◌∷◌, take, if◌then◌else◌}
use Rattle.rs_core.specs.Run.Moves.{Move, Began, Took}
use Rattle.rs_core.specs.Run.Meaning.{is_established}
use Rattle.rs_core.specs.Run.Agreeing.{Agrees}
use Rattle.rs_core.specs.Core.{client_count, lent_octets, owed, is_decided, touched_for}
use Rattle.rs_core.specs.declared.route_server.Core.{Core}

-- what is owed to the others is what it was, and for nobody was anything touched or decided
pub record SparesOwed (c : ℕ) (old new : Core) : Type 0 where
  pub touched : (d : ℕ) → d < client_count old → touched_for new d ≡ touched_for old d
  pub others : (d : ℕ) → d < client_count old → d ≢ c → owed new d ≡ owed old d
  pub decided : (d : ℕ) → d < client_count old → is_decided new d ≡ is_decided old d

-- the next message to a client began where none was in flight: nothing is in flight then just where nothing was owed; to an
-- Established client no more is owed than before
pub record OwesNoMore (c : ℕ) (old new : Core) : Type 0 where
  pub spares : SparesOwed c old new
  pub none : owed old c ≡ 0 → lent_octets new c ≡ []
  pub all : lent_octets new c ≡ [] → owed old c ≡ 0
  pub owing : (run : List Move) → Agrees old run → is_established run c ≡ true → owed new c ≤ owed old c

-- what is owed to the other clients is what it was
pub record LeavesOwed (c : ℕ) (old new : Core) : Type 0 where
  pub others : (d : ℕ) → d < client_count old → d ≢ c → owed new d ≡ owed old d

-- so many octets of it were taken, and so many fewer are owed
pub record OwesLess (c n : ℕ) (old new : Core) : Type 0 where
  pub spares : SparesOwed c old new
  pub owing : owed new c + n ≡ owed old c

-- these octets are lent, and the next message began
pub record HasLent (c : ℕ) (old : Core) (octets : List ℕ) (new : Core) : Type 0 where
  pub count : client_count new ≡ client_count old
  pub lent : octets ≡ lent_octets new c
  pub began : (run : List Move) → Agrees old run → Agrees new (Began c ∷ run)
  pub owes : OwesNoMore c old new

-- octets of what is lent were taken
pub record HasTaken (c n : ℕ) (old new : Core) : Type 0 where
  pub count : client_count new ≡ client_count old
  pub took : (run : List Move) → Agrees old run → Agrees new (Took c (take n (lent_octets old c)) ∷ run)
  pub owes : OwesLess c n old new

-- from a route server and its run on, what is lent to clients and taken by their links, and nothing else: of one client so
-- many octets
pub data Sends (c : ℕ) (old : Core) (before : List Move) : ℕ → Core → List Move → Type 0 where
  Start : Sends c old before 0 old before
  Lends : (d n : ℕ) (x y : Core) (run : List Move) (octets : List ℕ) → Sends c old before n x run → d < client_count x → HasLent d x octets y → Sends c old before n y (Began d ∷ run)
  Takes : (d k n : ℕ) (x y : Core) (run : List Move) → Sends c old before n x run → d < client_count x → HasTaken d k x y
      → Sends c old before (if d == c then n + k else n) y (Took d (take k (lent_octets x d)) ∷ run)

-- what was sent and what is still owed is no more than what was owed at first, and all is decided still
pub record IsSentOf (c n : ℕ) (old new : Core) (run : List Move) : Type 0 where
  pub agrees : Agrees new run
  pub established : is_established run c ≡ true
  pub decided : is_decided new c ≡ true
  pub enough : n + owed new c ≤ owed old c

-- where all is decided for an Established client, as a turn leaves it, what is owed then is enough
abbrev pub SendsAllOwed : Type 0
SendsAllOwed = (c : ℕ) (old : Core) (before : List Move) → c < client_count old → Agrees old before → is_established before c ≡ true → is_decided old c ≡ true
    → (n : ℕ) (new : Core) (run : List Move) → Sends c old before n new run → IsSentOf c n old new run
