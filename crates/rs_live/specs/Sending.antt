-- What goes to the ports of the octets that a connection was handed. What was asked last stands first.
use Rattle.std.specs.Prelude.{◌≡◌, ℕ, List, ◌∷◌, drop, Option, Some, None, Result, Ok, Err, IsOk}
use Rattle.rs_live.specs.declared.ports.PortFault.{PortFault}
use Rattle.rs_live.specs.Calls.{Call, Wrote}

-- how many octets the ports took by this answer
abbrev pub taken : Result (Option ℕ) PortFault → ℕ
taken (Ok None) = 0
taken (Ok (Some count)) = count
taken (Err fault) = 0

-- from calls after which the first octets wait to calls after which the last do: each is a write of all that waits, of the
-- connection with this key, and none failed
pub data Writes (key : Option ℕ) (before : List Call) (first : List ℕ) : List Call → List ℕ → Type 0 where
  NoWrite : Writes key before first before first
  OneMore : (k : ℕ) (answer : Result (Option ℕ) PortFault) (calls : List Call) (waiting : List ℕ) → key ≡ Some k → IsOk answer → Writes key before first calls waiting → Writes key before first (Wrote k waiting answer ∷ calls) (drop (taken answer) waiting)

-- the ports were asked just such writes beyond the calls before, and what waits after them is so
pub record Sent {P : Type 0} (asked : P → List Call → Type 0) (key : Option ℕ) (before : List Call) (first : List ℕ) (ports : P) (Is : List ℕ → Type 0) : Type 0 where
  pub calls : List Call
  pub waiting : List ℕ
  pub writes : Writes key before first calls waiting
  pub were : asked ports calls
  pub is : Is waiting

-- and then one more, of the connection with this key, that failed
abbrev pub Broke : {P : Type 0} → (P → List Call → Type 0) → ℕ → Option ℕ → List Call → List ℕ → P → List ℕ → Type 0
Broke asked k key before first ports waiting = (key ≡ Some k) × ((fault : PortFault) × Sent (λ p cs. asked p (Wrote k waiting (Err fault) ∷ cs)) key before first ports (λ w. waiting ≡ w))
