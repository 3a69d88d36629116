-- One write of a connection after the other.
use Rattle.std.proofs.Common.{◌≡◌, ℕ, List, ◌∷◌, Option, Some, Result, Err, drop, refl, ◌∙◌, subst}
use Rattle.std.specs.Prelude.{IsOk}
use Rattle.rs_live.specs.declared.ports.PortFault.{PortFault}
use Rattle.rs_live.specs.Calls.{Call, Wrote}
use Rattle.rs_live.specs.Sending.{taken, NoWrite, OneMore, Sent, Broke}
use Rattle.rs_live.proofs.Handling.Calls.{AsksMore}

-- nothing was written yet
pub unsent : {P : Type 0} (asked : P → List Call → Type 0) (key : Option ℕ) (before : List Call) (first : List ℕ) (p : P) → asked p before → Sent asked key before first p (λ waiting. first ≡ waiting)
unsent asked key before first p h = record { calls = before; waiting = first; writes = NoWrite; were = h; is = refl }

-- all that waits was written once more
pub sends : {P : Type 0} (asked : P → List Call → Type 0) (key : Option ℕ) (before : List Call) (first : List ℕ) (a b : P) (k : ℕ) (octets : List ℕ) (answer : Result (Option ℕ) PortFault) (was now : List ℕ) → key ≡ Some k → IsOk answer → octets ≡ was → AsksMore asked a (Wrote k octets answer) b → now ≡ drop (taken answer) was → Sent asked key before first a (λ waiting. was ≡ waiting) → Sent asked key before first b (λ waiting. now ≡ waiting)
sends asked key before first a b k octets answer was now e ok all more rest h = record {
  calls = Wrote k h.waiting answer ∷ h.calls;
  waiting = drop (taken answer) h.waiting;
  writes = OneMore k answer h.calls h.waiting e ok h.writes;
  were = subst (λ w. asked b (Wrote k w answer ∷ h.calls)) (all ∙ h.is) (more h.calls h.were);
  is = subst (λ w. now ≡ drop (taken answer) w) h.is rest;
}

-- or that failed
pub breaks_off : {P : Type 0} (asked : P → List Call → Type 0) (key : Option ℕ) (before : List Call) (first : List ℕ) (a b : P) (k : ℕ) (octets : List ℕ) (fault : PortFault) (was : List ℕ) → key ≡ Some k → octets ≡ was → AsksMore asked a (Wrote k octets (Err fault)) b → Sent asked key before first a (λ waiting. was ≡ waiting) → Broke asked k key before first b was
breaks_off asked key before first a b k octets fault was e all more h = (e, (fault, record { calls = h.calls; waiting = h.waiting; writes = h.writes; were = subst (λ w. asked b (Wrote k w (Err fault) ∷ h.calls)) all (more h.calls h.were); is = h.is }))
