-- Which clients may be closing.
use Rattle.std.specs.Prelude.{◌≡◌, ◌<◌, ◌≤◌, ℕ, Bool, true, false, List}
use Rattle.rs_adjin.specs.Held.{bit_of}
use Rattle.rs_core.specs.Run.Moves.{Move}
use Rattle.rs_core.specs.Drives.Courses.{Course}
use Rattle.rs_core.specs.Drives.Answers.{closes, Answers}
use Rattle.rs_core.specs.declared.driving.closing.MayClose.{MayClose}
use Rattle.rs_core.specs.declared.links.Event.{Event}

-- a client is in the set
unfoldable pub may_close : MayClose → ℕ → Bool
may_close set c = bit_of set.words c

-- this one is the least of the set from one on and below an end
pub record IsNext (set : MayClose) (from end c : ℕ) : Type 0 where
  pub starts : from ≤ c
  pub below : c < end
  pub there : may_close set c ≡ true
  pub none_before : (d : ℕ) → from ≤ d → d < c → may_close set d ≡ false

-- each client that is closing is in the set, of the 512 that a configuration can have
abbrev pub HasClosing : MayClose → List Move → Type 0
HasClosing set run = (c : ℕ) → c < 512 → closes run c ≡ true → may_close set c ≡ true

-- where each client that is closing was in the old set, this was done, and each that is closing then is in the new one
abbrev pub DoesAmong : (Course → Course → Type 0) → MayClose → MayClose → Course → Course → Type 0
DoesAmong By old new x y = HasClosing old x.run → By x y × HasClosing new y.run

-- so after whatever answers an event
abbrev pub Notes : Event → MayClose → MayClose → Type 0
Notes event old new = (octets : List ℕ) (x y : Course) → Answers octets event x y → HasClosing old x.run → HasClosing new y.run
