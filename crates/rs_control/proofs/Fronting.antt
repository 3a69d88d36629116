-- Where a line ends, or doesn't.
use Rattle.std.proofs.Common.{◌≡◌, ℕ, Bool, true, false, Option, Some, None, cond, ap}
use Rattle.rs_control.specs.declared.fronts.Front.{Front}
use Rattle.rs_control.specs.declared.fronts.Front.TheVariants as fronts

at_place : (n at : ℕ) (r : Option ℕ) → r ≡ Some n → r ≡ Some at → at ≡ n
at_place n at r e f = cc

pub line_at : (b : Bool) (n at : ℕ) (other : Front) (r : Option ℕ) → r ≡ cond b (Some n) None → r ≡ Some at → fronts.Line at ≡ cond b (fronts.Line n) other
line_at true n at other r e f = ap (λ m. fronts.Line m) (at_place n at r e f)
line_at false n at other r e f = cc

pub no_line : (b : Bool) (n : ℕ) (found other : Front) (r : Option ℕ) → r ≡ cond b (Some n) None → r ≡ None → found ≡ other → found ≡ cond b (fronts.Line n) other
no_line true n found other r e f g = cc
no_line false n found other r e f g = g
