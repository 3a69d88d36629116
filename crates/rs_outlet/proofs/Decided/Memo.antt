-- What became of a route of which a turn still knows.
use Rattle.std.proofs.Common.{◌≡◌, ◌∙◌, ℕ, Option, Some, None, sym}
use Rattle.rs_policy.specs.Configuration.{Configuration}
use Rattle.rs_outlet.specs.declared.memo.Judged.{Judged}
use Rattle.rs_outlet.specs.Decided.Memo.{IsMemo}

pub no_memo : (s : Configuration) (to : ℕ) (memo : Option Judged) → memo ≡ None → IsMemo s to memo
no_memo s to memo none = λ j is. absurd (let f : None ≡ Some j = sym none ∙ is in (cc f))
