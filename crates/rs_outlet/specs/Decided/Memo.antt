-- What became of a route of which a turn still knows.
use Rattle.std.specs.Prelude.{◌≡◌, ℕ, Option, Some, option_map}
use Rattle.std.specs.Arc.{arc_value}
use Rattle.rs_octets.specs.Prefixes.{Prefix}
use Rattle.rs_policy.specs.Configuration.{Configuration}
use Rattle.rs_policy.specs.Noted.{note_of_import}
use Rattle.rs_policy.specs.Verdicts.{verdict}
use Rattle.rs_outlet.specs.Decided.Due.{passed_on}
use Rattle.rs_outlet.specs.Decided.Passing.{attributes_passed}
use Rattle.rs_outlet.specs.declared.memo.Judged.{Judged}

-- it becomes of each of the same client, with the same attributes and note
abbrev pub IsJudged : Configuration → ℕ → Judged → Type 0
IsJudged s to j = (p : Prefix) → j.note ≡ note_of_import s j.from p (arc_value j.whole.now) → option_map attributes_passed j.passed ≡ passed_on (arc_value j.whole.now) (verdict s j.from to p (arc_value j.whole.now))

abbrev pub IsMemo : Configuration → ℕ → Option Judged → Type 0
IsMemo s to memo = (j : Judged) → memo ≡ Some j → IsJudged s to j
