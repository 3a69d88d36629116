use Rattle.std.proofs.Common.{◌≡◌, ◌∙◌, ap}
use Rattle.std.specs.Prelude.{option_map}
use Rattle.rs_outlet.specs.Decided.Passing.{attributes_passed}
use Rattle.rs_outlet.specs.Inside.{attributes_at, shown}
use Rattle.rs_outlet.proofs.Answered.{map_copied}
use Rattle.rs_outlet.proofs.Decided.Decisions.{decided_there}
use Rattle.rs_outlet.proofs.Decided.Numbering.{number_once}
use Rattle.rs_outlet.proofs.turn.list_change.Goals as goal

pub returns-then-is_due : goal.returns-then-is_due
returns-then-is_due c = λ ins due_at rows number there is.
    let n = c.args.number in
    let p = c.args.prefix in
    let at : attributes_at rows n ≡ due_at p =
    ap shown there
    ∙ c.is_due.ensures c.if-is_due.true ∙ map_copied attributes_passed c.as_ref.result
    ∙ ap (option_map attributes_passed) c.as_ref.ensures.value ∙ is in
    decided_there ins due_at rows n p _ number (λ q at. number_once ins q p n at number) at
