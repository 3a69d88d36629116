use Rattle.std.proofs.Common.{◌≡◌, ◌==◌, ℕ, true, length, [], sym, ap, ◌∙◌, arith}
use Rattle.std.proofs.lemmas.Bool.Decides.{nat_tests}
use Rattle.rs_outlet.specs.Decided.HeldBy.{held_by}
use Rattle.rs_outlet.proofs.Decided.Numbering.{no_elements}
use Rattle.rs_outlet.proofs.Decided.Ranks.{due_unheld, sent}
use Rattle.rs_outlet.proofs.turn.is_unheld.Goals as goal

zero_is : (n : ℕ) → (n == 0) ≡ true → n ≡ 0
zero_is n h = grind (arith, nat_tests, h)

pub returns : goal.returns
returns c = λ none speech p at.
    let holders = c.at_number.result in
    let s = c.args.sources.now in
    let empty : [] ≡ sent holders = ap sent (no_elements holders (zero_is (length holders) (sym c.is_empty.ensures ∙ none))) in
    due_unheld (held_by s) s.client speech p (empty ∙ (c.at_number.ensures.holders p at).all)
