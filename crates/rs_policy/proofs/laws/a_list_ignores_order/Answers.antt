use Rattle.rs_policy.specs.Verdicts.{in_range}
use Rattle.rs_policy.proofs.Judging.Sets.{same_answer}
use Rattle.rs_policy.proofs.laws.a_list_ignores_order.Goals as goal

pub returns : goal.returns
returns c xs ys same p = same_answer (λ r. in_range r p) xs ys same
