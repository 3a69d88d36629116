use Rattle.std.proofs.Common.{◌≡◌, ℕ, [], ◌∷◌, ◌++◌, get_or, arith, length-append}
use Rattle.std.proofs.lemmas.List.{get_or_default}
use Rattle.rs_lists.specs.Lists.{covers}
use Rattle.rs_policy.specs.Verdicts.{in_as_range}
use Rattle.rs_policy.proofs.Judging.Spans.{one_more}
use Rattle.rs_policy.proofs.config.indexed.as_spans.Goals as goal

pub loop-range-preserved : goal.loop-range-preserved
loop-range-preserved c =
    let grown : c.push.new.self.items ≡ c.loop-range.spans.items ++ c.as_span.result ∷ [] = c.in_ok-push.ensures.items in
    let range : ℕ × ℕ = get_or c.args.ranges.now c.loop-range.range-index (0, 0) in
    let this : range ≡ get_or c.args.ranges.now c.loop-range.range-index range = get_or_default c.args.ranges.now c.loop-range.range-index (0, 0) range c.loop-range-test.true in
    record {
      indexed = λ n.
          rw grown
          (one_more (λ s. covers n 0 s) (λ r. in_as_range r n) c.loop-range.spans.items c.args.ranges.now c.loop-range.range-index range c.as_span.result
          c.loop-range-test.true this (c.loop-range.invariant.indexed n) (c.as_span.ensures n));
      count = rw grown (omega (arith, c.loop-range.invariant.count, length-append c.loop-range.spans.items (c.as_span.result ∷ [])));
    }
