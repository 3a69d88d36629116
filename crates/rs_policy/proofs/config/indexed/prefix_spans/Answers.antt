use Rattle.std.proofs.Common.{◌≡◌, [], ◌∷◌, ◌++◌, arith, length-append}
use Rattle.rs_lists.specs.Lists.{covers}
use Rattle.rs_policy.specs.Verdicts.{in_range}
use Rattle.rs_policy.proofs.Judging.Spans.{one_more}
use Rattle.rs_policy.proofs.config.indexed.prefix_spans.Goals as goal

pub loop-range-preserved : goal.loop-range-preserved
loop-range-preserved c =
    let grown : c.push.new.self.items ≡ c.loop-range.spans.items ++ c.span_of.result ∷ [] = c.in_ok-push.ensures.items in
    record {
      indexed = λ p.
          rw grown
          (one_more (covers p.bits p.len) (λ r. in_range r p) c.loop-range.spans.items c.args.ranges.now c.loop-range.range-index c.range-item.result c.span_of.result
          c.loop-range-test.true c.range-item.is (c.loop-range.invariant.indexed p) (c.span_of.ensures p));
      count = rw grown (omega (arith, c.loop-range.invariant.count, length-append c.loop-range.spans.items (c.span_of.result ∷ [])));
    }
