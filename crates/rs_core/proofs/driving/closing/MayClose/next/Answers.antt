use Rattle.std.proofs.Common.{◌≡◌, ◌<◌, ◌+◌, ◌*◌, ◌/◌, ◌^◌, inl, inr, arith, rules}
use Rattle.std.specs.Prelude.{slice_index}
use Rattle.std.proofs.lemmas.Bool.{cases_lt}
use Rattle.std.proofs.lemmas.Bool.Decides.{nat_tests}
use Rattle.rs_core.specs.Drives.Closing.{may_close}
use Rattle.rs_core.proofs.Drives.Sets.{none_in_word, lowest_in_word, none_below}
use Rattle.rs_core.proofs.driving.closing.MayClose.next.Goals as goal

pub loop-place-preserved : goal.loop-place-preserved
unfolding may_close
loop-place-preserved c =
    let words = c.args.self.now.words in
    let place = c.loop-place.place in
    let bit = c.loop-place.bit in
    let was = c.loop-place.invariant in
    let none : slice_index words place / 2 ^ bit ≡ 0 = grind (arith, nat_tests, c.if-rest-ne0.false) in
    record {
      bit = omega arith;
      from = omega (arith, was.from, was.bit);
      none = λ d low high. elim (cases_lt d (place * 64 + bit)) [
        | inl before ↦ was.none d low before
        | inr from ↦ none_in_word words place bit d none from (omega (arith, high))
      ];
    }

pub returns-then-c-end-clause-found : goal.returns-then-c-end-clause-found
unfolding may_close
returns-then-c-end-clause-found c =
    let words = c.args.self.now.words in
    let place = c.loop-place.place in
    let bit = c.loop-place.bit in
    let was = c.loop-place.invariant in
    let some : 0 < slice_index words place / 2 ^ bit = grind (arith, nat_tests, c.if-rest-ne0.true) in
    let it = lowest_in_word words place bit (search rules) (search rules) some in
    record {
      starts = omega (arith, was.from, it.from);
      below = c.if-c-end.true;
      there = it.there;
      none_before = none_below words c.args.from place bit _ was.none it;
    }

pub returns-else-c-end-clause-none : goal.returns-else-c-end-clause-none
unfolding may_close
returns-else-c-end-clause-none c = λ none.
    let words = c.args.self.now.words in
    let place = c.loop-place.place in
    let bit = c.loop-place.bit in
    let was = c.loop-place.invariant in
    let some : 0 < slice_index words place / 2 ^ bit = grind (arith, nat_tests, c.if-rest-ne0.true) in
    λ d low high. none_below words c.args.from place bit _ was.none (lowest_in_word words place bit (search rules) (search rules) some) d low (omega (arith, high, c.if-c-end.false))
