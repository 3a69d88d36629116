use Rattle.std.proofs.Common.{◌≡◌, ◌∙◌, ap, ◌/◌, ◌%◌, ◌<◌, ◌==◌, length, true, arith, w64}
use Rattle.std.specs.Prelude.{slice_index, if◌then◌else◌}
use Rattle.std.proofs.lemmas.Nat.Bits.{bit_at_set_same, bit_at_set_other}
use Rattle.std.specs.Int.{bit_at}
use Rattle.std.proofs.lemmas.List.{get_or_default}
use Rattle.rs_adjin.specs.Held.{has_number, one_if}
use Rattle.rs_adjin.proofs.Bits.{written}
use Rattle.rs_adjin.proofs.held.Held.add.Goals as goal

pub returns-clause-ok : goal.returns-clause-ok
unfolding has_number
returns-clause-ok c =
    let words = c.grow.new.self.words.items in
    let k = c.args.number % 64 in
    let below : c.args.number / 64 < length words = c.in_ok-grow.ensures.room in
    let read : c.index_mut.result.now ≡ slice_index words (c.args.number / 64) = c.index_mut.ensures.value ∙ get_or_default words (c.args.number / 64) _ 0 below in
    record {
      numbers = λ m.
          written words c.args.number _ true below (ap (λ x. x == 1) (bit_at_set_same w64 c.index_mut.result.now k (omega arith)))
          (λ i small ne. bit_at_set_other w64 c.index_mut.result.now k (omega arith) i ne ∙ ap (λ w. bit_at w i) read) m
          ∙ ap (λ b. if m == c.args.number then true else b) (c.grow.ensures.same.numbers m);
      count = omega (arith, ap one_if c.requires, c.in-Some.ensures);
    }
