use Rattle.std.proofs.Common.{◌≡◌, ◌∙◌, ap, ◌/◌, ◌%◌, ◌<◌, ◌==◌, length, false, arith, w64}
use Rattle.std.specs.Prelude.{slice_index}
use Rattle.std.proofs.lemmas.Nat.Bits.{bit_at_clear_same, bit_at_clear_other}
use Rattle.std.specs.Int.{bit_at}
use Rattle.std.proofs.lemmas.List.{get_or_default}
use Rattle.rs_adjin.specs.Held.{has_number, one_if}
use Rattle.rs_adjin.proofs.Bits.{within, written}
use Rattle.rs_adjin.proofs.held.Held.remove.Goals as goal

pub index_mut-requires : goal.index_mut-requires
unfolding has_number
index_mut-requires c = let below : c.args.number / 64 < length c.args.self.now.words.items = within c.args.self.now.words.items c.args.number c.requires.there in omega (arith, below)

pub returns : goal.returns
unfolding has_number
returns c =
    let words = c.args.self.now.words.items in
    let k = c.args.number % 64 in
    let below : c.args.number / 64 < length words = within words c.args.number c.requires.there in
    let read : c.index_mut.result.now ≡ slice_index words (c.args.number / 64) = c.index_mut.ensures.value ∙ get_or_default words (c.args.number / 64) _ 0 below in
    record {
      numbers = written words c.args.number _ false below (ap (λ x. x == 1) (bit_at_clear_same w64 c.index_mut.result.now k (omega arith)))
          (λ i small ne. bit_at_clear_other w64 c.index_mut.result.now k (omega arith) i small ne ∙ ap (λ w. bit_at w i) read);
      count = omega (arith, ap one_if c.requires.there, c.requires.count);
    }
