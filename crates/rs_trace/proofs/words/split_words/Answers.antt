use Rattle.std.proofs.Common.{[], ◌∷◌, refl, arith}
use Rattle.rs_trace.specs.Words.{words_of}
use Rattle.rs_trace.proofs.WordLemmas.{words_of-some}
use Rattle.rs_trace.proofs.words.split_words.Goals as goal
use Rattle.rs_trace.proofs.words.split_words.Goals.{in-None, in-Some-rest-2}

pub returns : goal.returns
returns c =
    let first = rw c.in-Some.is at c.split_word.ensures in
    let second = rw c.in-Some-rest.is at c.split_word-2.ensures in
    elim c.match-rest-3.branch [
      | in-None w ↦
          let third = rw w.in-None.is at c.split_word-3.ensures in
          (c.split_word-2.result.0.now ∷ c.split_word-3.result.0.now ∷ [], cc, rw w.operands-is refl)
      | in-Some-rest-2 w ↦
          let third = rw w.in-Some-rest-2.is at c.split_word-3.ensures in
          let behind = words_of w.in-Some-rest-2.field-0.now in
          (c.split_word-2.result.0.now ∷ c.split_word-3.result.0.now ∷ behind, cc, rw w.operands-is (omega (arith, words_of-some w.in-Some-rest-2.field-0.now)))
    ]
