use Rattle.std.proofs.Common.{◌≡◌, ◌∙◌, sym, arith, take, drop, length, length-drop, ◌-◌, ◌+◌}
use Rattle.std.proofs.lemmas.List.{take_all}
use Rattle.rs_trace.proofs.WordLemmas.{words_of-split, words_of-whole, place_of_space, no_space}
use Rattle.rs_trace.proofs.words.split_word.Goals as goal

pub returns-in-Some : goal.returns-in-Some
returns-in-Some c =
    let facts = place_of_space c.args.text.now c.in-Some.space (sym c.first_place.ensures ∙ c.in-Some.is) in
    let text = c.args.text.now in
    let at = c.in-Some.space + 1 in
    let rest : take (length text - at) (drop at text) ≡ drop at text = take_all (length text - at) (drop at text) (omega (arith, length-drop at text)) in
    rw rest (rw facts.1 at (words_of-split text (omega (arith, facts.0, facts.1))))

pub returns-in-None : goal.returns-in-None
returns-in-None c = words_of-whole c.args.text.now (no_space c.args.text.now (sym c.first_place.ensures ∙ c.in-None.is))
