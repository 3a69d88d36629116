use Rattle.std.proofs.Common.{◌∙◌, sym, rules}
use Rattle.std.proofs.lemmas.List.Sorted.{answers_always}
use Rattle.rs_outlet.proofs.Pending.MarkedAgain.{found_listed, not_found}
use Rattle.rs_outlet.proofs.waiting.marking.has_prefix.Goals as goal

pub returns-clause-absent : goal.returns-clause-absent
returns-clause-absent c = λ none.
    not_found c.args.prefix.now c.args.slots.now c.requires c.binary_search_by_key.result
    (c.binary_search_by_key.ensures.position (λ w. w.prefix) (answers_always _ _ _ (λ f a r g called. search rules)))
    (sym c.is_ok.ensures.value ∙ none)

pub returns-clause-listed : goal.returns-clause-listed
returns-clause-listed c = λ there.
    found_listed c.args.prefix.now c.args.slots.now c.binary_search_by_key.result
    (c.binary_search_by_key.ensures.position (λ w. w.prefix) (answers_always _ _ _ (λ f a r g called. search rules)))
    c.binary_search_by_key.ensures.bound
    (sym c.is_ok.ensures.value ∙ there)
