use Rattle.std.proofs.Common.{◌≡◌, ◌∙◌, ◌++◌, ◌∷◌, [], None, List, rules, sym, ap, append-nil}
use Rattle.rs_octets.specs.Prefixes.{Prefix}
use Rattle.rs_outlet.specs.declared.waiting.Wait.{Wait}
use Rattle.rs_outlet.specs.Pending.Choosing.{passing}
use Rattle.rs_outlet.specs.Pending.Slots.{is_withdrawn}
use Rattle.rs_outlet.proofs.Message.Chosen.{chosen_withdrawn}
use Rattle.rs_outlet.proofs.Message.Fullest.{at_slot, passing_none, passing_one}
use Rattle.rs_outlet.proofs.waiting.Waits.list_withdrawn.Goals as goal

pub returns-then-is_withdrawn-clause-are : goal.returns-then-is_withdrawn-clause-are
returns-then-is_withdrawn-clause-are c = λ rows are.
    c.list_slot.ensures.are rows c.args.self.now.slots.items None are
    (chosen_withdrawn rows c.args.self.now.slots.items c.args.slot c.index-wait.result.now c.args.self.now.apart (search rules) c.index-wait.ensures c.len-len.ensures.prefix (sym c.is_withdrawn.ensures ∙ c.if-is_withdrawn.true))

pub returns-then-is_withdrawn-clause-all : goal.returns-then-is_withdrawn-clause-all
returns-then-is_withdrawn-clause-all c =
    let w = c.index-wait.result.now in
    at_slot (λ (w : Wait). c.list_slot.new.front.items ≡ c.args.front.now.items ++ passing is_withdrawn (w ∷ [])) c.args.self.now.slots.items c.args.slot w (search rules) c.index-wait.ensures
    (c.list_slot.ensures.prefix ∙ ap (λ (ps : List Prefix). c.args.front.now.items ++ ps) (sym (passing_one is_withdrawn w (sym c.is_withdrawn.ensures ∙ c.if-is_withdrawn.true))))

pub returns-else-is_withdrawn-clause-all : goal.returns-else-is_withdrawn-clause-all
returns-else-is_withdrawn-clause-all c =
    let w = c.index-wait.result.now in
    at_slot (λ (w : Wait). c.args.front.now.items ≡ c.args.front.now.items ++ passing is_withdrawn (w ∷ [])) c.args.self.now.slots.items c.args.slot w (search rules) c.index-wait.ensures
    (sym (append-nil c.args.front.now.items) ∙ ap (λ (ps : List Prefix). c.args.front.now.items ++ ps) (sym (passing_none is_withdrawn w (sym c.is_withdrawn.ensures ∙ c.if-is_withdrawn.false))))
