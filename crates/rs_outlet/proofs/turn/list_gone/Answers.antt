use Rattle.std.proofs.Common.{◌≡◌, ◌∙◌, None, Some, ap, inl, option_map, refl, sym}
use Rattle.rs_rows.specs.Places.{lent_row}
use Rattle.rs_outlet.proofs.Answered.{map_copied}
use Rattle.rs_outlet.proofs.Decided.Numbering.{number_back, number_there}
use Rattle.rs_outlet.proofs.turn.list_gone.Goals as goal

pub returns-in_default : goal.returns-in_default
returns-in_default c = λ due_at none.
    inl (refl, λ p at. absurd (let f : None ≡ Some p = sym c.in_default.is ∙ c.prefix.ensures ∙ number_there c.args.sources.now.ins.now p c.args.number at in (cc)))

pub returns : goal.returns
returns c = λ due_at none.
    let s = c.args.sources.now in
    let placed = number_back s.ins.now c.in-Some.prefix c.args.number (sym c.prefix.ensures ∙ c.in-Some.is) in
    c.list_change.ensures s.ins.now due_at c.args.rows.now.rows.items placed (sym c.get.ensures ∙ ap (option_map lent_row) (sym c.as_ref.ensures.value) ∙ sym (map_copied lent_row c.as_ref.result)) (sym (none c.in-Some.prefix placed))
