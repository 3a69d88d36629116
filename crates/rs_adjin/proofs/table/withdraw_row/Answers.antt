use Rattle.std.proofs.Common.{◌∙◌, sym, false, None}
use Rattle.std.specs.Prelude.{is_some}
use Rattle.rs_adjin.specs.Routes.{value_in}
use Rattle.rs_adjin.specs.Numbers.{routes_at}
use Rattle.rs_adjin.proofs.Holding.{has_as, held_counts, mark_same, held_marked, some_counted}
use Rattle.rs_adjin.proofs.table.withdraw_row.Goals as goal

pub returns-then-not-take_row-clause-tied : goal.returns-then-not-take_row-clause-tied
returns-then-not-take_row-clause-tied c =
    held_marked c.args.client c.args.table.now c.take_row.new.table c.args.prefix c.args.number None c.requires.number c.take_row.ensures.numbers c.take_row.ensures.writes c.args.held.now c.args.held.now c.requires.tied
    (mark_same c.args.held.now c.args.number false (has_as c.args.client c.args.held.now c.args.table.now c.requires.tied c.args.prefix c.args.number c.requires.number ∙ (sym c.take_row.ensures.taken ∙ c.if-not-take_row.true)))

pub remove-requires-clause-there : goal.remove-requires-clause-there
remove-requires-clause-there c = has_as c.args.client c.args.held.now c.args.table.now c.requires.tied c.args.prefix c.args.number c.requires.number ∙ (sym c.take_row.ensures.taken ∙ c.if-not-take_row.false)

pub remove-requires-clause-count : goal.remove-requires-clause-count
remove-requires-clause-count c =
    some_counted (λ p. is_some (value_in c.args.client (routes_at c.args.table.now p))) c.args.held.now.count (held_counts c.args.client c.args.held.now c.args.table.now c.requires.tied) c.args.prefix
    (sym c.take_row.ensures.taken ∙ c.if-not-take_row.false)

pub returns-clause-tied : goal.returns-clause-tied
returns-clause-tied c = held_marked c.args.client c.args.table.now c.take_row.new.table c.args.prefix c.args.number None c.requires.number c.take_row.ensures.numbers c.take_row.ensures.writes c.args.held.now c.remove.new.self c.requires.tied c.remove.ensures
