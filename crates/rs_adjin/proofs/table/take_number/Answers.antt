use Rattle.std.proofs.Common.{◌≡◌, sym, None, Some}
use Rattle.rs_adjin.specs.Numbers.{number_in}
use Rattle.rs_adjin.proofs.Holding.{row_here, row_apart}
use Rattle.rs_adjin.proofs.Ties.{writes_others}
use Rattle.rs_adjin.proofs.table.take_number.Goals as goal

number : (c : goal.After-take_row) → number_in c.args.table.now c.in-Some.prefix ≡ Some c.args.number
number c = c.args.table.now.inverse.back c.in-Some.prefix c.args.number (sym c.in-Some.ensures)

pub returns-clause-others : goal.returns-clause-others
returns-clause-others c = writes_others c.args.table.now c.take_row.new.table c.args.client c.in-Some.prefix None c.take_row.ensures.writes

pub returns-clause-gone : goal.returns-clause-gone
returns-clause-gone c = row_here c.args.client c.args.table.now c.take_row.new.table c.in-Some.prefix c.args.number None (number c) c.take_row.ensures.numbers c.take_row.ensures.writes

pub returns-clause-left : goal.returns-clause-left
returns-clause-left c = row_apart c.args.client c.args.table.now c.take_row.new.table c.in-Some.prefix c.args.number None (number c) c.take_row.ensures.numbers c.take_row.ensures.writes

pub returns-clause-kept : goal.returns-clause-kept
returns-clause-kept c = c.take_row.ensures.kept

pub returns-clause-noted : goal.returns-clause-noted
returns-clause-noted c = c.take_row.ensures.noted

pub returns-clause-numbers : goal.returns-clause-numbers
returns-clause-numbers c = c.take_row.ensures.numbers
