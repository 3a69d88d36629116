use Rattle.rs_adjin.proofs.table.withdraw_in.Goals as goal

pub returns-clause-kept : goal.returns-clause-kept
returns-clause-kept c = c.withdraw_row.ensures.kept

pub returns-clause-noted : goal.returns-clause-noted
returns-clause-noted c = c.withdraw_row.ensures.noted

pub returns-clause-taken : goal.returns-clause-taken
returns-clause-taken c = c.withdraw_row.ensures.taken

pub returns-clause-writes : goal.returns-clause-writes
returns-clause-writes c = c.withdraw_row.ensures.writes

pub returns-clause-tied : goal.returns-clause-tied
returns-clause-tied c = c.withdraw_row.ensures.tied

pub returns-clause-numbers : goal.returns-clause-numbers
returns-clause-numbers c = c.withdraw_row.ensures.numbers
