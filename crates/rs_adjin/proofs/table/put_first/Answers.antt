use Rattle.std.proofs.Common.{◌≡◌, ap, ◌∙◌, Some}
use Rattle.rs_adjin.specs.Routes.{value_in}
use Rattle.rs_adjin.specs.Numbers.{prefix_of_in}
use Rattle.std.specs.Prelude.{None}
use Rattle.std.specs.Arc.{arc_value}
use Rattle.rs_adjin.specs.Table.{KeepsTable}
use Rattle.rs_adjin.proofs.Steps.{lists_kept, kept_more, lists_notes, lists_write}
use Rattle.rs_adjin.proofs.Holding.{held_kept, held_left}
use Rattle.rs_adjin.proofs.GivenBack.{undone, nobody, nobody_yet}
use Rattle.rs_adjin.proofs.table.put_first.Goals as goal

pub returns-in_err-number-clause-kept : goal.returns-in_err-number-clause-kept
returns-in_err-number-clause-kept c = lists_kept c.args.table.now c.add_new.new.self c.args.client c.add_new.ensures.rows c.requires.table

pub returns-in_err-number-clause-tied : goal.returns-in_err-number-clause-tied
returns-in_err-number-clause-tied c = held_kept c.args.client c.args.held.now c.args.table.now c.add_new.new.self (λ q. ap (value_in c.args.client) (c.add_new.ensures.rows q)) c.requires.tied c.add_new.ensures.kept

pub put_row-requires-clause-table : goal.put_row-requires-clause-table
put_row-requires-clause-table c = (lists_kept c.args.table.now c.add_new.new.self c.args.client c.add_new.ensures.rows c.requires.table).table

pub put_row-requires-clause-tied : goal.put_row-requires-clause-tied
put_row-requires-clause-tied c = held_kept c.args.client c.args.held.now c.args.table.now c.add_new.new.self (λ q. ap (value_in c.args.client) (c.add_new.ensures.rows q)) c.requires.tied c.add_new.ensures.kept

-- ---- the route is there

pub returns-in-Ok-clause-kept : goal.returns-in-Ok-clause-kept
returns-in-Ok-clause-kept c = kept_more c.args.table.now c.add_new.new.self c.put_row.new.table c.args.client (lists_kept c.args.table.now c.add_new.new.self c.args.client c.add_new.ensures.rows c.requires.table) c.put_row.ensures.kept

pub returns-in-Ok-clause-ok : goal.returns-in-Ok-clause-ok
returns-in-Ok-clause-ok c = lists_write c.args.table.now c.add_new.new.self c.put_row.new.table c.args.client c.args.prefix (Some (arc_value c.args.attrs.now)) c.add_new.ensures.rows c.in-Ok.ensures.ok

-- ---- memory was refused, and the number is given up again

pub returns-in-Err-clause-kept : goal.returns-in-Err-clause-kept
returns-in-Err-clause-kept c =
    let first : KeepsTable c.args.table.now c.add_new.new.self c.args.client = lists_kept c.args.table.now c.add_new.new.self c.args.client c.add_new.ensures.rows c.requires.table in
    let then : KeepsTable c.args.table.now c.put_row.new.table c.args.client = kept_more c.args.table.now c.add_new.new.self c.put_row.new.table c.args.client first c.put_row.ensures.kept in
    kept_more c.args.table.now c.put_row.new.table c.release.new.self c.args.client then (lists_kept c.put_row.new.table c.release.new.self c.args.client c.release.ensures.rows c.put_row.ensures.kept.table)

pub returns-in-Err-clause-tied : goal.returns-in-Err-clause-tied
returns-in-Err-clause-tied c =
    held_left c.args.client c.put_row.new.held c.put_row.new.table c.release.new.self (λ q. ap (value_in c.args.client) (c.release.ensures.rows q)) c.put_row.ensures.tied c.release.ensures.numbers.none_new

given : (c : goal.After-release) → prefix_of_in c.release.new.self c.in_ok-number.number ≡ None
given c =
    let at = c.put_row.ensures.numbers c.args.prefix ∙ c.in_ok-number.ensures.number in
    c.release.ensures.released (c.release.ensures.given (nobody c.put_row.new.table c.args.prefix c.in_ok-number.number at (nobody_yet c.args.table.now c.add_new.new.self c.put_row.new.table c.args.prefix c.requires.absent c.add_new.ensures.rows c.in-Err.ensures.err)))

pub returns-in-Err-clause-unnumbered : goal.returns-in-Err-clause-unnumbered
returns-in-Err-clause-unnumbered c =
    let at = c.put_row.ensures.numbers c.args.prefix ∙ c.in_ok-number.ensures.number in
    undone c.args.table.now c.put_row.new.table c.release.new.self c.args.prefix c.in_ok-number.number c.requires.absent at (λ q ne. c.put_row.ensures.numbers q ∙ c.add_new.ensures.others q ne) c.release.ensures.numbers (given c)

-- ---- the notes

pub returns-in_err-number-clause-noted : goal.returns-in_err-number-clause-noted
returns-in_err-number-clause-noted c f is h = lists_notes c.args.table.now c.add_new.new.self c.add_new.ensures.rows f h

pub returns-in-Ok-clause-noted : goal.returns-in-Ok-clause-noted
returns-in-Ok-clause-noted c f is h = c.put_row.ensures.noted f is (lists_notes c.args.table.now c.add_new.new.self c.add_new.ensures.rows f h)

pub returns-in-Err-clause-noted : goal.returns-in-Err-clause-noted
returns-in-Err-clause-noted c f is h =
    lists_notes c.put_row.new.table c.release.new.self c.release.ensures.rows f (c.put_row.ensures.noted f is (lists_notes c.args.table.now c.add_new.new.self c.add_new.ensures.rows f h))

pub returns-in-Ok-clause-tied : goal.returns-in-Ok-clause-tied
returns-in-Ok-clause-tied c = c.put_row.ensures.tied

pub returns-in-Ok-clause-numbers : goal.returns-in-Ok-clause-numbers
returns-in-Ok-clause-numbers c p n e = c.put_row.ensures.numbers p ∙ c.add_new.ensures.kept p n e

pub returns-in-Ok-clause-others : goal.returns-in-Ok-clause-others
returns-in-Ok-clause-others c q ne = c.put_row.ensures.numbers q ∙ c.add_new.ensures.others q ne

pub returns-in_err-number-clause-numbers : goal.returns-in_err-number-clause-numbers
returns-in_err-number-clause-numbers c = c.add_new.ensures.kept

pub returns-in_err-number-clause-others : goal.returns-in_err-number-clause-others
returns-in_err-number-clause-others c = c.add_new.ensures.others
