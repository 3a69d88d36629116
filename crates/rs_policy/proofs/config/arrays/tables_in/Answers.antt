use Rattle.std.proofs.Common.{true, false, sym, ◌∙◌, ap}
use Rattle.rs_policy.specs.Values.{tables_of}
use Rattle.rs_policy.proofs.Reading.Documents.{tables_of-small}
use Rattle.rs_policy.proofs.config.arrays.tables_in.Goals as goal

pub returns-then-not-are_tables-clause-tables : goal.returns-then-not-are_tables-clause-tables
returns-then-not-are_tables-clause-tables c =
    sym (tables_of-small c.args.most c.args.place c.in-Some.values.now false c.if-values-most.false (sym c.if-not-are_tables.ensures))
    ∙ ap (tables_of c.args.most c.args.place) c.in-Some.ensures

pub returns-clause-tables : goal.returns-clause-tables
returns-clause-tables c =
    sym (tables_of-small c.args.most c.args.place c.in-Some.values.now true c.if-values-most.false (sym c.if-not-are_tables.ensures))
    ∙ ap (tables_of c.args.most c.args.place) c.in-Some.ensures
