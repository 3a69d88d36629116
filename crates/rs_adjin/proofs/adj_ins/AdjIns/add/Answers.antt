use Rattle.std.proofs.Common.{length}
use Rattle.rs_adjin.proofs.Steps.{same_table, lists_kept, lists_known, lists_notes}
use Rattle.rs_adjin.proofs.Ties.{tied_same, mandatory_same}
use Rattle.rs_adjin.proofs.Noted.{keeps_notes}
use Rattle.rs_adjin.proofs.adj_ins.AdjIns.add.Goals as goal

pub invariant_of-self : goal.invariant_of-self
invariant_of-self c = record {
  sets = c.args.self.now.sets;
  whole = (lists_kept c.args.self.now.table c.add.new.self 0 c.add.ensures.rows c.args.self.now.whole).table;
  known = lists_known (length c.args.self.now.identifiers.items) c.args.self.now.table c.add.new.self c.add.ensures.rows c.args.self.now.known;
  mandatory = mandatory_same c.args.self.now.table c.add.new.self (same_table c.args.self.now.table c.add.new.self c.add.ensures.rows) c.args.self.now.mandatory;
  tied = tied_same c.args.self.now.held.items c.args.self.now.table c.add.new.self c.args.self.now.tied c.add.ensures.kept (same_table c.args.self.now.table c.add.new.self c.add.ensures.rows);
}

pub returns-clause-noted : goal.returns-clause-noted
returns-clause-noted c = keeps_notes c.args.self.now _ (lists_notes c.args.self.now.table c.add.new.self c.add.ensures.rows)
