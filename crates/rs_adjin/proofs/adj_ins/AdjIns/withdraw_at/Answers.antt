use Rattle.std.proofs.Common.{length, ◌∙◌, None}
use Rattle.std.proofs.Math.ListN.{length-set}
use Rattle.rs_adjin.specs.AdjIns.{client_count, number_of}
use Rattle.rs_adjin.proofs.Holding.{keeps_from_same}
use Rattle.rs_adjin.proofs.Ties.{tied_after, writes_others, mandatory_written, none_mandatory}
use Rattle.rs_adjin.proofs.Noted.{keeps_notes}
use Rattle.rs_adjin.proofs.adj_ins.AdjIns.withdraw_at.Goals as goal

pub invariant_of-self-2 : goal.invariant_of-self-2
unfolding client_count
invariant_of-self-2 c = record {
  sets = length-set c.args.self.now.held.items c.args.client c.withdraw_row.new.held ∙ c.args.self.now.sets;
  whole = c.withdraw_row.ensures.kept.table;
  known = c.withdraw_row.ensures.kept.known (length c.args.self.now.identifiers.items) c.requires.client c.args.self.now.known;
  mandatory = mandatory_written c.args.self.now.table c.withdraw_row.new.table c.args.client c.in-Some.prefix None none_mandatory c.withdraw_row.ensures.writes c.args.self.now.mandatory;
  tied =
      tied_after c.args.self.now.held.items c.args.self.now.table c.withdraw_row.new.table c.args.client c.withdraw_row.new.held c.args.self.now.tied (keeps_from_same c.args.self.now.table c.withdraw_row.new.table c.withdraw_row.ensures.numbers)
      (writes_others c.args.self.now.table c.withdraw_row.new.table c.args.client c.in-Some.prefix None c.withdraw_row.ensures.writes) c.withdraw_row.ensures.tied;
}

pub returns-clause-noted : goal.returns-clause-noted
returns-clause-noted c = keeps_notes c.args.self.now _ c.withdraw_row.ensures.noted

pub returns-clause-numbers : goal.returns-clause-numbers
unfolding number_of
returns-clause-numbers c = c.withdraw_row.ensures.numbers
