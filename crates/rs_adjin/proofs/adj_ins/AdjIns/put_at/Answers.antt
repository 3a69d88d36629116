use Rattle.std.proofs.Common.{◌≡◌, length, ◌∙◌, sym, subst}
use Rattle.std.proofs.lemmas.Option.{same_Some}
use Rattle.std.specs.Prelude.{Some}
use Rattle.std.specs.Arc.{arc_value}
use Rattle.std.proofs.Math.ListN.{length-set}
use Rattle.rs_adjin.specs.AdjIns.{client_count, number_of}
use Rattle.rs_adjin.specs.Table.{PutsNote}
use Rattle.rs_adjin.proofs.Ties.{tied_after, put_others, put_mandatory}
use Rattle.rs_adjin.proofs.Holding.{keeps_from_same}
use Rattle.rs_adjin.proofs.Noted.{puts_note}
use Rattle.rs_adjin.proofs.adj_ins.AdjIns.put_at.Goals as goal

pub invariant_of-self-2 : goal.invariant_of-self-2
unfolding client_count
invariant_of-self-2 c = record {
  sets = length-set c.args.self.now.held.items c.args.client c.put_row.new.held ∙ c.args.self.now.sets;
  whole = c.put_row.ensures.kept.table;
  known = c.put_row.ensures.kept.known (length c.args.self.now.identifiers.items) c.requires.client c.args.self.now.known;
  mandatory = put_mandatory c.put_row.result c.args.self.now.table c.put_row.new.table c.args.client c.in-Some.prefix (arc_value c.args.attrs.now) c.requires.mandatory c.put_row.ensures.ok c.put_row.ensures.err c.args.self.now.mandatory;
  tied =
      tied_after c.args.self.now.held.items c.args.self.now.table c.put_row.new.table c.args.client c.put_row.new.held c.args.self.now.tied (keeps_from_same c.args.self.now.table c.put_row.new.table c.put_row.ensures.numbers)
      (put_others c.put_row.result c.args.self.now.table c.put_row.new.table c.args.client c.in-Some.prefix (Some (arc_value c.args.attrs.now)) c.put_row.ensures.ok c.put_row.ensures.err) c.put_row.ensures.tied;
}

pub returns-clause-noted : goal.returns-clause-noted
unfolding number_of
returns-clause-noted c p at =
    let same : p ≡ c.in-Some.prefix = same_Some p c.in-Some.prefix (sym (c.args.self.now.table.inverse.there p c.args.number at) ∙ sym c.in-Some.ensures) in
    puts_note c.args.self.now _ c.args.client p (arc_value c.args.attrs.now) c.args.note
    (subst (λ x. PutsNote c.args.self.now.table c.put_row.new.table c.args.client x (arc_value c.args.attrs.now) c.args.note) (sym same) c.put_row.ensures.noted)

pub returns-clause-numbers : goal.returns-clause-numbers
unfolding number_of
returns-clause-numbers c = c.put_row.ensures.numbers
