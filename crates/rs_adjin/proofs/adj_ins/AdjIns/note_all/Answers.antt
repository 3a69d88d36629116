use Rattle.std.proofs.Common.{length, refl}
use Rattle.rs_adjin.specs.AdjIns.{client_count, identifier_of, held_of}
use Rattle.rs_adjin.proofs.Holding.{keeps_from_same}
use Rattle.rs_adjin.proofs.NotedRows.{known_more, noted_same, noted_whole, noted_known, noted_all}
use Rattle.rs_adjin.proofs.Noted.{noted_of}
use Rattle.rs_adjin.proofs.Ties.{tied_same, mandatory_same}
use Rattle.rs_adjin.proofs.adj_ins.AdjIns.note_all.Goals as goal

pub note_all_in-requires : goal.note_all_in-requires
unfolding client_count
note_all_in-requires g c = known_more (length c.args.self.now.identifiers.items) (g.N.Notes.known c.args.notes.now) c.args.self.now.table c.requires c.args.self.now.known

pub invariant_of-self : goal.invariant_of-self
invariant_of-self g c =
    let f = g.N.Notes.note_by c.args.notes.now in
    let old = c.args.self.now.table in
    let new = c.note_all_in.new.table in
    record {
      sets = c.args.self.now.sets;
      whole = noted_whole f old new c.note_all_in.ensures c.args.self.now.whole;
      known = noted_known f old new c.note_all_in.ensures (length c.args.self.now.identifiers.items) c.args.self.now.known;
      mandatory = mandatory_same old new (noted_same f old new c.note_all_in.ensures) c.args.self.now.mandatory;
      tied = tied_same c.args.self.now.held.items old new c.args.self.now.tied (keeps_from_same old new c.note_all_in.ensures.numbers) (noted_same f old new c.note_all_in.ensures);
    }

pub returns-clause-noted : goal.returns-clause-noted
returns-clause-noted g c = noted_of (g.N.Notes.note_by c.args.notes.now) _ (noted_all (g.N.Notes.note_by c.args.notes.now) c.args.self.now.table c.note_all_in.new.table c.note_all_in.ensures)

pub returns-clause-same : goal.returns-clause-same
unfolding client_count identifier_of held_of
returns-clause-same g c = record { count = refl; identifiers = λ d. refl; held = noted_same (g.N.Notes.note_by c.args.notes.now) c.args.self.now.table c.note_all_in.new.table c.note_all_in.ensures }
