use Rattle.std.proofs.Common.{◌∙◌, arith, subst, sym}
use Rattle.std.specs.FinMap as fin
use Rattle.rs_outlet.specs.Inside.{loc_of}
use Rattle.rs_outlet.specs.Pending.Marking.{MayReopen}
use Rattle.rs_outlet.specs.Pending.Slots.{open_at}
use Rattle.rs_outlet.proofs.Pending.Reopened.{again_both, backed_marked, each_due, marked_where, withdrawn_marked}
use Rattle.rs_outlet.proofs.Pending.Unchanged.{backed_same}
use Rattle.rs_outlet.proofs.waiting.Waits.mark_all.Goals as goal

pub mark_rows-requires-clause-room : goal.mark_rows-requires-clause-room
mark_rows-requires-clause-room c = omega (arith, c.requires, c.make_one_part.ensures.withdrawn, c.make_one_part.ensures.capacity, c.reopen.ensures.withdrawn, c.reopen.ensures.capacity)

pub returns-then-has_each : goal.returns-then-has_each
returns-then-has_each c =
    let rows = c.args.rows.now.rows.items in
    let ws = c.args.self.now.slots.items in
    let again = c.reopen.new.self.slots.items in
    let one = c.make_one_part.new.self.slots.items in
    let new = c.mark_slots.new.self.slots.items in
    let is = c.make_one_part.ensures.slots in
    let marks = c.mark_slots.ensures.slots in
    record {
      again = λ q.
          again_both (fin.get (loc_of rows) q) (open_at q ws) (open_at q one) (open_at q new)
          (subst (MayReopen (fin.get (loc_of rows) q) (open_at q ws)) (sym (is q)) (c.reopen.ensures.again q)) (marked_where (fin.get (loc_of rows) q) q one new marks);
      all = λ _. each_due rows one new (c.has_each.ensures c.if-has_each.true) marks;
      withdrawn = omega (arith, withdrawn_marked one new marks, c.make_one_part.ensures.withdrawn, c.reopen.ensures.withdrawn);
      capacity = c.mark_slots.ensures.capacity ∙ c.make_one_part.ensures.capacity ∙ c.reopen.ensures.capacity;
      chains = c.mark_slots.ensures.chains;
      backed = λ backed. backed_marked rows one new marks (backed_same rows again one is (c.reopen.ensures.backed backed));
    }

pub returns-else-has_each : goal.returns-else-has_each
returns-else-has_each c =
    let rows = c.args.rows.now.rows.items in
    let ws = c.args.self.now.slots.items in
    let again = c.reopen.new.self.slots.items in
    let one = c.make_one_part.new.self.slots.items in
    let new = c.mark_rows.new.self.slots.items in
    let is = c.make_one_part.ensures.slots in
    record {
      again = λ q.
          again_both (fin.get (loc_of rows) q) (open_at q ws) (open_at q one) (open_at q new)
          (subst (MayReopen (fin.get (loc_of rows) q) (open_at q ws)) (sym (is q)) (c.reopen.ensures.again q)) (c.mark_rows.ensures.again q);
      all = λ backed. c.mark_rows.ensures.all (backed_same rows again one is (c.reopen.ensures.backed backed));
      withdrawn = omega (arith, c.mark_rows.ensures.withdrawn, c.make_one_part.ensures.withdrawn, c.reopen.ensures.withdrawn);
      capacity = c.mark_rows.ensures.capacity ∙ c.make_one_part.ensures.capacity ∙ c.reopen.ensures.capacity;
      chains = c.mark_rows.ensures.chains;
      backed = λ backed. c.mark_rows.ensures.backed (backed_same rows again one is (c.reopen.ensures.backed backed));
    }
