use Rattle.std.proofs.Common.{rules, arith}
use Rattle.std.specs.Prelude.{slice_set}
use Rattle.rs_adjin.specs.SetNumbering.{number_by}
use Rattle.rs_adjin.proofs.SetRows.{IsGone, gone_by}
use Rattle.rs_adjin.proofs.sets.Sets.give_up.Goals as goal

pub invariant_of-self-2 : goal.invariant_of-self-2
invariant_of-self-2 c = record { inverse = written.inverse; counted = c.args.self.now.counted }
  where
    written : IsGone (number_by c.args.self.now.numbers) (number_by c.remove.new.self) (slice_set c.args.self.now.rows.items c.args.set record { attrs = c.take.new.self }) c.args.set
    written =
        gone_by (number_by c.args.self.now.numbers) (number_by c.remove.new.self) c.args.self.now.rows.items c.args.set c.index_mut.result.now c.args.self.now.inverse (search (rules, arith)) c.index_mut.ensures.value
        c.in-Some.attrs c.take.result c.take.new.self c.take.ensures.value c.in-Some.is c.take.ensures.after c.remove.ensures

new : (c : goal.After-self-2-1) → IsGone (number_by c.args.self.now.numbers) (number_by c.remove.new.self) (slice_set c.args.self.now.rows.items c.args.set record { attrs = c.take.new.self }) c.args.set
new c =
    gone_by (number_by c.args.self.now.numbers) (number_by c.remove.new.self) c.args.self.now.rows.items c.args.set c.index_mut.result.now c.args.self.now.inverse (search (rules, arith)) c.index_mut.ensures.value
    c.in-Some.attrs c.take.result c.take.new.self c.take.ensures.value c.in-Some.is c.take.ensures.after c.remove.ensures

pub returns-clause-gone : goal.returns-clause-gone
returns-clause-gone c = (new c).here

pub returns-clause-others : goal.returns-clause-others
returns-clause-others c = record { kept = (new c).kept; none_new = (new c).none_new }
