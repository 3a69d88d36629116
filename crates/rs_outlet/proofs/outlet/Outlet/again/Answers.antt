use Rattle.std.proofs.Common.{◌∙◌, ap, arith, is_some, sym, take}
use Rattle.std.specs.FinMap as fin
use Rattle.std.specs.FinSet as set
use Rattle.rs_outlet.specs.Views.{View}
use Rattle.rs_outlet.specs.Inside.{loc_of}
use Rattle.rs_outlet.proofs.Pending.AskedAgain.{exact_again, marked_all, told_again}
use Rattle.rs_outlet.proofs.Pending.Chains.{none_chained}
use Rattle.rs_outlet.proofs.outlet.Outlet.again.Goals as goal

pub returns-then-self-clause-marked : goal.returns-then-self-clause-marked
returns-then-self-clause-marked c = λ p.
    ap (λ (v : View). set.contains v.marked p) (sym c.self.view_is) ∙ c.self.invariant.asked c.if-self.true p ∙ ap (λ (v : View). is_some (fin.get v.told p)) c.self.view_is

pub returns-clause-told : goal.returns-clause-told
returns-clause-told c =
    let a = c.self.inside in
    told_again (loc_of a.rows.rows.items) a.waits.slots.items c.mark_all.new.self.slots.items c.mark_all.ensures.again ∙ ap (λ (v : View). v.told) c.self.view_is

pub returns-clause-marked : goal.returns-clause-marked
returns-clause-marked c = λ p.
    let a = c.self.inside in
    marked_all (loc_of a.rows.rows.items) a.waits.slots.items c.mark_all.new.self.slots.items c.mark_all.ensures.again (c.mark_all.ensures.all c.self.invariant.backed) p
    ∙ ap (λ (v : View). is_some (fin.get v.told p)) c.self.view_is

pub returns-clause-exact : goal.returns-clause-exact
returns-clause-exact c = λ exact.
    let a = c.self.inside in
    exact_again (loc_of a.rows.rows.items) a.waits.slots.items c.mark_all.new.self.slots.items c.mark_all.ensures.again c.args.self.now
    (ap (λ (v : View). v.loc) c.self.view_is) (ap (λ (v : View). v.told) c.self.view_is) (ap (λ (v : View). v.marked) c.self.view_is) (ap (λ (v : View). v.waits) c.self.view_is) exact

pub invariant_of-self : goal.invariant_of-self
invariant_of-self c =
    let kept = c.self.invariant in
    let a = c.self.inside in
    record {
      octets = kept.octets;
      started = kept.started;
      ended = kept.ended;
      slots = omega (arith, kept.slots, c.mark_all.ensures.withdrawn, c.mark_all.ensures.capacity);
      extended = kept.extended;
      backed = c.mark_all.ensures.backed kept.backed;
      chained = none_chained a.rows.rows.items (take c.mark_all.new.self.sorted c.mark_all.new.self.slots.items) _ c.mark_all.ensures.chains;
      fit = kept.fit;
      asked = λ _ p.
          marked_all (loc_of a.rows.rows.items) a.waits.slots.items c.mark_all.new.self.slots.items c.mark_all.ensures.again (c.mark_all.ensures.all kept.backed) p
          ∙ ap (λ t. is_some (fin.get t p)) (sym (told_again (loc_of a.rows.rows.items) a.waits.slots.items c.mark_all.new.self.slots.items c.mark_all.ensures.again));
    }
