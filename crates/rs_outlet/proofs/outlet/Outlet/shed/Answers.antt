use Rattle.std.proofs.Common.{◌∙◌, arith, ap, is_some, sym}
use Rattle.std.specs.FinMap as fin
use Rattle.std.specs.FinSet as set
use Rattle.rs_outlet.specs.Inside.{loc_of, view_of}
use Rattle.rs_outlet.proofs.Pending.Unchanged.{backed_same, marked_same, told_same, waits_same}
use Rattle.rs_outlet.proofs.outlet.Outlet.shed.Goals as goal

pub returns : goal.returns
returns c =
    let a = c.self.inside in
    let loc = loc_of a.rows.rows.items in
    let is = c.shed.ensures.slots in
    (λ i. record (view_of a) {
      told = told_same loc a.waits.slots.items c.shed.new.self.slots.items is i;
      marked = marked_same loc a.waits.slots.items c.shed.new.self.slots.items is i;
      waits = waits_same loc a.waits.slots.items c.shed.new.self.slots.items is i;
    })
    ∙ c.self.view_is

pub invariant_of-self : goal.invariant_of-self
invariant_of-self c =
    let a = c.self.inside in
    let kept = c.self.invariant in
    let rows = a.rows.rows.items in
    let loc = loc_of rows in
    let is = c.shed.ensures.slots in
    record {
      octets = kept.octets;
      started = kept.started;
      ended = kept.ended;
      slots = omega (arith, kept.slots, c.shed.ensures.withdrawn, c.shed.ensures.capacity);
      extended = kept.extended;
      backed = backed_same rows a.waits.slots.items c.shed.new.self.slots.items is kept.backed;
      chained = c.shed.ensures.chained rows kept.chained;
      fit = kept.fit;
      asked = λ asked p.
          ap (λ ps. set.contains ps p) (marked_same loc a.waits.slots.items c.shed.new.self.slots.items is)
          ∙ kept.asked asked p
          ∙ ap (λ t. is_some (fin.get t p)) (sym (told_same loc a.waits.slots.items c.shed.new.self.slots.items is));
    }
