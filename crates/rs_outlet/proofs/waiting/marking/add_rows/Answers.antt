use Rattle.std.proofs.Common.{◌≡◌, ◌≤◌, ◌+◌, List, ◌∙◌, true, map, take, sym, ap, subst, arith, Vec, Global}
use Rattle.std.specs.Option.{option_map}
use Rattle.std.specs.List.{All, AllByRecursion}
use Rattle.std.specs.List.Sorted.{IsStrictlySortedBy}
use Rattle.std.specs.Vec.{vec_capacity}
use Rattle.rs_octets.specs.Prefixes.{prefix_order}
use Rattle.rs_outlet.specs.declared.waiting.Wait.{Wait}
use Rattle.rs_outlet.specs.Pending.Slots.{prefixes_at, withdrawn_count}
use Rattle.rs_outlet.specs.Inside.{IsBacked, loc_of}
use Rattle.rs_rows.specs.Places.{lent_row}
use Rattle.rs_outlet.specs.Pending.Marking.{IsPutAgain, MayAddRow, remarked}
use Rattle.rs_outlet.proofs.Message.Chosen.{take_past}
use Rattle.rs_outlet.proofs.Pending.MarkedAgain.{backed_again, backed_first, marked_again, marked_first, marking_more, remarked_rise, AreMarking}
use Rattle.rs_outlet.proofs.Pending.MarkedAll.{all_listed, all_opened, none_listed_yet, none_more_listed, one_more_listed, still_opened, withdrawn_added, withdrawn_still, AreListed}
use Rattle.rs_outlet.proofs.waiting.marking.add_rows.Goals as goal
use Rattle.rs_outlet.proofs.waiting.marking.add_rows.Goals.{in-Some, in_default}

pub loop-slot-init : goal.loop-slot-init
loop-slot-init c =
    let rows = c.args.rows.now.rows.items in
    let ws = c.args.slots.now.items in
    let base = c.mark_told.new.slots.items in
    let first = c.mark_told.ensures.items ∙ ap (map remarked) c.drop_shut.ensures.items in
    record {
      marking = record {
        front = take_past c.len-waited.result base (omega (arith, c.len-waited.ensures, c.mark_told.new.slots.ok));
        within = omega (arith, c.len-waited.ensures, c.mark_told.new.slots.ok);
        all = subst (All (IsPutAgain (loc_of rows) ws)) (sym first) (marked_first (loc_of rows) ws c.requires.rises);
        backed = λ backed. subst (All (λ (z : Wait). IsBacked rows z.prefix z.due)) (sym first) (backed_first rows ws c.requires.rises backed);
      };
      listed = λ backed. none_listed_yet rows ws base c.args.rows.now.used (vec_capacity c.args.slots.now) c.requires.rises (remarked_rise ws base c.requires.rises first) first c.args.rows.now.counted c.requires.room backed;
      withdrawn = omega (arith, ap withdrawn_count first, withdrawn_still ws);
      capacity = c.mark_told.ensures.capacity ∙ c.drop_shut.ensures.capacity;
    }

pub add_row-requires-clause-rises : goal.add_row-requires-clause-rises
add_row-requires-clause-rises c =
    subst (λ (ws : List Wait). IsStrictlySortedBy prefix_order (prefixes_at ws)) (sym c.loop-slot.invariant.marking.front)
    (remarked_rise c.args.slots.now.items c.mark_told.new.slots.items c.requires.rises (c.mark_told.ensures.items ∙ ap (map remarked) c.drop_shut.ensures.items))

pub add_row-requires-clause-waited : goal.add_row-requires-clause-waited
add_row-requires-clause-waited c = omega (arith, c.loop-slot.invariant.marking.within, c.loop-slot.slots.ok)

pub loop-slot-preserved : goal.loop-slot-preserved
loop-slot-preserved c =
    let rows = c.args.rows.now.rows.items in
    let ws = c.args.slots.now.items in
    let base = c.mark_told.new.slots.items in
    let n = c.len-waited.result in
    let k = c.loop-slot.slot in
    let xs = c.loop-slot.slots.items in
    let first = c.mark_told.ensures.items ∙ ap (map remarked) c.drop_shut.ensures.items in
    let inv = c.loop-slot.invariant in
    elim c.match-at.branch [
      | in-Some w ↦
          let row = lent_row w.in-Some.row in
          let new = w.add_row.new.slots.items in
          let at = sym c.at.ensures ∙ ap (option_map lent_row) w.in-Some.is in
          let may = w.add_row.ensures.again in
          record {
            marking = subst (λ (v : Vec Wait Global). AreMarking rows ws base n v.items) (sym w.slots-is) (marking_more rows k row ws base n xs new at first may inv.marking);
            listed = λ backed.
                subst (λ (v : Vec Wait Global). AreListed rows base (k + 1) (vec_capacity c.args.slots.now) v.items) (sym w.slots-is)
                (one_more_listed rows base k n (vec_capacity c.args.slots.now) row xs new (omega (arith, c.loop-slot-test.true, c.count-slot-end.ensures.rows)) at
                (subst (AllByRecursion (λ w. w.open ≡ true)) (sym first) (still_opened ws c.requires.rises)) inv.marking.front
                (subst (λ bs. MayAddRow bs k row xs new) inv.marking.front may)
                (λ short. w.add_row.ensures.listed (omega (arith, short, inv.capacity, c.loop-slot.slots.ok))) (inv.listed backed));
            withdrawn = subst (λ (v : Vec Wait Global). withdrawn_count v.items ≤ withdrawn_count ws) (sym w.slots-is) (let e = withdrawn_added (take n xs) xs new k row may in omega (arith, e, inv.withdrawn));
            capacity = ap (λ (v : Vec Wait Global). vec_capacity v) w.slots-is ∙ w.add_row.ensures.capacity ∙ inv.capacity;
          }
      | in_default w ↦
          record {
            marking = subst (λ (v : Vec Wait Global). AreMarking rows ws base n v.items) (sym w.slots-is) inv.marking;
            listed = λ backed.
                subst (λ (v : Vec Wait Global). AreListed rows base (k + 1) (vec_capacity c.args.slots.now) v.items) (sym w.slots-is)
                (none_more_listed rows base k (vec_capacity c.args.slots.now) xs (omega (arith, c.loop-slot-test.true, c.count-slot-end.ensures.rows))
                (sym c.at.ensures ∙ ap (option_map lent_row) w.in_default.is) (inv.listed backed));
            withdrawn = subst (λ (v : Vec Wait Global). withdrawn_count v.items ≤ withdrawn_count ws) (sym w.slots-is) inv.withdrawn;
            capacity = ap (λ (v : Vec Wait Global). vec_capacity v) w.slots-is ∙ inv.capacity;
          }
    ]

pub returns-clause-again : goal.returns-clause-again
returns-clause-again c =
    marked_again (loc_of c.args.rows.now.rows.items) c.args.slots.now.items c.mark_told.new.slots.items c.loop-slot.slots.items c.put_in_order.new.slots.items c.len-waited.result
    (c.mark_told.ensures.items ∙ ap (map remarked) c.drop_shut.ensures.items) c.loop-slot.invariant.marking.front c.loop-slot.invariant.marking.all c.put_in_order.ensures.from c.put_in_order.ensures.all

pub returns-clause-all : goal.returns-clause-all
returns-clause-all c = λ backed.
    let rows = c.args.rows.now.rows.items in
    all_listed rows c.mark_told.new.slots.items c.loop-slot.slots.items c.put_in_order.new.slots.items c.loop-slot.slot (vec_capacity c.args.slots.now)
    (omega (arith, c.loop-slot-test.false, c.count-slot-end.ensures.rows)) (c.loop-slot.invariant.listed backed) c.put_in_order.ensures.all
    (all_opened (loc_of rows) c.args.slots.now.items c.loop-slot.slots.items c.put_in_order.new.slots.items c.loop-slot.invariant.marking.all c.put_in_order.ensures.from)

pub returns-clause-withdrawn : goal.returns-clause-withdrawn
returns-clause-withdrawn c = omega (arith, c.put_in_order.ensures.withdrawn, c.loop-slot.invariant.withdrawn)

pub returns-clause-backed : goal.returns-clause-backed
returns-clause-backed c = λ backed. backed_again c.args.rows.now.rows.items c.loop-slot.slots.items c.put_in_order.new.slots.items (c.loop-slot.invariant.marking.backed backed) c.put_in_order.ensures.from
