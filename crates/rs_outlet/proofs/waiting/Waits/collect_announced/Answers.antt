use Rattle.std.proofs.Common.{◌≡◌, ◌∙◌, ◌<◌, ◌++◌, ◌∷◌, [], Option, Some, List, arith, inl, inr, refl, true, subst, sym, vec_len}
use Rattle.std.proofs.lemmas.Bool.{and_parts}
use Rattle.rs_attrs.specs.Meaning.{Attribute}
use Rattle.rs_rows.specs.Rows.{Row}
use Rattle.rs_outlet.specs.declared.waiting.Wait.{Wait}
use Rattle.rs_outlet.specs.Inside.{row_by, shown}
use Rattle.rs_outlet.specs.Message.Next.{has_attributes}
use Rattle.rs_outlet.specs.Pending.Slots.{is_announced}
use Rattle.rs_outlet.specs.Pending.Choosing.{passing, shares}
use Rattle.rs_outlet.proofs.Message.AllWaiting.{not_shared}
use Rattle.rs_outlet.proofs.Message.Chosen.{as_many, none_chosen}
use Rattle.rs_outlet.proofs.Message.Collected.{AreCollected, at_index, both_rise, collected_all, collected_first, collected_late, collected_none, not_before, of_first, of_late, read_holds}
use Rattle.rs_outlet.proofs.waiting.Waits.collect_announced.Goals.{then-slot-self, else-slot-self}
use Rattle.rs_outlet.proofs.waiting.Waits.collect_announced.Goals as goal

opens : (rows : List (Option Row)) (m : List Attribute) (w : Wait) → shares rows m w ≡ true → w.open ≡ true
opens rows m w is = (and_parts w.open (has_attributes (shown (row_by rows w.due)) m) is).0

pub loop-init : goal.loop-init
loop-init c =
    let was = c.args.self.now in
    let rows = c.args.rows.now.rows.items in
    record {
      chosen = refl;
      front = refl;
      past = omega arith;
      within = was.within;
      far = omega arith;
      are = none_chosen rows was.slots.items (Some c.args.attrs.now) _ _ c.requires.none.0 c.requires.none.1;
      all = collected_none (shares rows c.args.attrs.now) (opens rows c.args.attrs.now) was.slots.items was.sorted c.args.room was.apart was.news c.args.front.now.items c.requires.none.1
          (λ n w at below within. not_shared rows c.args.attrs.now w (not_before is_announced was.sorted 0 was.news was.slots.items was.announced n w at (omega arith) below within));
    }

-- there is room for one more
pub list_announced-listed-requires-clause-room : goal.list_announced-listed-requires-clause-room
list_announced-listed-requires-clause-room c =
    let inv = c.loop.invariant in
    let more : vec_len c.loop.front < c.args.room = omega (arith, c.if-room-len.false, c.len.ensures) in
    let even = as_many c.args.rows.now.rows.items c.args.self.now.slots.items (Some c.args.attrs.now) c.loop.chosen.items c.loop.front.items inv.are in
    (omega (arith, more, even, c.requires.room.0, inv.chosen, c.loop.front.ok, c.loop.chosen.ok), omega (arith, more, c.requires.room.1, inv.front))

pub loop-preserved : goal.loop-preserved
loop-preserved c =
    let was = c.args.self.now in
    let ws = was.slots.items in
    let inv = c.loop.invariant in
    let more : vec_len c.loop.front < c.args.room = omega (arith, c.if-room-len.false, c.len.ensures) in
    let v = at_index ws c.in-Some.slot (omega (arith, c.in-Some.ensures.within, was.slots.ok)) in
    let added = read_holds (λ (v : Wait). c.list_announced-listed.new.front.items ≡ c.loop.front.items ++ passing (shares c.args.rows.now.rows.items c.args.attrs.now) (v ∷ [])) ws c.in-Some.slot v.0 v.1 c.list_announced-listed.ensures.all in
    elim c.if-slot-self.branch [
      | then-slot-self w ↦
          let which : c.in-Some.slot ≡ c.loop.first = of_first c.in-Some.slot c.loop.first c.loop.late was.sorted c.in-Some.ensures.either w.if-slot-self.true inv.past in
          record {
            chosen = c.list_announced-listed.ensures.chosen ∙ inv.chosen;
            front = c.list_announced-listed.ensures.front ∙ inv.front;
            past = omega (arith, w.late-is, inv.past);
            within = omega (arith, w.late-is, inv.within);
            far = omega (arith, inv.far, w.first-is, w.late-is, which, w.if-slot-self.true, w.next_slot-first.ensures.later);
            are = c.list_announced-listed.ensures.are inv.are;
            all =
                subst (λ l. AreCollected (shares c.args.rows.now.rows.items c.args.attrs.now) ws was.sorted c.args.room c.if-slot-self.first l c.list_announced-listed.new.front.items) (sym w.late-is)
                (collected_first (shares c.args.rows.now.rows.items c.args.attrs.now) (opens c.args.rows.now.rows.items c.args.attrs.now) ws was.sorted c.args.room was.apart c.loop.first c.loop.late c.if-slot-self.first c.in-Some.slot v.0 c.loop.front.items c.list_announced-listed.new.front.items
                (both_rise was.sorted ws was.first was.late) v.1 which w.if-slot-self.true inv.past (omega (arith, w.first-is, w.next_slot-first.ensures.later))
                (λ n z at low high. w.next_slot-first.ensures.between c.args.rows.now.rows.items c.args.attrs.now c.requires.chained c.requires.backed (sym c.kept_hash-hash.ensures) c.list_announced-listed.ensures.waits n z at low (omega (arith, high, w.first-is)))
                c.in-Some.ensures.least (omega (arith, more, c.loop.front.ok)) added inv.all);
          }
      | else-slot-self w ↦
          let which : c.in-Some.slot ≡ c.loop.late = of_late c.in-Some.slot c.loop.first c.loop.late was.sorted c.in-Some.ensures.either w.if-slot-self.false in
          record {
            chosen = c.list_announced-listed.ensures.chosen ∙ inv.chosen;
            front = c.list_announced-listed.ensures.front ∙ inv.front;
            past = omega (arith, w.late-is, inv.past, which);
            within = omega (arith, w.late-is, c.in-Some.ensures.within);
            far = omega (arith, inv.far, w.first-is, w.late-is, which);
            are = c.list_announced-listed.ensures.are inv.are;
            all =
                subst (λ f. AreCollected (shares c.args.rows.now.rows.items c.args.attrs.now) ws was.sorted c.args.room f c.if-slot-self.late c.list_announced-listed.new.front.items) (sym w.first-is)
                (collected_late (shares c.args.rows.now.rows.items c.args.attrs.now) (opens c.args.rows.now.rows.items c.args.attrs.now) ws was.sorted c.args.room was.apart c.loop.first c.loop.late c.if-slot-self.late c.in-Some.slot v.0 c.loop.front.items c.list_announced-listed.new.front.items
                (both_rise was.sorted ws was.first was.late) v.1 which inv.past w.late-is c.in-Some.ensures.least (omega (arith, more, c.loop.front.ok)) added inv.all);
          }
    ]

pub returns-clause-all : goal.returns-clause-all
returns-clause-all c =
    let was = c.args.self.now in
    collected_all (shares c.args.rows.now.rows.items c.args.attrs.now) (opens c.args.rows.now.rows.items c.args.attrs.now) was.slots.items was.sorted c.args.room was.apart c.loop.first c.loop.late c.loop.front.items
    (inr (omega (arith, c.loop.invariant.far, c.loop.invariant.within, c.loop-test.false, c.len-end.ensures), omega (arith, c.loop.invariant.far, c.loop.invariant.within, c.loop-test.false, c.len-end.ensures, was.slots.ok)))
    c.loop.invariant.all

pub returns-then-room-len-clause-all : goal.returns-then-room-len-clause-all
returns-then-room-len-clause-all c =
    let was = c.args.self.now in
    collected_all (shares c.args.rows.now.rows.items c.args.attrs.now) (opens c.args.rows.now.rows.items c.args.attrs.now) was.slots.items was.sorted c.args.room was.apart c.loop.first c.loop.late c.loop.front.items
    (inl (omega (arith, c.if-room-len.true, c.len.ensures, c.loop.front.ok)))
    c.loop.invariant.all

pub returns-in_default-clause-all : goal.returns-in_default-clause-all
returns-in_default-clause-all c =
    let was = c.args.self.now in
    let ended = c.lesser.ensures.none c.in_default.is in
    collected_all (shares c.args.rows.now.rows.items c.args.attrs.now) (opens c.args.rows.now.rows.items c.args.attrs.now) was.slots.items was.sorted c.args.room was.apart c.loop.first c.loop.late c.loop.front.items
    (inr (ended.0, omega (arith, ended.1, was.slots.ok)))
    c.loop.invariant.all
