use Rattle.std.proofs.Common.{◌≡◌, ◌∙◌, ◌<◌, ◌++◌, ◌∷◌, [], None, arith, inl, inr, refl, true, subst, sym, vec_len}
use Rattle.std.proofs.lemmas.Bool.{and_parts}
use Rattle.rs_outlet.specs.declared.waiting.Wait.{Wait}
use Rattle.rs_outlet.specs.Pending.Slots.{is_withdrawal, is_withdrawn}
use Rattle.rs_outlet.specs.Pending.Choosing.{passing}
use Rattle.rs_outlet.proofs.Message.Chosen.{as_many, none_chosen}
use Rattle.rs_outlet.proofs.Message.Collected.{AreCollected, at_index, both_rise, collected_all, collected_first, collected_late, collected_none, not_before, of_first, of_late, read_holds}
use Rattle.rs_outlet.proofs.waiting.Waits.collect_withdrawn.Goals.{then-slot-self, else-slot-self}
use Rattle.rs_outlet.proofs.waiting.Waits.collect_withdrawn.Goals as goal

opens : (w : Wait) → is_withdrawn w ≡ true → w.open ≡ true
opens w is = (and_parts w.open (is_withdrawal w.due) is).0

pub loop-init : goal.loop-init
loop-init c =
    let was = c.args.self.now in
    record {
      chosen = refl;
      front = refl;
      past = omega arith;
      within = was.within;
      far = omega arith;
      are = λ rows. none_chosen rows was.slots.items None _ _ c.requires.none.0 c.requires.none.1;
      all = collected_none is_withdrawn opens was.slots.items was.sorted c.args.room was.apart was.gone c.args.front.now.items c.requires.none.1
          (λ n w at below within. not_before is_withdrawn was.sorted 0 was.gone was.slots.items was.withdrawn n w at (omega arith) below within);
    }

-- there is room for one more
pub list_withdrawn-requires-clause-room : goal.list_withdrawn-requires-clause-room
list_withdrawn-requires-clause-room c =
    let inv = c.loop.invariant in
    let more : vec_len c.loop.front < c.args.room = omega (arith, c.if-room-len.false, c.len.ensures) in
    let even = as_many [] c.args.self.now.slots.items None c.loop.chosen.items c.loop.front.items (inv.are []) in
    (omega (arith, more, even, c.requires.room.0, inv.chosen, c.loop.front.ok, c.loop.chosen.ok), omega (arith, more, c.requires.room.1, inv.front))

pub loop-preserved : goal.loop-preserved
loop-preserved c =
    let was = c.args.self.now in
    let ws = was.slots.items in
    let inv = c.loop.invariant in
    let more : vec_len c.loop.front < c.args.room = omega (arith, c.if-room-len.false, c.len.ensures) in
    let v = at_index ws c.in-Some.slot (omega (arith, c.in-Some.ensures.within, was.slots.ok)) in
    let added = read_holds (λ (v : Wait). c.list_withdrawn.new.front.items ≡ c.loop.front.items ++ passing is_withdrawn (v ∷ [])) ws c.in-Some.slot v.0 v.1 c.list_withdrawn.ensures.all in
    elim c.if-slot-self.branch [
      | then-slot-self w ↦
          let which : c.in-Some.slot ≡ c.loop.first = of_first c.in-Some.slot c.loop.first c.loop.late was.sorted c.in-Some.ensures.either w.if-slot-self.true inv.past in
          record {
            chosen = c.list_withdrawn.ensures.chosen ∙ inv.chosen;
            front = c.list_withdrawn.ensures.front ∙ inv.front;
            past = omega (arith, w.late-is, inv.past);
            within = omega (arith, w.late-is, inv.within);
            far = omega (arith, inv.far, w.first-is, w.late-is, which, w.if-slot-self.true);
            are = λ rows. c.list_withdrawn.ensures.are rows (inv.are rows);
            all =
                subst (λ l. AreCollected is_withdrawn ws was.sorted c.args.room c.if-slot-self.first l c.list_withdrawn.new.front.items) (sym w.late-is)
                (collected_first is_withdrawn opens ws was.sorted c.args.room was.apart c.loop.first c.loop.late c.if-slot-self.first c.in-Some.slot v.0 c.loop.front.items c.list_withdrawn.new.front.items
                (both_rise was.sorted ws was.first was.late) v.1 which w.if-slot-self.true inv.past (omega (arith, w.first-is))
                (λ n z at low high. absurd (omega (arith, low, high, w.first-is)))
                c.in-Some.ensures.least (omega (arith, more, c.loop.front.ok)) added inv.all);
          }
      | else-slot-self w ↦
          let which : c.in-Some.slot ≡ c.loop.late = of_late c.in-Some.slot c.loop.first c.loop.late was.sorted c.in-Some.ensures.either w.if-slot-self.false in
          record {
            chosen = c.list_withdrawn.ensures.chosen ∙ inv.chosen;
            front = c.list_withdrawn.ensures.front ∙ inv.front;
            past = omega (arith, w.late-is, inv.past, which);
            within = omega (arith, w.late-is, c.in-Some.ensures.within);
            far = omega (arith, inv.far, w.first-is, w.late-is, which);
            are = λ rows. c.list_withdrawn.ensures.are rows (inv.are rows);
            all =
                subst (λ f. AreCollected is_withdrawn ws was.sorted c.args.room f c.if-slot-self.late c.list_withdrawn.new.front.items) (sym w.first-is)
                (collected_late is_withdrawn opens ws was.sorted c.args.room was.apart c.loop.first c.loop.late c.if-slot-self.late c.in-Some.slot v.0 c.loop.front.items c.list_withdrawn.new.front.items
                (both_rise was.sorted ws was.first was.late) v.1 which inv.past w.late-is c.in-Some.ensures.least (omega (arith, more, c.loop.front.ok)) added inv.all);
          }
    ]

pub returns-clause-all : goal.returns-clause-all
returns-clause-all c =
    let was = c.args.self.now in
    collected_all is_withdrawn opens was.slots.items was.sorted c.args.room was.apart c.loop.first c.loop.late c.loop.front.items
    (inr (omega (arith, c.loop.invariant.far, c.loop.invariant.within, c.loop-test.false, c.len-end.ensures), omega (arith, c.loop.invariant.far, c.loop.invariant.within, c.loop-test.false, c.len-end.ensures, was.slots.ok)))
    c.loop.invariant.all

pub returns-then-room-len-clause-all : goal.returns-then-room-len-clause-all
returns-then-room-len-clause-all c =
    let was = c.args.self.now in
    collected_all is_withdrawn opens was.slots.items was.sorted c.args.room was.apart c.loop.first c.loop.late c.loop.front.items
    (inl (omega (arith, c.if-room-len.true, c.len.ensures, c.loop.front.ok)))
    c.loop.invariant.all

pub returns-in_default-clause-all : goal.returns-in_default-clause-all
returns-in_default-clause-all c =
    let was = c.args.self.now in
    let ended = c.lesser.ensures.none c.in_default.is in
    collected_all is_withdrawn opens was.slots.items was.sorted c.args.room was.apart c.loop.first c.loop.late c.loop.front.items
    (inr (ended.0, omega (arith, ended.1, was.slots.ok)))
    c.loop.invariant.all
