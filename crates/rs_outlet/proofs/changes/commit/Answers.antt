use Rattle.std.proofs.Common.{◌≡◌, ◌++◌, false, nat_eq, [], ◌∷◌, length, arith, ◌∙◌, cond, sym, ap, subst, refl, Some}
use Rattle.std.specs.FinMap as fin
use Rattle.std.specs.List.{AllByRecursion, IsDistinct, list_any}
use Rattle.std.specs.Vec.Iter.{into_iter_items}
use Rattle.std.proofs.lemmas.Bool.Decides.{nat_tests}
use Rattle.std.proofs.lemmas.Map.Keys.{IsDistinct-head, IsDistinct-tail}
use Rattle.rs_adjin.specs.AdjIns.{number_of}
use Rattle.rs_outlet.specs.Inside.{AreDue, AreOwn, ArePlaced, ChangesFit, HaveRows, is_changed, loc_of, numbers_of}
use Rattle.rs_outlet.proofs.Pending.Backing.{are_backed_same, backed_step, front_backed, own_rest}
use Rattle.rs_outlet.specs.Pending.Slots.{prefixes_at, withdrawn_count}
use Rattle.rs_outlet.specs.Pending.Owed.{prefixes_of}
use Rattle.rs_outlet.proofs.Pending.Carrying.{fresh_step, keeps_both, keeps_same, keeps_step, length_step, none_fresh, none_more, none_unlisted, unlisted_rest, unlisted_step}
use Rattle.rs_outlet.proofs.Decided.LocByNumber.{same, same_is, by_number, numbered}
use Rattle.rs_outlet.proofs.Decided.Numbering.{all_nil, no_elements}
use Rattle.rs_outlet.proofs.Decided.TurnedLoc.{change_done}
use Rattle.rs_outlet.proofs.changes.commit.Goals as goal

pub loop-change-init : goal.loop-change-init
loop-change-init c =
    let are : into_iter_items c.into_iter-change-iterator.result ≡ c.args.changes.items = c.into_iter-change-iterator.ensures.into_iter_gives.0 in
    let none = c.requires.none in
    record {
      room = refl;
      prepared = refl;
      rows = subst (λ cs. HaveRows cs c.args.rows.now.rows) (sym are) c.requires.rows;
      placed = λ ins p. subst (λ cs. ArePlaced cs ins) (sym are) p;
      due = λ due d. subst (AreDue due) (sym are) d;
      loc = λ ins due p d h q. ap (λ cs. cond (is_changed cs q) (due q) (fin.get (loc_of c.args.rows.now.rows.items) q)) are;
      numbered = λ ins p h. h;
      more = omega (arith, ap length are, ap length none, c.args.fresh.ok, c.args.changes.ok);
      spare = c.requires.fresh;
      count = omega arith;
      all = omega (arith, c.requires.all, ap length are, ap withdrawn_count none, c.args.changes.ok);
      capacity = refl;
      fresh = none_fresh c.args.waits.now.slots.items c.args.fresh.items none;
      once = subst (λ cs. IsDistinct same (prefixes_of cs)) (sym are) c.requires.once;
      numbers = subst (λ cs. IsDistinct nat_eq (numbers_of cs)) (sym are) c.requires.numbers;
      own = subst (λ cs. AreOwn cs c.args.rows.now.rows.items) (sym are) c.requires.own;
      backed = λ backed. are_backed_same _ _ _ _ (λ n. refl) (ap (λ fs. c.args.waits.now.slots.items ++ fs) none ∙ all_nil c.args.waits.now.slots.items) backed;
      chained = λ _ chained. chained;
      fits = λ speech fits. subst (ChangesFit speech) (sym are) fits;
      fit = λ speech fits fit. fit;
      unlisted = none_unlisted c.args.fresh.items _ none;
      keeps = λ ins p h q. keeps_same _ _ _ _ (none_more q c.args.waits.now.slots.items c.args.fresh.items none) refl;
    }

pub loop-change-preserved : goal.loop-change-preserved
loop-change-preserved c =
    let rest = into_iter_items c.next.new.self in
    let x = c.in-Some.change in
    let inv = c.loop-change.invariant in
    let are : into_iter_items c.loop-change.change-iterator ≡ x ∷ rest = c.in-Some.ensures.steps.0 in
    let rows : HaveRows (x ∷ rest) c.args.rows.now.rows = subst (λ cs. HaveRows cs c.args.rows.now.rows) are inv.rows in
    let was = c.loop-change.rows.rows.items in
    let fs = c.loop-change.fresh.items in
    let once : IsDistinct same (prefixes_of (x ∷ rest)) = subst (λ cs. IsDistinct same (prefixes_of cs)) are inv.once in
    let unlisted : AllByRecursion (λ q. list_any (same q) (prefixes_at fs) ≡ false) (prefixes_of (x ∷ rest)) = subst (λ cs. AllByRecursion (λ q. list_any (same q) (prefixes_at fs) ≡ false) (prefixes_of cs)) are inv.unlisted in
    let carried = c.carry_out.ensures.waits in
    let numbers : IsDistinct nat_eq (numbers_of (x ∷ rest)) = subst (λ cs. IsDistinct nat_eq (numbers_of cs)) are inv.numbers in
    let own : AreOwn (x ∷ rest) was = subst (λ cs. AreOwn cs was) are inv.own in
    record {
      room = c.carry_out.ensures.room ∙ inv.room;
      prepared = c.carry_out.ensures.prepared ∙ inv.prepared;
      rows = rows.1;
      placed = λ ins p. (subst (λ cs. ArePlaced cs ins) are (inv.placed ins p)).1;
      due = λ due d. (subst (AreDue due) are (inv.due due d)).1;
      loc = λ ins due p d h q.
          change_done due x rest q _ _ (same q x.prefix) refl
          (c.carry_out.ensures.loc ins ((subst (λ cs. ArePlaced cs ins) are (inv.placed ins p)).0) (inv.numbered ins p h) q)
          ((subst (AreDue due) are (inv.due due d)).0)
          ∙ ap (λ cs. cond (is_changed cs q) (due q) (fin.get (loc_of was) q)) (sym are)
          ∙ inv.loc ins due p d h q;
      numbered = λ ins p h. c.carry_out.ensures.numbered ins ((subst (λ cs. ArePlaced cs ins) are (inv.placed ins p)).0) (inv.numbered ins p h);
      more = omega (arith, inv.more, ap length are, length_step x _ _ _ fs _ _ carried, c.loop-change.fresh.ok, c.carry_out.new.fresh.ok);
      spare = omega (arith, inv.spare, c.carry_out.ensures.fresh);
      count = omega (arith, inv.count, c.carry_out.ensures.count);
      all = omega (arith, inv.all, ap length are, c.carry_out.ensures.most);
      capacity = c.carry_out.ensures.capacity ∙ inv.capacity;
      fresh = fresh_step x _ _ _ fs _ _ carried unlisted.0 inv.fresh;
      once = IsDistinct-tail same x.prefix (prefixes_of rest) once;
      numbers = IsDistinct-tail nat_eq x.number (numbers_of rest) numbers;
      own = own_rest x rest was _ c.carry_out.ensures.others (IsDistinct-head nat_eq x.number (numbers_of rest) numbers) own.1;
      backed = λ backed. backed_step x _ was _ _ _ _ _ carried own.0 c.carry_out.ensures.others unlisted.0 (inv.backed backed);
      chained = λ backed chained. c.carry_out.ensures.chained (front_backed was c.loop-change.waits.slots.items fs (inv.backed backed)) (inv.chained backed chained);
      fits = λ speech fits. (subst (ChangesFit speech) are (inv.fits speech fits)).1;
      fit = λ speech fits fit. c.carry_out.ensures.fit speech ((subst (ChangesFit speech) are (inv.fits speech fits)).0) (inv.fit speech fits fit);
      unlisted = unlisted_rest x rest fs c.carry_out.new.fresh.items (unlisted_step x _ _ _ fs _ _ carried) (IsDistinct-head same x.prefix (prefixes_of rest) once) unlisted.1;
      keeps = λ ins p h q.
          let placed = (subst (λ cs. ArePlaced cs ins) are (inv.placed ins p)).0 in
          keeps_both _ _ _ _ _ _ (inv.keeps ins p h q)
          (keeps_step x _ _ _ fs _ _ carried unlisted.0 q (same q x.prefix) (fin.get (loc_of was) q) _ refl
          (λ s. by_number ins was (numbered ins was (inv.numbered ins p h)) q (Some x.number) (ap (number_of ins) (same_is q x.prefix s) ∙ placed))
          (c.carry_out.ensures.loc ins placed (inv.numbered ins p h) q));
    }

pub returns-clause-none : goal.returns-clause-none
returns-clause-none c = λ none. absurd (grind (arith, nat_tests, ap length none, c.args.changes.ok, c.is_empty.ensures, c.if-is_empty.false))

pub returns-then-is_empty-clause-done : goal.returns-then-is_empty-clause-done
returns-then-is_empty-clause-done c = record {
  all = omega (arith, c.requires.all);
  loc = λ ins due p d h q.
      ap (λ cs. cond (is_changed cs q) (due q) (fin.get (loc_of c.args.rows.now.rows.items) q)) (no_elements c.args.changes.items (let e : length c.args.changes.items ≡ 0 = grind (arith, nat_tests, c.is_empty.ensures, c.if-is_empty.true, c.args.changes.ok) in e));
  numbered = λ ins p h. h;
  chained = λ _ chained. chained;
  backed = λ backed. backed;
  fit = λ speech new fit. fit;
  keeps = λ ins p h q. keeps_same _ _ _ _ refl refl;
}

pub returns-clause-done : goal.returns-clause-done
returns-clause-done c = record {
  all = omega (arith, c.loop-change.invariant.all, c.loop-change.invariant.capacity, c.add.ensures.withdrawn, c.add.ensures.capacity);
  loc = λ ins due p d h q.
      let it = c.loop-change.change-iterator in
      let none : [] ≡ into_iter_items it = no_elements _ (let e : length (into_iter_items it) ≡ 0 = omega (arith, c.in-None.ensures.steps.0, it.rest.ok) in e) in
      ap (λ cs. cond (is_changed cs q) (due q) (fin.get (loc_of c.loop-change.rows.rows.items) q)) none
      ∙ c.loop-change.invariant.loc ins due p d h q;
  numbered = λ ins p h. c.loop-change.invariant.numbered ins p h;
  chained = λ backed chained. c.add.ensures.chained c.loop-change.rows.rows.items (c.loop-change.invariant.chained backed chained);
  backed = λ backed q w is. c.loop-change.invariant.backed backed q w (sym (c.add.ensures.slots q) ∙ is);
  fit = λ speech new fit. c.loop-change.invariant.fit speech new fit;
  keeps = λ ins p h q.
      keeps_both _ _ _ _ _ _ (c.loop-change.invariant.keeps ins p h q) (keeps_same _ _ _ _ (c.add.ensures.slots q) refl);
}
