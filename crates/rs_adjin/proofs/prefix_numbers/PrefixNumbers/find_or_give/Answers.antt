use Rattle.std.proofs.Common.{◌≡◌, ◌∙◌, ℕ, None, Some, refl, arith, rules}
use Rattle.std.specs.Prelude.{Option, Result, Ok, Err, OnErr, slice_get}
use Rattle.rs_adjin.proofs.TableRows.{shown}
use Rattle.rs_adjin.proofs.PrefixTrees.{given_in_place, left_in_place, found_among, same_among, writes_among}
use Rattle.rs_adjin.proofs.prefix_numbers.PrefixNumbers.find_or_give.Goals as goal

pub invariant_of-self : goal.invariant_of-self
invariant_of-self c =
    let trees = c.args.self.now.trees.items in
    let n = c.place_of-place.result in
    let read : slice_get trees n ≡ Some c.index_mut.result.now = shown trees trees n c.index_mut.result.now refl (omega (arith, c.args.self.now.all, c.place_of-place.ensures.within)) c.index_mut.ensures.value in
    record {
      all = search rules;
      standing = left_in_place trees n c.index_mut.result.now c.find_or_give.new.numbers c.args.prefix c.place_of-place.ensures.place read c.args.self.now.standing c.in_err-found.ensures.err;
    }

pub returns-in_err-found-clause-err : goal.returns-in_err-found-clause-err
returns-in_err-found-clause-err c =
    let trees = c.args.self.now.trees.items in
    let n = c.place_of-place.result in
    let read : slice_get trees n ≡ Some c.index_mut.result.now = shown trees trees n c.index_mut.result.now refl (omega (arith, c.args.self.now.all, c.place_of-place.ensures.within)) c.index_mut.ensures.value in
    at_err c.from_residual.result (same_among trees n c.index_mut.result.now c.find_or_give.new.numbers c.args.prefix c.place_of-place.ensures.place read c.in_err-found.ensures.err)
  where
    at_err : {A E P : Type 0} (r : Result A E) → P → OnErr r P
    at_err (Ok x) p = tt
    at_err (Err e) p = p

pub invariant_of-self-2-clause-standing : goal.invariant_of-self-2-clause-standing
invariant_of-self-2-clause-standing c =
    let trees = c.args.self.now.trees.items in
    let n = c.place_of-place.result in
    let read : slice_get trees n ≡ Some c.index_mut.result.now = shown trees trees n c.index_mut.result.now refl (omega (arith, c.args.self.now.all, c.place_of-place.ensures.within)) c.index_mut.ensures.value in
    either c.in_ok-found.found
    (λ none. given_in_place trees n c.index_mut.result.now c.find_or_give.new.numbers c.args.prefix c.place_of-place.ensures.place read c.args.self.now.standing c.args.number (c.in_ok-found.ensures.entries none) (c.in_ok-found.ensures.ordered none))
    (λ k some. left_in_place trees n c.index_mut.result.now c.find_or_give.new.numbers c.args.prefix c.place_of-place.ensures.place read c.args.self.now.standing (c.in_ok-found.ensures.kept k some))
  where
    either : {P : Type 0} (o : Option ℕ) → (o ≡ None → P) → ((k : ℕ) → o ≡ Some k → P) → P
    either None given kept = given refl
    either (Some k) given kept = kept k refl

pub returns-clause-found : goal.returns-clause-found
returns-clause-found c =
    let trees = c.args.self.now.trees.items in
    let n = c.place_of-place.result in
    let read : slice_get trees n ≡ Some c.index_mut.result.now = shown trees trees n c.index_mut.result.now refl (omega (arith, c.args.self.now.all, c.place_of-place.ensures.within)) c.index_mut.ensures.value in
    c.in_ok-found.ensures.found ∙ found_among trees n c.index_mut.result.now c.find_or_give.new.numbers c.args.prefix c.place_of-place.ensures.place read

pub returns-clause-given : goal.returns-clause-given
returns-clause-given c none =
    let trees = c.args.self.now.trees.items in
    let n = c.place_of-place.result in
    let read : slice_get trees n ≡ Some c.index_mut.result.now = shown trees trees n c.index_mut.result.now refl (omega (arith, c.args.self.now.all, c.place_of-place.ensures.within)) c.index_mut.ensures.value in
    writes_among trees n c.index_mut.result.now c.find_or_give.new.numbers c.args.prefix c.place_of-place.ensures.place read (Some c.args.number) (c.in_ok-found.ensures.given none).0

pub returns-clause-kept : goal.returns-clause-kept
returns-clause-kept c k some =
    let trees = c.args.self.now.trees.items in
    let n = c.place_of-place.result in
    let read : slice_get trees n ≡ Some c.index_mut.result.now = shown trees trees n c.index_mut.result.now refl (omega (arith, c.args.self.now.all, c.place_of-place.ensures.within)) c.index_mut.ensures.value in
    same_among trees n c.index_mut.result.now c.find_or_give.new.numbers c.args.prefix c.place_of-place.ensures.place read (c.in_ok-found.ensures.kept k some)
