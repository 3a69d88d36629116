use Rattle.std.proofs.Common.{◌≡◌, None, Some, refl, arith}
use Rattle.std.specs.Prelude.{slice_get}
use Rattle.rs_adjin.proofs.TableRows.{shown}
use Rattle.rs_adjin.proofs.PrefixTrees.{gone_in_place, writes_among}
use Rattle.rs_adjin.proofs.prefix_numbers.PrefixNumbers.remove.Goals as goal

pub invariant_of-self-clause-standing : goal.invariant_of-self-clause-standing
invariant_of-self-clause-standing c =
    let trees = c.args.self.now.trees.items in
    let n = c.place_of-place.result in
    let read : slice_get trees n ≡ Some c.index_mut.result.now = shown trees trees n c.index_mut.result.now refl (omega (arith, c.args.self.now.all, c.place_of-place.ensures.within)) c.index_mut.ensures.value in
    gone_in_place trees n c.index_mut.result.now c.remove.new.self c.args.prefix c.place_of-place.ensures.place read c.args.self.now.standing _ c.remove.ensures.entries c.remove.ensures.ordered

pub returns : goal.returns
returns c =
    let trees = c.args.self.now.trees.items in
    let n = c.place_of-place.result in
    let read : slice_get trees n ≡ Some c.index_mut.result.now = shown trees trees n c.index_mut.result.now refl (omega (arith, c.args.self.now.all, c.place_of-place.ensures.within)) c.index_mut.ensures.value in
    writes_among trees n c.index_mut.result.now c.remove.new.self c.args.prefix c.place_of-place.ensures.place read None c.remove.ensures.updates.0
