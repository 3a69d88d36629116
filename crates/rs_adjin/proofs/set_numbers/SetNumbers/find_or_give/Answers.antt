use Rattle.std.proofs.Common.{cond, ◌≡◌, ◌∙◌, ◌%◌, Some, ap, refl, arith}
use Rattle.std.specs.Prelude.{slice_get}
use Rattle.std.specs.BTreeMap.{is_at}
use Rattle.std.specs.Arc.{arc_value}
use Rattle.std.proofs.lemmas.Result.{IfOk-weaker, on_err_weaker}
use Rattle.rs_attrs.specs.Comparing.{attributes_cmp}
use Rattle.rs_adjin.specs.declared.set_numbers.TheConstants.{TREES}
use Rattle.rs_adjin.proofs.TableRows.{shown}
use Rattle.rs_adjin.proofs.SetTrees.{place_for, found_among, same_among, writes_among}
use Rattle.rs_adjin.proofs.set_numbers.SetNumbers.find_or_give.Goals as goal

place : (c : goal.After-self-1) → c.place_of-place.result ≡ place_for (arc_value c.args.attrs)
place c = c.place_of-place.ensures.place ∙ ap (λ h. h % TREES) c.key_of-key.ensures.hash

read : (c : goal.After-self-1) → slice_get c.make_trees.new.self.trees.items c.place_of-place.result ≡ Some c.index_mut.result.now
read c = shown c.make_trees.new.self.trees.items _ _ _ refl (omega (arith, c.in_ok-make_trees.ensures.all, c.place_of-place.ensures.within)) c.index_mut.ensures.value

pub returns-clause-found : goal.returns-clause-found
returns-clause-found c =
    IfOk-weaker c.find_or_give.result _ _
    (λ found is.
    is
    ∙ (found_among c.make_trees.new.self.trees.items c.place_of-place.result c.index_mut.result.now c.find_or_give.new.numbers (arc_value c.args.attrs) c.key_of-key.result c.key_of-key.ensures.hash (ap arc_value c.key_of-key.ensures.attrs) (place c) (read c)
    ∙ c.in_ok-make_trees.ensures.same (arc_value c.args.attrs)))
    c.find_or_give.ensures.found

pub returns-clause-given : goal.returns-clause-given
returns-clause-given c =
    IfOk-weaker c.find_or_give.result _ _
    (λ found writes none q.
    writes_among c.make_trees.new.self.trees.items c.place_of-place.result c.index_mut.result.now c.find_or_give.new.numbers (arc_value c.args.attrs) c.key_of-key.result c.key_of-key.ensures.hash (ap arc_value c.key_of-key.ensures.attrs) (place c) (read c) _ (writes none).0 q
    ∙ ap (λ o. cond (is_at (attributes_cmp (arc_value c.args.attrs)) q) (Some c.args.number) o) (c.in_ok-make_trees.ensures.same q))
    c.find_or_give.ensures.given

pub returns-clause-kept : goal.returns-clause-kept
returns-clause-kept c =
    IfOk-weaker c.find_or_give.result _ _
    (λ found kept n is m.
    same_among c.make_trees.new.self.trees.items c.place_of-place.result c.index_mut.result.now c.find_or_give.new.numbers (arc_value c.args.attrs) c.key_of-key.result c.key_of-key.ensures.hash (ap arc_value c.key_of-key.ensures.attrs) (place c) (read c) (kept n is) m
    ∙ c.in_ok-make_trees.ensures.same m)
    c.find_or_give.ensures.kept

pub returns-clause-err : goal.returns-clause-err
returns-clause-err c =
    on_err_weaker c.find_or_give.result
    (λ kept m.
    same_among c.make_trees.new.self.trees.items c.place_of-place.result c.index_mut.result.now c.find_or_give.new.numbers (arc_value c.args.attrs) c.key_of-key.result c.key_of-key.ensures.hash (ap arc_value c.key_of-key.ensures.attrs) (place c) (read c) kept m
    ∙ c.in_ok-make_trees.ensures.same m)
    c.find_or_give.ensures.err
