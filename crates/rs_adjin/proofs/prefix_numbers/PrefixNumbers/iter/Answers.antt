use Rattle.std.proofs.Common.{◌≡◌, ◌∙◌, Some, sym, refl, subst, arith}
use Rattle.std.specs.Prelude.{All, Contains, slice_get}
use Rattle.std.specs.List.Sorted.{IsStrictlySortedBy}
use Rattle.std.specs.Map.{keys_of}
use Rattle.rs_octets.specs.Prefixes.{prefix_order}
use Rattle.rs_adjin.specs.Numbering.{number_by}
use Rattle.rs_adjin.specs.PrefixTrees.{entries_of}
use Rattle.rs_adjin.proofs.Onward.{all_between}
use Rattle.rs_adjin.proofs.TableRows.{shown}
use Rattle.rs_adjin.proofs.PrefixTrees.{all_in_place}
use Rattle.rs_adjin.proofs.PrefixWalks.{rise, numbered, listed, begun}
use Rattle.rs_adjin.proofs.prefix_numbers.PrefixNumbers.iter.Goals as goal

whole : (c : goal.After-new) → c.new.result ≡ entries_of c.args.self.now.trees.items
whole c =
    let trees = c.args.self.now.trees.items in
    let first : slice_get trees 0 ≡ Some c.index.result.now = shown trees trees 0 c.index.result.now refl (omega (arith, c.args.self.now.all)) c.index.ensures in
    begun trees c.deref.result.now c.index.result.now c.range.result c.new.result c.new.ensures (c.range.ensures.between tt ∙ all_between c.index.result.now.entries) c.deref.ensures.value first

pub returns-clause-rising : goal.returns-clause-rising
returns-clause-rising c = subst (λ es. IsStrictlySortedBy prefix_order (keys_of es)) (sym (whole c)) (rise 0 c.args.self.now.trees.items (all_in_place c.args.self.now.trees.items c.args.self.now.standing))

pub returns-clause-numbers : goal.returns-clause-numbers
returns-clause-numbers c = subst (λ es. All (λ e. number_by c.args.self.now e.0 ≡ Some e.1) es) (sym (whole c)) (numbered c.args.self.now.trees.items (all_in_place c.args.self.now.trees.items c.args.self.now.standing))

pub returns-clause-all : goal.returns-clause-all
returns-clause-all c p some = subst (λ es. Contains (keys_of es) p) (sym (whole c)) (listed c.args.self.now.trees.items p (all_in_place c.args.self.now.trees.items c.args.self.now.standing) some)
