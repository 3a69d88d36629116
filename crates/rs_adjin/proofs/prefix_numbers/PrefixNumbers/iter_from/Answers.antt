use Rattle.std.proofs.Common.{◌≡◌, ◌∙◌, ◌+◌, Some, sym, ap, refl, subst, arith}
use Rattle.std.specs.Prelude.{All, Contains, slice_get}
use Rattle.std.specs.List.{filter}
use Rattle.std.specs.List.Sorted.{IsStrictlySortedBy}
use Rattle.std.specs.Map.{keys_of}
use Rattle.std.proofs.lemmas.List.Elements.{All-filter}
use Rattle.std.proofs.lemmas.List.Kept.{IsStrictlySortedBy-filter}
use Rattle.rs_octets.specs.Prefixes.{prefix_order}
use Rattle.rs_octets.proofs.Members.{has, contains, kept, keeps}
use Rattle.rs_adjin.specs.Onward.{is_from}
use Rattle.rs_adjin.specs.Numbering.{number_by}
use Rattle.rs_adjin.specs.PrefixTrees.{entries_of}
use Rattle.rs_adjin.proofs.Onward.{between_from, from_on, keys_from}
use Rattle.rs_adjin.proofs.TableRows.{shown}
use Rattle.rs_adjin.proofs.PrefixTrees.{AreTreesFrom, all_in_place}
use Rattle.rs_adjin.proofs.PrefixWalks.{rise, numbered, listed, numbered_key, begun_from}
use Rattle.rs_adjin.proofs.prefix_numbers.PrefixNumbers.iter_from.Goals as goal

standing : (c : goal.After-new) → AreTreesFrom 0 c.args.self.now.trees.items
standing c = all_in_place c.args.self.now.trees.items c.args.self.now.standing

part : (c : goal.After-new) → c.new.result ≡ from_on c.args.from (entries_of c.args.self.now.trees.items)
part c =
    let trees = c.args.self.now.trees.items in
    let n = c.place_of-place.result in
    let first : slice_get trees n ≡ Some c.index.result.now = shown trees trees n c.index.result.now refl (omega (arith, c.args.self.now.all, c.place_of-place.ensures.within)) c.index.ensures in
    begun_from trees c.deref.result.now n (n + 1) c.index.result.now c.args.from c.range.result c.new.result (omega arith) c.new.ensures (c.range.ensures.between tt ∙ between_from c.args.from c.index.result.now.entries) c.deref.ensures.value
    (standing c) first c.place_of-place.ensures.place

keys : (c : goal.After-new) → keys_of c.new.result ≡ filter (is_from c.args.from) (keys_of (entries_of c.args.self.now.trees.items))
keys c = ap keys_of (part c) ∙ keys_from c.args.from (entries_of c.args.self.now.trees.items)

pub returns-clause-rising : goal.returns-clause-rising
returns-clause-rising c =
    subst (IsStrictlySortedBy prefix_order) (sym (keys c)) (IsStrictlySortedBy-filter prefix_order (is_from c.args.from) (keys_of (entries_of c.args.self.now.trees.items)) (rise 0 c.args.self.now.trees.items (standing c)))

pub returns-clause-numbers : goal.returns-clause-numbers
returns-clause-numbers c =
    subst (λ es. All (λ e. number_by c.args.self.now e.0 ≡ Some e.1) es) (sym (part c))
    (All-filter (λ e. is_from c.args.from e.0) (λ e. number_by c.args.self.now e.0 ≡ Some e.1) (entries_of c.args.self.now.trees.items) (numbered c.args.self.now.trees.items (standing c)))

pub returns-clause-all : goal.returns-clause-all
returns-clause-all c p =
    let trees = c.args.self.now.trees.items in (
      λ h.
          let k = kept (is_from c.args.from) (keys_of (entries_of trees)) p (has _ p (subst (λ ps. Contains ps p) (keys c) h)) in
          (k.1, numbered_key trees p (standing c) (contains _ p k.0)),
      λ h. subst (λ ps. Contains ps p) (sym (keys c)) (contains _ p (keeps (is_from c.args.from) (keys_of (entries_of trees)) p (has _ p (listed trees p (standing c) h.1)) h.0)),
    )
