use Rattle.std.proofs.Common.{◌≡◌, ℕ, sym, subst}
use Rattle.std.specs.Prelude.{Contains, All, Some}
use Rattle.std.specs.List.{AllByRecursion}
use Rattle.std.specs.List.Sorted.{IsStrictlySortedBy}
use Rattle.std.specs.Map.{keys_of}
use Rattle.std.proofs.lemmas.List.Elements.{All-filter, recursion_from_All}
use Rattle.rs_octets.specs.Prefixes.{Prefix, prefix_order}
use Rattle.rs_octets.proofs.Members.{has, contains}
use Rattle.rs_adjin.specs.Held.{has_number}
use Rattle.rs_adjin.specs.Numbers.{number_in}
use Rattle.rs_adjin.specs.Table.{IsHeldBy}
use Rattle.rs_adjin.specs.AdjIns.{client_count, held_of, number_of}
use Rattle.rs_adjin.proofs.Onward.{keys_among}
use Rattle.rs_adjin.proofs.Holding.{rising_held, listed_held, held_listed}
use Rattle.rs_adjin.proofs.Listed.{held_number}
use Rattle.rs_adjin.proofs.Ties.{tied_at}
use Rattle.rs_adjin.proofs.adj_ins.AdjIns.held_from.Goals as goal

tied : (c : goal.After-new) → IsHeldBy c.args.client c.index.result.now c.args.self.now.table
unfolding client_count
tied c = tied_at c.args.self.now.held.items c.args.self.now.table c.args.client _ c.index.result.now c.args.self.now.tied c.requires (sym c.args.self.now.sets) c.index.ensures

numbers : (c : goal.After-new) → AllByRecursion (λ (e : Prefix × ℕ). number_in c.args.self.now.table e.0 ≡ Some e.1) c.iter_from.result
numbers c = recursion_from_All (λ (e : Prefix × ℕ). number_in c.args.self.now.table e.0 ≡ Some e.1) c.iter_from.result c.iter_from.ensures.numbers

pub returns-clause-rising : goal.returns-clause-rising
returns-clause-rising c =
    subst (λ es. IsStrictlySortedBy prefix_order (keys_of es)) (sym c.new.ensures)
    (rising_held c.args.client c.index.result.now c.args.self.now.table (tied c) c.iter_from.result (numbers c) c.iter_from.ensures.rising)

pub returns-clause-all : goal.returns-clause-all
unfolding held_of
returns-clause-all c p =
    let table = c.args.self.now.table in
    let held = c.index.result.now in
    let es = c.iter_from.result in (
      λ h.
          let among = has _ p (subst (λ es. Contains (keys_of es) p) c.new.ensures h) in
          (((c.iter_from.ensures.all p).0 (contains _ p (keys_among (λ e. has_number held e.1) es p among))).0, listed_held c.args.client held table (tied c) es (numbers c) p among),
      λ h.
          let there = has _ p ((c.iter_from.ensures.all p).1 (h.0, held_number c.args.client table p h.1)) in
          subst (λ es. Contains (keys_of es) p) (sym c.new.ensures) (contains _ p (held_listed c.args.client held table (tied c) es (numbers c) p there h.1)),
    )

pub returns-clause-numbers : goal.returns-clause-numbers
unfolding number_of
returns-clause-numbers c = subst (All (λ e. number_in c.args.self.now.table e.0 ≡ Some e.1)) (sym c.new.ensures) (All-filter (λ (e : Prefix × ℕ). has_number c.index.result.now e.1) (λ e. number_in c.args.self.now.table e.0 ≡ Some e.1) c.iter_from.result c.iter_from.ensures.numbers)
