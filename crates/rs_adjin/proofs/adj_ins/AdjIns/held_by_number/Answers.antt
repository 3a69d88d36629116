use Rattle.std.proofs.Common.{◌≡◌, ◌<◌, length, sym, subst}
use Rattle.std.specs.List.{AllPairs}
use Rattle.std.specs.Prelude.{Contains, All, Some}
use Rattle.std.specs.Map.{keys_of}
use Rattle.rs_adjin.specs.Numbers.{number_in}
use Rattle.rs_adjin.specs.Table.{IsHeldBy, held_prefix}
use Rattle.rs_adjin.proofs.NumberLists.{numbers_rise}
use Rattle.rs_adjin.specs.AdjIns.{client_count, held_of, number_of}
use Rattle.rs_adjin.proofs.Holding.{numbered, entry_held, held_entry, entry_numbers}
use Rattle.rs_octets.proofs.Members.{has, contains}
use Rattle.rs_adjin.proofs.Ties.{tied_at}
use Rattle.rs_adjin.proofs.adj_ins.AdjIns.held_by_number.Goals as goal

pub new-requires : goal.new-requires
unfolding client_count
new-requires c =
    let tied : IsHeldBy c.args.client c.index.result.now c.args.self.now.table = tied_at c.args.self.now.held.items c.args.self.now.table c.args.client _ c.index.result.now c.args.self.now.tied c.requires (sym c.args.self.now.sets) c.index.ensures in
    numbered c.args.client c.index.result.now c.args.self.now.table tied

pub returns-clause-all : goal.returns-clause-all
unfolding client_count held_of
returns-clause-all c p =
    let tied : IsHeldBy c.args.client c.index.result.now c.args.self.now.table = tied_at c.args.self.now.held.items c.args.self.now.table c.args.client _ c.index.result.now c.args.self.now.tied c.requires (sym c.args.self.now.sets) c.index.ensures in (
      λ h. entry_held c.args.client c.index.result.now c.args.self.now.table tied p (has _ p (subst (λ es. Contains (keys_of es) p) c.new.ensures h)),
      λ h. subst (λ es. Contains (keys_of es) p) (sym c.new.ensures) (contains _ p (held_entry c.args.client c.index.result.now c.args.self.now.table tied p h)),
    )

pub returns-clause-numbers : goal.returns-clause-numbers
unfolding client_count number_of
returns-clause-numbers c =
    let tied : IsHeldBy c.args.client c.index.result.now c.args.self.now.table = tied_at c.args.self.now.held.items c.args.self.now.table c.args.client _ c.index.result.now c.args.self.now.tied c.requires (sym c.args.self.now.sets) c.index.ensures in
    subst (All (λ e. number_in c.args.self.now.table e.0 ≡ Some e.1)) (sym c.new.ensures) (entry_numbers c.args.client c.index.result.now c.args.self.now.table tied)

pub returns-clause-rising : goal.returns-clause-rising
returns-clause-rising c = subst (AllPairs (λ e f. e.1 < f.1)) (sym c.new.ensures) (numbers_rise (held_prefix c.args.self.now.table c.index.result.now) 0 (length c.args.self.now.table.rows.items))
