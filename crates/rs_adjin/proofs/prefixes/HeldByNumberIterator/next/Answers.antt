use Rattle.std.proofs.Common.{◌≡◌, ◌∙◌, ◌+◌, ◌-◌, ◌<◌, ◌≤◌, ap, sym, refl, length, [], ◌∷◌, suc, Some, arith, rules}
use Rattle.rs_adjin.specs.Numbers.{prefix_of_in}
use Rattle.rs_adjin.specs.Listing.{numbered_from}
use Rattle.rs_adjin.specs.Table.{held_prefix}
use Rattle.rs_adjin.proofs.TableRows.{row_within}
use Rattle.rs_adjin.proofs.NumberLists.{none_from, next_from}
use Rattle.rs_adjin.proofs.Holding.{prefix_held, prefix_left}
use Rattle.rs_adjin.proofs.prefixes.HeldByNumberIterator.next.Goals as goal

-- nothing is left
pub returns-in_err-number-clause-steps : goal.returns-in_err-number-clause-steps
returns-in_err-number-clause-steps c =
    let table = c.self.inside.table.now in
    let held = c.self.inside.held.now in
    let none : c.args.self.now ≡ [] =
    sym c.self.view_is ∙ none_from (held_prefix table held) c.self.inside.first (length table.rows.items - c.self.inside.first) (λ m up. prefix_left table held m (c.in_err-number.ensures.none refl m up)) in
    rw c.from_residual.ensures (none, none)

taken : (c : goal.After-self-1) → c.args.self.now ≡ (c.in_ok-prefix.prefix, c.in_ok-number.number) ∷ numbered_from (held_prefix c.self.inside.table.now c.self.inside.held.now) (suc c.in_ok-number.number) (length c.self.inside.table.now.rows.items - (c.in_ok-number.number + 1))
taken c =
    let table = c.self.inside.table.now in
    let held = c.self.inside.held.now in
    let next = c.in_ok-number.ensures.found in
    let at : prefix_of_in table c.in_ok-number.number ≡ Some c.in_ok-prefix.prefix = sym c.in_ok-prefix.ensures in
    let within : c.in_ok-number.number < length table.rows.items = row_within table.rows.items c.in_ok-number.number c.in_ok-prefix.prefix at in
    let from : c.self.inside.first ≤ c.in_ok-number.number = next.from in
    sym c.self.view_is
    ∙ next_from (held_prefix table held) c.self.inside.first (length table.rows.items - c.self.inside.first) c.in_ok-number.number (length table.rows.items - (c.in_ok-number.number + 1)) c.in_ok-prefix.prefix from (omega (arith, within, from))
    (λ m low below. prefix_left table held m (next.none_before m low below)) (prefix_held table held c.in_ok-number.number next.there ∙ at)

pub returns-clause-steps : goal.returns-clause-steps
returns-clause-steps c = taken c ∙ ap (λ n. (c.in_ok-prefix.prefix, c.in_ok-number.number) ∷ numbered_from (held_prefix c.self.inside.table.now c.self.inside.held.now) n (length c.self.inside.table.now.rows.items - (c.in_ok-number.number + 1))) (omega arith)

pub returns-clause-goes : goal.returns-clause-goes
returns-clause-goes c = let shorter = ap length (taken c) in search rules
