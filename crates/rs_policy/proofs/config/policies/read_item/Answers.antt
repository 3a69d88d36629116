use Rattle.std.proofs.Common.{◌≡◌, true, false, ◌∙◌}
use Rattle.toml.specs.View.{view}
use Rattle.rs_policy.specs.Documents.{has_use}
use Rattle.rs_policy.proofs.Reading.Checks.{passed_on}
use Rattle.rs_policy.proofs.Reading.SharedRules.{is_there, item_uses, item_uses_none, item_owns, item_owns_none}
use Rattle.rs_policy.proofs.config.policies.read_item.Goals as goal

pub returns-in_err-read_use : goal.returns-in_err-read_use
returns-in_err-read_use c =
    let uses : has_use (view c.args.table.now) ≡ true = is_there _ _ _ _ c.find.ensures c.is_some.ensures ∙ c.if-is_some.true in
    passed_on _ _ _ c.from_residual.ensures.1 (λ _. item_uses_none c.args.clients.now c.args.lists.now c.args.shared.now c.args.here (view c.args.table.now) _ uses c.in_err-read_use.ensures)

pub returns-then-is_some : goal.returns-then-is_some
returns-then-is_some c =
    let uses : has_use (view c.args.table.now) ≡ true = is_there _ _ _ _ c.find.ensures c.is_some.ensures ∙ c.if-is_some.true in
    (item_uses c.args.clients.now c.args.lists.now c.args.shared.now c.args.here (view c.args.table.now) _ uses c.in_ok-read_use.ensures, tt)

pub returns-in_err-read_rule : goal.returns-in_err-read_rule
returns-in_err-read_rule c =
    let owns : has_use (view c.args.table.now) ≡ false = is_there _ _ _ _ c.find.ensures c.is_some.ensures ∙ c.if-is_some.false in
    passed_on _ _ _ c.from_residual-in_err-read_rule.ensures.1 (λ other. item_owns_none c.args.clients.now c.args.lists.now c.args.shared.now c.args.here (view c.args.table.now) _ owns (c.in_err-read_rule.ensures.1 other))

pub returns : goal.returns
returns c =
    let owns : has_use (view c.args.table.now) ≡ false = is_there _ _ _ _ c.find.ensures c.is_some.ensures ∙ c.if-is_some.false in
    (item_owns c.args.clients.now c.args.lists.now c.args.shared.now c.args.here (view c.args.table.now) _ owns c.in_ok-read_rule.ensures.0, tt)
