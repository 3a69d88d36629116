use Rattle.rs_policy.proofs.Judging.Prefixes.{not_so}
use Rattle.rs_policy.proofs.Judging.WithoutRules.{with_same_exports}
use Rattle.rs_policy.proofs.rules.alike.judges_alike.Goals as goal

pub returns-then-has_same_exports : goal.returns-then-has_same_exports
returns-then-has_same_exports c = λ so.
    with_same_exports c.args.config.now c.args.one c.args.other c.is_read.ensures.imports (c.has_same_exports.ensures c.if-has_same_exports.true)
    (c.names_receiver.ensures (not_so c.names_receiver.result so))
