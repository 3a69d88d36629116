use Rattle.std.proofs.Common.{◌∙◌, ap, sym}
use Rattle.std.specs.List.{list_any}
use Rattle.rs_policy.specs.Asking.{asks_receiver}
use Rattle.rs_policy.proofs.Judging.Prefixes.{none_written}
use Rattle.rs_policy.proofs.Judging.Receivers.{receivers_alike}
use Rattle.rs_policy.proofs.Judging.WithoutRules.{with_same_exports}
use Rattle.rs_policy.proofs.rules.receivers.may_ask_receiver.Goals as goal

pub returns : goal.returns
returns c = λ none.
    receivers_alike c.args.config.now c.args.to c.args.attrs.now c.is_read.ensures.imports
    (ap (list_any (asks_receiver c.args.attrs.now)) (sym c.export-exports.ensures ∙ c.parts.ensures)
    ∙ none_written (asks_receiver c.args.attrs.now) c.parts.result.1.now c.parts.result.0.now (sym c.asks_receiver_among.ensures ∙ none))

pub returns-then-not-names_receiver : goal.returns-then-not-names_receiver
returns-then-not-names_receiver c = λ none from other p known same.
    with_same_exports c.args.config.now c.args.to other c.is_read.ensures.imports same (c.names_receiver.ensures c.if-not-names_receiver.true) from p c.args.attrs.now known
