use Rattle.std.proofs.Common.{◌∙◌, ap, sym}
use Rattle.rs_policy.specs.Documents.{rules_name_peer}
use Rattle.rs_policy.specs.Patterns.{tests_name_peer}
use Rattle.rs_policy.proofs.Judging.Prefixes.{none_written}
use Rattle.rs_policy.proofs.rules.receivers.names_receiver.Goals as goal

pub returns : goal.returns
returns c = λ none.
    ap rules_name_peer (sym c.export-exports.ensures ∙ c.parts.ensures)
    ∙ none_written (λ rule. tests_name_peer rule.tests) c.parts.result.1.now c.parts.result.0.now (sym c.names_receiver_among.ensures ∙ none)
