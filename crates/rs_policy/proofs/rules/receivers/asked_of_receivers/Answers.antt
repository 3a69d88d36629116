use Rattle.std.proofs.Common.{◌∙◌, ap, sym}
use Rattle.std.specs.List.{list_any}
use Rattle.rs_policy.specs.Asking.{asks_receiver}
use Rattle.rs_policy.proofs.Judging.Prefixes.{none_written}
use Rattle.rs_policy.proofs.Judging.Receivers.{receivers_alike}
use Rattle.rs_policy.proofs.Judging.Unasked.{none_asks_at}
use Rattle.rs_policy.proofs.rules.receivers.asked_of_receivers.Goals as goal

pub returns : goal.returns
returns c = λ m lacks.
    receivers_alike c.args.config.now c.args.to m c.is_read.ensures.imports
    (ap (list_any (asks_receiver m)) (sym c.export-exports.ensures ∙ c.parts.ensures)
    ∙ none_written (asks_receiver m) c.parts.result.1.now c.parts.result.0.now (none_asks_at c.with_items.result m c.parts.result.1.now c.parts.result.0.now lacks c.with_items.ensures))
