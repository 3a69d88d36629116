use Rattle.std.proofs.Common.{◌+◌, min, refl, ap, ◌∙◌}
use Rattle.rs_page_parts.specs.Traffic.{greatest}
use Rattle.rs_page_parts.proofs.Counted.{message_ends}
use Rattle.rs_page_parts.proofs.traffic.Traffic.end_message.Goals as goal

pub returns-clause-counted : goal.returns-clause-counted
returns-clause-counted c before octets part count is =
    message_ends before octets part c.args.kind c.args.self.now _ count (c.saturating_add-self.ensures ∙ ap (λ n. min (c.args.self.now.updates + n) greatest) c.updates_of.ensures) refl is
