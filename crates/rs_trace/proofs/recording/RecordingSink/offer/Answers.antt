use Rattle.std.proofs.Common.{ap, ◌∙◌, length, refl, Some}
use Rattle.rs_core.specs.Drives.Steps as links
use Rattle.rs_trace.specs.Output.{sent_line}
use Rattle.rs_trace.proofs.PlayLemmas.{on_ok}
use Rattle.rs_trace.proofs.Replaying.{added_by}
use Rattle.rs_trace.proofs.recording.RecordingSink.offer.Goals as goal

pub returns-clause-step : goal.returns-clause-step
returns-clause-step g c = added_by (links.Offer c.args.c c.args.octets.now (Some (length c.args.octets.now))) refl refl (c.write.ensures _ (on_ok c.sent-made.result c.sent-made.ensures (λ e. e ∙ ap (λ n. sent_line n c.args.octets.now) c.name.ensures)))
