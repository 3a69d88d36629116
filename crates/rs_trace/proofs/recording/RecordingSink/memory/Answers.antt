use Rattle.std.proofs.Common.{ap, ◌∙◌, codes, refl}
use Rattle.rs_core.specs.Drives.Steps as links
use Rattle.rs_trace.specs.Output.{client_line}
use Rattle.rs_trace.proofs.PlayLemmas.{on_ok}
use Rattle.rs_trace.proofs.Replaying.{added_by}
use Rattle.rs_trace.proofs.recording.RecordingSink.memory.Goals as goal

pub returns : goal.returns
returns g c = added_by (links.Memory c.args.c) tt refl (c.write.ensures _ (on_ok c.memory-made.result c.memory-made.ensures (λ e. e ∙ ap (client_line (codes "memory")) c.name.ensures)))
