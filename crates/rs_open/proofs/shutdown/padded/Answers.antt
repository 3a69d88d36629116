use Rattle.rs_open.proofs.Texts.{zeros_behind}
use Rattle.rs_open.proofs.shutdown.padded.Goals as goal

pub returns : goal.returns
returns c = zeros_behind c.args.text.now c.copy_from_slice.new.self c.copy_from_slice.ensures.after
