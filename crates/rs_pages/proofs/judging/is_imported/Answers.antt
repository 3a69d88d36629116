use Rattle.std.proofs.Common.{◌∙◌, ◌==◌, not, ap}
use Rattle.rs_pages.proofs.Noted.{passed_by_note}
use Rattle.rs_pages.proofs.judging.is_imported.Goals as goal

pub returns : goal.returns
returns c = ap (λ note. not (note == 0)) c.import_note.ensures ∙ passed_by_note c.args.config.now c.args.from c.args.prefix.now c.args.attrs.now
