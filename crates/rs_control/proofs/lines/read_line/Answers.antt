use Rattle.rs_control.proofs.Texts.{commanded, by_words, no_text}
use Rattle.rs_control.proofs.lines.read_line.Goals as goal

pub returns-in-Ok : goal.returns-in-Ok
returns-in-Ok c =
    commanded c.args.config.now c.args.line.now _ c.in-Ok.ensures.cases.1
    (by_words c.args.config.now c.unspaced.result.now _ _ _ _ c.unspaced.ensures c.split_word.ensures.word c.split_word.ensures.rest c.command.ensures)

pub returns-in-Err : goal.returns-in-Err
returns-in-Err c = no_text c.args.config.now c.args.line.now c.in-Err.ensures.cases.0
