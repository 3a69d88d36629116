use Rattle.std.proofs.Common.{refl, ap, ◌∙◌}
use Rattle.rs_control.proofs.Finding.{before, behind, all_before, none_behind}
use Rattle.rs_control.specs.Lines.{unspaced}
use Rattle.rs_control.proofs.lines.split_word.Goals as goal

pub returns-in-Some-clause-word : goal.returns-in-Some-clause-word
returns-in-Some-clause-word c = before _ _ c.args.text.now _ c.position.result c.position.ensures.place c.in-Some.is refl

pub returns-in-Some-clause-rest : goal.returns-in-Some-clause-rest
returns-in-Some-clause-rest c = c.unspaced.ensures ∙ ap unspaced (behind _ _ c.args.text.now c.position.result c.position.ensures.place c.in-Some.is)

pub returns-in-None-clause-word : goal.returns-in-None-clause-word
returns-in-None-clause-word c = all_before _ c.args.text.now c.position.result c.position.ensures.place c.in-None.is

pub returns-in-None-clause-rest : goal.returns-in-None-clause-rest
returns-in-None-clause-rest c = ap unspaced (none_behind _ c.args.text.now c.position.result c.position.ensures.place c.in-None.is)
