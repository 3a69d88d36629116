use Rattle.rs_open.proofs.ShortMessages.{note_fits, short_is_message, body_stands_behind}
use Rattle.rs_open.proofs.laws.short_is_a_message.Goals as goal

pub returns-clause-fits : goal.returns-clause-fits
returns-clause-fits c = note_fits

pub returns-clause-message : goal.returns-clause-message
returns-clause-message c = short_is_message

pub returns-clause-body : goal.returns-clause-body
returns-clause-body c = body_stands_behind
