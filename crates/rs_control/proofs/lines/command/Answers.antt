use Rattle.std.proofs.Common.{rules}
use Rattle.rs_control.proofs.lines.command.Goals as goal

-- none of the words before them: one of the commands that name no member
pub returns-else-eq-5 : goal.returns-else-eq-5
returns-else-eq-5 c = let one = c.server_command.ensures c.args.config.now in search rules
