use Rattle.std.proofs.Common.{refl, take, arith, rules}
use Rattle.std.proofs.lemmas.Grind.{common_steps}
use Rattle.rs_trace.specs.Trace.{Opened, Heard, Offered, Passed, Turned, Left, Commanded, Replaced}
use Rattle.rs_trace.proofs.trace_lines.TraceLines.event_of.Goals as goal

pub returns-in-Some-Open-clause-takes_up : goal.returns-in-Some-Open-clause-takes_up
returns-in-Some-Open-clause-takes_up c = (Opened c.in-Some-Open.c, first_of (search rules, grind (arith, common_steps)), refl)

pub returns-in-Some-Octets-clause-takes_up : goal.returns-in-Some-Octets-clause-takes_up
returns-in-Some-Octets-clause-takes_up c = (Heard c.in-Some-Octets.c (take c.in-Some-Octets.size c.args.piece.now), first_of (search rules, grind (arith, common_steps)), refl)

pub returns-in-Some-Room-clause-takes_up : goal.returns-in-Some-Room-clause-takes_up
returns-in-Some-Room-clause-takes_up c = (Offered c.in-Some-Room.c c.in-Some-Room.room, first_of (search rules, grind (arith, common_steps)), refl)

pub returns-in-Some-Moment-clause-takes_up : goal.returns-in-Some-Moment-clause-takes_up
returns-in-Some-Moment-clause-takes_up c = (Passed c.in-Some-Moment.second, first_of (search rules, grind (arith, common_steps)), refl)

pub returns-in-Some-Turn-clause-takes_up : goal.returns-in-Some-Turn-clause-takes_up
returns-in-Some-Turn-clause-takes_up c = (Turned, first_of (search rules, grind (arith, common_steps)), refl)

pub returns-in-Some-Lost-clause-takes_up : goal.returns-in-Some-Lost-clause-takes_up
returns-in-Some-Lost-clause-takes_up c = (Left c.in-Some-Lost.c, first_of (search rules, grind (arith, common_steps)), refl)

pub returns-in-Some-Commanded-clause-takes_up : goal.returns-in-Some-Commanded-clause-takes_up
returns-in-Some-Commanded-clause-takes_up c = (Commanded c.in-Some-Commanded.c c.in-Some-Commanded.command, first_of (search rules, grind (arith, common_steps)), refl)

pub returns-in_ok-go_on-in-Some-Rules-clause-takes_up : goal.returns-in_ok-go_on-in-Some-Rules-clause-takes_up
returns-in_ok-go_on-in-Some-Rules-clause-takes_up c = (Replaced c.swap.new.y.items, first_of (search rules, grind (arith, common_steps)), refl)
