use Rattle.std.proofs.Common.{◌∙◌, ◌<◌, get_or, length, sym, arith}
use Rattle.std.proofs.lemmas.Option.{slice_get-get_or}
use Rattle.rs_core.proofs.Run.Lists.{map_ok, set_at}
use Rattle.rs_replay.proofs.SentTo.{have_given, have_given_beyond, have_given_none}
use Rattle.rs_replay.proofs.sent.take.Goals as goal

pub returns-then-c-clients : goal.returns-then-c-clients
returns-then-c-clients c = λ entries have.
    have_given_beyond c.args.core.now entries c.args.c c.args.octets.now c.args.connections.now (omega (arith, c.if-c-clients.true, c.clients.ensures, c.requires)) have

pub returns-in-None : goal.returns-in-None
returns-in-None c = λ entries have.
    have_given_none c.args.core.now entries c.args.c c.args.octets.now c.args.connections.now (λ run agrees. sym c.in-None.is ∙ c.mode.ensures run agrees) have

pub returns-in-Some : goal.returns-in-Some
returns-in-Some c =
    let old = c.args.connections.now in
    let x = get_or old c.args.c c.index-connections-c.result in
    let lt : c.args.c < length old = omega (arith, c.if-c-clients.false, c.clients.ensures, c.requires) in
    map_ok c.take.result c.take.ensures (λ takes entries have.
    have_given c.args.core.now entries c.args.c c.args.octets.now c.in-Some.mode old _ x c.take.new.self (slice_get-get_or old c.args.c c.index-connections-c.result lt)
    (set_at old c.args.c c.take.new.self lt) (λ run agrees. sym c.in-Some.is ∙ c.mode.ensures run agrees) takes have)
