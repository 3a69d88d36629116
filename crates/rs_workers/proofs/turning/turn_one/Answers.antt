use Rattle.rs_workers.proofs.Answering.{answered}
use Rattle.rs_workers.proofs.turning.turn_one.Goals as goal

pub returns-clause-turned : goal.returns-clause-turned
returns-clause-turned c =
    let old = c.args.outlet.now in
    let new = c.turn.new.self in
    record {
      client = c.turn.ensures.client;
      extended = c.turn.ensures.extended;
      rest = c.turn.ensures.rest;
      answer = answered c.args.config.now c.args.tables.now old new c.turn.result c.turn.ensures.turned c.turn.ensures.done c.turn.ensures.refused c.turn.ensures.refused_only_up;
      numbered = c.turn.ensures.numbered;
      exact = c.turn.ensures.exact;
    }
