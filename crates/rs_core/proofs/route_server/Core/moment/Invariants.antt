use Rattle.std.proofs.Common.{◌≡◌, List}
use Rattle.rs_core.specs.Core.{client_count}
use Rattle.rs_core.specs.Run.Moves.{Move}
use Rattle.rs_core.specs.Run.Agreeing.{Agrees}
use Rattle.rs_core.specs.Ribs.{KeepsAnswers}
use Rattle.rs_core.proofs.Run.Agreeing.{HaveSeen}
use Rattle.rs_core.proofs.Touched.Moments.{HaveTouched}
use Rattle.rs_core.proofs.route_server.Core.moment.Given as goal

abbrev pub invariant-loop-c : goal.invariant-loop-c
invariant-loop-c l = record {
  count : client_count l.self ≡ client_count l.fn.self;
  seen : (run : List Move) → Agrees l.fn.self run → HaveSeen l.t l.c l.self run;
  touched : (run : List Move) → Agrees l.fn.self run → HaveTouched l.t l.c run l.fn.self l.self;
  answers : KeepsAnswers l.fn.self.ribs l.self.ribs;
}
