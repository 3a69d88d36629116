use Rattle.std.proofs.Common.{◌∙◌, [], ap, sym, arith}
use Rattle.std.specs.Prelude.{slice_get}
use Rattle.rs_attrs.specs.declared.mode.Mode.{Mode}
use Rattle.rs_core.proofs.Run.Lists.{got_push}
use Rattle.rs_replay.specs.Taking.{HasTaken}
use Rattle.rs_replay.proofs.sent.connections_of.Goals as goal

pub loop-c-preserved : goal.loop-c-preserved
loop-c-preserved c = record {
  count = omega (arith, c.in_ok-push.ensures.len, c.loop-c.invariant.count);
  none_taken = λ d connection at.
      got_push (λ d x. (mode : Mode) → HasTaken mode [] x) c.loop-c.connections.items c.new.result c.loop-c.invariant.none_taken c.new.ensures d connection
      (ap (λ xs. slice_get xs d) (sym c.in_ok-push.ensures.items) ∙ at);
}

pub returns-clause-none_taken : goal.returns-clause-none_taken
returns-clause-none_taken c = λ run agrees d connection mode at moded. c.loop-c.invariant.none_taken d connection at mode
