use Rattle.std.proofs.Common.{◌<◌, length, ◌∙◌, subst, arith}
use Rattle.std.specs.Prelude.{◌↔◌, IsTrue}
use Rattle.rs_outlet.specs.Pending.Left.{HasNothingLeft}
use Rattle.rs_outlet.specs.Views.{IsDrained}
use Rattle.rs_core.specs.Core.{client_count}
use Rattle.rs_core.proofs.Told.Serving.{drained_is_served}
use Rattle.rs_core.proofs.Told.Answered.{drained_is_answered}
use Rattle.rs_core.proofs.Owed.Drained.{drained_exactly}
use Rattle.rs_core.proofs.Owed.Sending.{nobody}
use Rattle.rs_core.proofs.Run.Loops.{default_same}
use Rattle.rs_core.proofs.route_server.Core.is_drained.Goals as goal

pub returns : goal.returns
unfolding client_count
returns c = record {
  served = λ drained run h. drained_is_served c.args.self.now run c.args.c c.index-outlet.result.now c.requires (subst IsDrained c.index-outlet.ensures (c.is_drained.ensures.drained drained)) h;
  answered = λ drained run h. drained_is_answered c.args.self.now run c.args.c c.index-outlet.result.now c.requires (subst IsDrained c.index-outlet.ensures (c.is_drained.ensures.drained drained)) h;
  exact = λ run h.
      let outlets = c.args.self.now.ribs.outlets.items in
      let there : c.args.c < length outlets = omega (arith, c.requires, c.args.self.now.ribs_len, c.args.self.now.ribs.outlets_len) in
      let at = c.index-outlet.ensures ∙ default_same outlets c.args.c c.index-outlet.result.now nobody there in
      drained_exactly c.args.self.now run c.args.c c.is_drained.result c.requires (subst (λ v. IsTrue c.is_drained.result ↔ HasNothingLeft v) at c.is_drained.ensures.left) h;
}
