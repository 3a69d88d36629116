use Rattle.std.proofs.Common.{◌<◌, ◌∙◌, subst}
use Rattle.std.specs.Prelude.{All}
use Rattle.rs_core.specs.Core.{client_count}
use Rattle.rs_core.proofs.Run.Asking.{candidates_agree}
use Rattle.rs_core.proofs.route_server.Core.candidates_at.Goals as goal

pub returns : goal.returns
unfolding client_count
returns c = record {
  candidates = λ run h. c.candidates.ensures.value ∙ candidates_agree c.args.self.now run c.args.prefix h;
  known = subst (λ n. All (λ s. s.client < n) c.candidates.result) (c.args.self.now.ribs.tables_len ∙ c.args.self.now.ribs_len) c.candidates.ensures.known;
}
