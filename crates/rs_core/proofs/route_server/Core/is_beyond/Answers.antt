use Rattle.std.proofs.Common.{◌∷◌, sym, ◌∙◌, ap}
use Rattle.std.specs.Prelude.{is_some}
use Rattle.rs_policy.specs.Configuration.{client_of}
use Rattle.rs_core.specs.Session.Hearing.{reset_beyond}
use Rattle.rs_core.proofs.Run.Holding.{up_table}
use Rattle.rs_core.proofs.Session.Limits.{count_is, reset_by_limit}
use Rattle.rs_core.proofs.route_server.Core.is_beyond.Goals as goal

pub returns-in-Some : goal.returns-in-Some
returns-in-Some c = λ s h change config up knows it.
    let n = count_is c.args.self.now.ribs.tables c.args.c c.count_after.result c.args.withdrawn.now c.args.announced.now change h.changes c.count_after.ensures
    (λ p. knows.table p ∙ up_table s c.args.c h up p) it in
    let limit = ap (λ k. (client_of k c.args.c).limit) (sym config) ∙ sym c.in-Some.ensures in
    sym (ap (λ l. is_some (reset_beyond l (change ∷ h.changes))) limit ∙ reset_by_limit c.in-Some.limit c.count_after.result (change ∷ h.changes) n)
