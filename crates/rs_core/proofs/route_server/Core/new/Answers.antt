use Rattle.std.proofs.Common.{sym, ◌∙◌, ap}
use Rattle.std.specs.Prelude.{slice_get}
use Rattle.rs_core.proofs.Touched.Growing.{start_agrees}
use Rattle.rs_core.proofs.Run.OtherRules.{begun}
use Rattle.rs_core.proofs.Session.OperatorRecords.{none_watched}
use Rattle.rs_core.proofs.route_server.Core.new.Goals as goal

pub returns-clause-agrees : goal.returns-clause-agrees
returns-clause-agrees c = start_agrees _ c.args.config c.in_ok-ribs.ensures.outlets (begun _ c.args.config c.in_ok-ribs.ensures.config c.in_ok-sessions.ensures.heard c.in_ok-ribs.ensures.held c.in_ok-ribs.ensures.identifiers c.in_ok-ribs.ensures.outlets
    (λ d x e. none_watched _ d x (ap (λ l. slice_get l d) (sym (c.in_ok-watched.ensures.items_if_clones_equal (λ y is. is))) ∙ e)))
