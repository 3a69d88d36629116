use Rattle.std.proofs.Common.{◌∙◌, ap}
use Rattle.std.specs.Prelude.{None, if◌then◌else◌}
use Rattle.rs_adjin.specs.Onward.{is_from}
use Rattle.rs_core.specs.Core.{client_count}
use Rattle.rs_core.proofs.route_server.Core.received_from.Goals as goal

pub returns : goal.returns
unfolding client_count
returns c = record {
  rising = c.routes_from.ensures.rising;
  routes = λ run h p. c.routes_from.ensures.routes p ∙ ap (λ o. if is_from c.args.from p then o else None) ((h.clients c.args.c c.requires).knows.table p);
}
