use Rattle.std.proofs.Common.{sym, ◌∙◌, ap}
use Rattle.rs_core.specs.Core.{is_refusal, refusal_in, is_refused, last_in, last_of}
use Rattle.rs_core.proofs.Told.InTurn.{outlet_read}
use Rattle.rs_core.proofs.route_server.Core.last.Goals as goal

pub returns : goal.returns
unfolding is_refused last_of
returns c =
    let read = (outlet_read c.args.self.now c.args.c c.index-outlet.result.now c.requires c.index-outlet.ensures).read in
    record { last = c.last.ensures ∙ sym (ap last_in read); refused = ap is_refusal c.last.ensures ∙ sym (ap refusal_in read) }
