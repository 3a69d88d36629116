use Rattle.std.proofs.Common.{ap}
use Rattle.std.specs.Global.{Vec}
use Rattle.rs_session.specs.declared.session.Session.{Session}
use Rattle.rs_session.specs.Items.{Message}
use Rattle.rs_core.specs.Session.Hearing.{session_in}
use Rattle.rs_core.specs.Core.{client_count}
use Rattle.rs_core.specs.Session.OperatorRecords.{ending_by}
use Rattle.rs_core.specs.declared.endings.Watched.{Watched}
use Rattle.rs_core.proofs.Run.Acting.{acted, acted_spares, asked_by_message, has_acted}
use Rattle.rs_core.proofs.Told.BySession.{never_open_by_message}
use Rattle.rs_core.proofs.Touched.OwnSession.{item_keeps}
use Rattle.rs_core.proofs.route_server.Core.session_hears_with.Goals as goal

pub returns : goal.returns
unfolding client_count
returns c =
    let old = c.args.self.now in
    let new = c.act.new.self in
    let done = has_acted old new c.args.c (Message c.args.heard) c.message-act.result c.index_mut.result.now c.message-act.new.self c.index_mut-2.result.now c.end.new.self c.ending_by.result (ending_by c.args.body.now c.message-act.result) c.requires
    c.index_mut.ensures.value c.index_mut-2.ensures.value c.message-act.ensures.hears c.ending_by.ensures c.end.ensures
    (ap (λ (v : Vec Session). v.items) c.act.ensures.sessions) (ap (λ (v : Vec Watched). v.items) c.act.ensures.watched) c.act.ensures.buffers c.act.ensures.config c.act.ensures.tables c.act.ensures.own in
    record {
      spares = acted_spares old new c.args.c c.message-act.new.self c.act.ensures.count c.act.ensures.config done.here done.sessions done.buffers c.act.ensures.others c.act.ensures.others_alone done.notes.others c.act.ensures.answers;
      buffers = c.act.ensures.buffers;
      heard = λ s h next follows knows. acted old new _ (Message c.args.heard) _ _ s c.args.c h next (ending_by c.args.body.now) tt done (never_open_by_message (session_in s c.args.c) c.args.heard h.items)
          follows.items follows.keepalives follows.taken (asked_by_message s c.args.c c.args.heard h next follows.points) (λ down up. follows.fresh down) follows.same follows.endings follows.faults knows;
      others_touched = c.act.ensures.others_touched;
      keeps = item_keeps _ _ _ _ _ _ _ _ done;
    }
