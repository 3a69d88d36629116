use Rattle.std.proofs.Common.{ap}
use Rattle.std.specs.Global.{Vec}
use Rattle.rs_session.specs.declared.session.Session.{Session}
use Rattle.rs_session.specs.Items.{Moment}
use Rattle.rs_core.specs.Core.{client_count}
use Rattle.rs_core.specs.Session.OperatorRecords.{expiry_by}
use Rattle.rs_core.specs.declared.endings.Watched.{Watched}
use Rattle.rs_core.proofs.Run.Acting.{acted_spares, has_acted, seen}
use Rattle.rs_core.proofs.Touched.OwnSession.{item_keeps}
use Rattle.rs_core.proofs.route_server.Core.see.Goals as goal

pub returns : goal.returns
unfolding client_count
returns c =
    let old = c.args.self.now in
    let new = c.act.new.self in
    let done = has_acted old new c.args.c (Moment c.args.t) c.moment-act.result c.index_mut.result.now c.moment-act.new.self c.index_mut-2.result.now c.end.new.self c.expiry_by.result (expiry_by c.moment-act.result) c.requires
    c.index_mut.ensures.value c.index_mut-2.ensures.value c.moment-act.ensures.hears c.expiry_by.ensures c.end.ensures
    (ap (λ (v : Vec Session). v.items) c.act.ensures.sessions) (ap (λ (v : Vec Watched). v.items) c.act.ensures.watched) c.act.ensures.buffers c.act.ensures.config c.act.ensures.tables c.act.ensures.own in
    record {
      spares = acted_spares old new c.args.c c.moment-act.new.self c.act.ensures.count c.act.ensures.config done.here done.sessions done.buffers c.act.ensures.others c.act.ensures.others_alone done.notes.others c.act.ensures.answers;
      seen = λ s h at. seen old new _ _ _ s c.args.c c.args.t h done at;
      others_touched = c.act.ensures.others_touched;
      keeps = item_keeps _ _ _ _ _ _ _ _ done;
    }
