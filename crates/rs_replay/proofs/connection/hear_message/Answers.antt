use Rattle.rs_compare.specs.Heard.{table_in}
use Rattle.rs_replay.proofs.Sending.{hears_boundary, hears_other, hears_update}
use Rattle.rs_replay.proofs.connection.hear_message.Goals as goal

pub returns-in-Update : goal.returns-in-Update
returns-in-Update c =
    hears_update c.args.mode c.args.kind c.args.body.now (table_in c.args.sent.now) (table_in c.hear.new.self) c.hear.result c.in-Update.is c.hear.ensures.table c.hear.ensures.reset

pub returns-in-Open : goal.returns-in-Open
returns-in-Open c = λ before message is same means. hears_boundary c.args.mode before message c.args.kind (table_in c.new.result) is c.in-Open.is (c.new.ensures c.args.mode)

pub returns-in-Keepalive : goal.returns-in-Keepalive
returns-in-Keepalive c = λ before message is same means. hears_other c.args.mode before message c.args.kind (table_in c.args.sent.now) is c.in-Keepalive.is means
