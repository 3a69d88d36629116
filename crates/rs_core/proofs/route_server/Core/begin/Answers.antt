use Rattle.std.proofs.Common.{refl}
use Rattle.rs_outlet.specs.Message.Begun.{HasBegun}
use Rattle.rs_core.specs.Core.{client_count}
use Rattle.rs_core.proofs.Touched.Growing.{began_agrees}
use Rattle.rs_core.proofs.Touched.KeptAnswers.{own_answers}
use Rattle.rs_core.proofs.Run.Outgoing.{begun_agrees, begun_last}
use Rattle.rs_core.proofs.Owed.Sending.{begun_owes_no_more}
use Rattle.rs_core.proofs.route_server.Core.begin.Goals as goal

pub returns-clause-owes : goal.returns-clause-owes
unfolding client_count
returns-clause-owes c = begun_owes_no_more c.args.c c.args.self.now _ c.requires
    (record { count = refl; sessions = refl; buffers = refl; watched = refl; settings = c.begin.ensures.settings; tables = c.begin.ensures.tables; outlet = c.begin.ensures.outlet })

pub returns-clause-began : goal.returns-clause-began
unfolding client_count
returns-clause-began c = λ run h. began_agrees c.args.c c.args.self.now _ run refl (returns-clause-owes c).spares.touched
    (own_answers c.args.c HasBegun c.args.self.now.ribs c.begin.new.self c.begin.ensures.outlet begun_last) h
    (begun_agrees c.args.c c.args.self.now _ run c.requires
    (record { count = refl; sessions = refl; buffers = refl; watched = refl; settings = c.begin.ensures.settings; tables = c.begin.ensures.tables; outlet = c.begin.ensures.outlet }) h)
