use Rattle.std.proofs.Common.{refl, take, ap}
use Rattle.rs_core.specs.Core.{client_count, lent_octets}
use Rattle.rs_core.specs.Ribs.{lent_by}
use Rattle.rs_core.proofs.Touched.Growing.{taken_agrees}
use Rattle.rs_core.proofs.Touched.KeptAnswers.{own_answers}
use Rattle.rs_core.proofs.Run.Outgoing.{IsTakenFrom, lent_is, taken_last, took_agrees}
use Rattle.rs_core.proofs.Owed.Sending.{took_owes_less}
use Rattle.rs_core.proofs.route_server.Core.took.Goals as goal

pub returns-clause-owes : goal.returns-clause-owes
unfolding client_count
returns-clause-owes c = took_owes_less c.args.c c.args.n c.args.self.now _ c.requires.client c.requires.lent
    (record { count = refl; sessions = refl; buffers = refl; watched = refl; settings = c.took.ensures.settings; tables = c.took.ensures.tables; outlet = c.took.ensures.outlet })

pub returns-clause-took : goal.returns-clause-took
unfolding client_count lent_octets
returns-clause-took c = λ run h. taken_agrees c.args.c (take c.args.n (lent_by c.args.self.now.ribs c.args.c)) c.args.self.now _ run refl (returns-clause-owes c).spares.touched
    (own_answers c.args.c (IsTakenFrom c.args.n) c.args.self.now.ribs c.took.new.self c.took.ensures.outlet (taken_last c.args.n)) h
    (took_agrees c.args.c c.args.n c.args.self.now _ run (take c.args.n (lent_by c.args.self.now.ribs c.args.c)) c.requires.client
    (λ none. ap (take c.args.n) (lent_is c.args.self.now c.args.c none c.requires.client))
    (record { count = refl; sessions = refl; buffers = refl; watched = refl; settings = c.took.ensures.settings; tables = c.took.ensures.tables; outlet = c.took.ensures.outlet }) h)
