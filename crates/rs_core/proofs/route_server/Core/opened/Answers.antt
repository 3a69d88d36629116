use Rattle.std.proofs.Common.{◌≢◌, ◌<◌, ℕ, ◌∷◌, length, refl, sym, ◌∙◌, ap, subst}
use Rattle.std.specs.Prelude.{slice_get}
use Rattle.std.specs.Global.{Vec}
use Rattle.std.proofs.lemmas.Option.{slice_get_read}
use Rattle.rs_session.specs.declared.session.Session.{Session}
use Rattle.rs_adjin.specs.AdjIns.{held_of, identifier_of}
use Rattle.rs_core.specs.Run.Moves.{Came, config_in}
use Rattle.rs_core.specs.Session.Hearing.{session_in, state_in, is_up, begins}
use Rattle.rs_core.specs.Run.Meaning.{hearing}
use Rattle.rs_core.specs.Run.Agreeing.{AgreesAt}
use Rattle.rs_core.specs.Core.{client_count, lent_octets}
use Rattle.rs_core.specs.declared.endings.Watched.{Watched}
use Rattle.rs_core.proofs.Run.Lists.{own, other, set_at}
use Rattle.rs_core.proofs.Run.Agreeing.{grown}
use Rattle.rs_core.proofs.Touched.Growing.{came_agrees}
use Rattle.rs_open.specs.Writing.{server_open}
use Rattle.rs_core.specs.Session.Conversations.{own_open}
use Rattle.rs_core.proofs.Run.Outgoing.{lent_is}
use Rattle.rs_core.proofs.Session.Conversed.{any_view}
use Rattle.rs_core.proofs.Run.Acting.{came, opens_from}
use Rattle.rs_core.proofs.Touched.Calls.{keeps_touched}
use Rattle.rs_core.proofs.route_server.Core.opened.Goals as goal

pub returns-in-Ok-clause-idle : goal.returns-in-Ok-clause-idle
unfolding client_count
returns-in-Ok-clause-idle c = λ run h.
    let sessions = c.args.self.now.sessions.items in
    let lt : c.args.c < length sessions = subst (λ k. c.args.c < k) (sym c.args.self.now.sessions_len) c.requires in
    let read = slice_get_read sessions (length sessions) c.args.c c.index_mut.result.now refl lt c.index_mut.ensures.value in
    let it = c.in-Ok.ensures.ok (session_in (config_in run) c.args.c) (hearing c.args.c run).items ((h.clients c.args.c c.requires).knows.session c.index_mut.result.now read) in
    (opens_from (session_in (config_in run) c.args.c) (hearing c.args.c run).items c.in-Ok.field-0 it.act_is it.tells).before

pub returns-in-Ok-clause-came : goal.returns-in-Ok-clause-came
unfolding client_count
returns-in-Ok-clause-came c = λ run h.
    let sessions = c.args.self.now.sessions.items in
    let lt : c.args.c < length sessions = subst (λ k. c.args.c < k) (sym c.args.self.now.sessions_len) c.requires in
    let read = slice_get_read _ _ _ _ (sym c.args.self.now.sessions_len) c.requires c.index_mut.ensures.value in
    let it = hearing c.args.c run in
    let set = ap (λ (v : Vec Session). v.items) c.greet.ensures.sessions in
    let others = λ (d : ℕ) (ne : d ≢ c.args.c). other c.args.c d (begins (hearing d run)) (hearing d run) ne in
    came_agrees c.args.c c.args.self.now c.greet.new.self run c.greet.ensures.count others (ap (λ k. is_up (state_in (config_in run) c.args.c k)) (own c.args.c (begins it) it))
    (keeps_touched c.args.c c.args.self.now c.greet.new.self run c.greet.ensures.count (ap is_up (returns-in-Ok-clause-idle c run h)) c.greet.ensures.apart) c.greet.ensures.answers h
    (grown c.args.self.now c.greet.new.self c.args.c run (Came c.args.c ∷ run) refl others h
    (record {
      count = c.greet.ensures.count;
      config = c.greet.ensures.config;
      sessions = λ d ne. ap (λ l. slice_get l d) set ∙ (set_at sessions c.args.c c.opened.new.self lt).others d ne;
      buffers = c.greet.ensures.others;
      held = λ d p ne. ap (λ ins. held_of ins d p) c.greet.ensures.tables;
      identifiers = λ d ne. ap (λ ins. identifier_of ins d) c.greet.ensures.tables;
      others_alone = c.greet.ensures.others_alone;
      watched = λ d ne. ap (λ (v : Vec Watched). slice_get v.items d) c.greet.ensures.watched;
      answers = c.greet.ensures.answers;
    })
    (subst (λ k. AgreesAt c.greet.new.self (config_in run) c.args.c k) (sym (own c.args.c (begins it) it))
    (came c.args.self.now c.greet.new.self c.in-Ok.field-0 c.index_mut.result.now c.opened.new.self (config_in run) c.args.c it read lt set c.greet.ensures.emptied c.greet.ensures.tables c.greet.ensures.config c.greet.ensures.own
    c.in-Ok.ensures.ok c.greet.ensures.watched (h.clients c.args.c c.requires))))

pub returns-in-Err-clause-busy : goal.returns-in-Err-clause-busy
unfolding client_count
returns-in-Err-clause-busy c = λ run h idle.
    let read = slice_get_read _ _ _ _ (sym c.args.self.now.sessions_len) c.requires c.index_mut.ensures.value in
    c.in-Err.ensures.busy_unless_idle (session_in (config_in run) c.args.c) (hearing c.args.c run).items ((h.clients c.args.c c.requires).knows.session c.index_mut.result.now read) idle

pub returns-in-Ok-clause-greets : goal.returns-in-Ok-clause-greets
unfolding client_count lent_octets
returns-in-Ok-clause-greets c = λ run h.
    let lt : c.args.c < c.greet.new.self.count = subst (λ n. c.args.c < n) (sym c.greet.ensures.count) c.requires in
    lent_is c.greet.new.self c.args.c any_view lt ∙ (c.greet.ensures.own any_view).flight ∙ ap (λ s. server_open (own_open s)) h.config

pub returns-in-Ok-clause-touched : goal.returns-in-Ok-clause-touched
unfolding client_count
returns-in-Ok-clause-touched c = λ run h. keeps_touched c.args.c c.args.self.now c.greet.new.self run c.greet.ensures.count (ap is_up (returns-in-Ok-clause-idle c run h)) c.greet.ensures.apart
