use Rattle.std.proofs.Common.{◌≢◌, ℕ, ◌∷◌, refl, sym, ◌∙◌, subst}
use Rattle.rs_core.specs.Run.Moves.{Commanded, config_in}
use Rattle.rs_core.specs.Session.Hearing.{commanded}
use Rattle.rs_core.specs.Run.Meaning.{hearing}
use Rattle.rs_core.specs.Run.Agreeing.{AgreesAt}
use Rattle.rs_core.specs.Core.{client_count}
use Rattle.rs_core.proofs.Run.Lists.{own, other}
use Rattle.rs_core.proofs.Run.Agreeing.{grown, on_clients}
use Rattle.rs_core.proofs.Session.Unheard.{over_agrees, over_touches}
use Rattle.rs_core.proofs.Touched.Growing.{commanded_agrees}
use Rattle.rs_core.proofs.Touched.Calls.{touches_changes, touches_itself}
use Rattle.rs_core.proofs.route_server.Core.command.Goals as goal

pub returns-then-is_live-clause-commanded : goal.returns-then-is_live-clause-commanded
unfolding client_count
returns-then-is_live-clause-commanded c = λ run h.
    let it = hearing c.args.c run in
    let s = config_in run in
    let old = c.args.self.now in
    let new = c.obey.new.self in
    let at = h.clients c.args.c c.requires in
    let others = λ (d : ℕ) (ne : d ≢ c.args.c). other c.args.c d (commanded s d c.args.command (hearing d run)) (hearing d run) ne in
    let on = grown old new c.args.c run (Commanded c.args.c c.args.command ∷ run) refl others h c.obey.ensures.spares
    (subst (λ k. AgreesAt new s c.args.c k) (sym (own c.args.c (commanded s c.args.c c.args.command it) it)) (c.obey.ensures.obeyed s it at)) in
    commanded_agrees c.args.c c.args.command old new run c.obey.ensures.spares.count others
    (touches_changes c.args.c (Commanded c.args.c c.args.command) old new run c.requires (on_clients old run h) on c.obey.ensures.spares.count c.obey.ensures.others_touched)
    (touches_itself (Commanded c.args.c c.args.command) c.args.c old new run c.requires (on_clients old run h) on c.obey.ensures.spares.count (c.obey.ensures.keeps s it h.config at.knows)) c.obey.ensures.spares.answers h on

pub returns-then-is_live-clause-touched : goal.returns-then-is_live-clause-touched
unfolding client_count
returns-then-is_live-clause-touched c = λ run h. touches_changes c.args.c (Commanded c.args.c c.args.command) c.args.self.now c.obey.new.self run c.requires (on_clients c.args.self.now run h)
    (on_clients c.obey.new.self (Commanded c.args.c c.args.command ∷ run) (returns-then-is_live-clause-commanded c run h)) c.obey.ensures.spares.count c.obey.ensures.others_touched

pub returns-then-is_live-clause-itself : goal.returns-then-is_live-clause-itself
unfolding client_count
returns-then-is_live-clause-itself c = λ run h. touches_itself (Commanded c.args.c c.args.command) c.args.c c.args.self.now c.obey.new.self run c.requires (on_clients c.args.self.now run h)
    (on_clients c.obey.new.self (Commanded c.args.c c.args.command ∷ run) (returns-then-is_live-clause-commanded c run h)) c.obey.ensures.spares.count
    (c.obey.ensures.keeps (config_in run) (hearing c.args.c run) h.config (h.clients c.args.c c.requires).knows)

pub returns-else-is_live-clause-commanded : goal.returns-else-is_live-clause-commanded
unfolding client_count
returns-else-is_live-clause-commanded c = λ run h.
    over_agrees c.args.self.now run c.args.c c.args.command c.requires (sym (c.is_live.ensures (config_in run) (hearing c.args.c run) (h.clients c.args.c c.requires).knows) ∙ c.if-is_live.false) h

pub returns-else-is_live-clause-touched : goal.returns-else-is_live-clause-touched
unfolding client_count
returns-else-is_live-clause-touched c = λ run h.
    over_touches c.args.self.now run c.args.c c.args.command c.requires (sym (c.is_live.ensures (config_in run) (hearing c.args.c run) (h.clients c.args.c c.requires).knows) ∙ c.if-is_live.false) h
