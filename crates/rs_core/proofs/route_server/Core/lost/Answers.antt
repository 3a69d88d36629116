use Rattle.std.proofs.Common.{◌≡◌, ◌≢◌, ◌<◌, ℕ, List, ◌∷◌, length, refl, sym, ◌∙◌, ap, subst}
use Rattle.std.proofs.lemmas.Bool.{false≢true}
use Rattle.std.proofs.lemmas.Option.{slice_get_read}
use Rattle.rs_session.specs.declared.act.State.TheVariants as states
use Rattle.rs_core.specs.Run.Moves.{Move, Left, config_in}
use Rattle.rs_core.specs.Session.Hearing.{is_up, state_in, leaves}
use Rattle.rs_core.specs.Run.Meaning.{hearing}
use Rattle.rs_core.specs.Session.OperatorRecords.{ended_if}
use Rattle.rs_core.specs.Run.Agreeing.{Agrees, AgreesAt}
use Rattle.rs_core.specs.Core.{client_count}
use Rattle.rs_core.specs.declared.endings.Ending.TheVariants as reasons
use Rattle.rs_core.proofs.Run.Lists.{own, other}
use Rattle.rs_core.proofs.Run.Agreeing.{grown, on_clients}
use Rattle.rs_core.proofs.Touched.Growing.{left_agrees}
use Rattle.rs_core.proofs.Owed.Sending.{others_owed}
use Rattle.rs_core.proofs.Run.Spared.{noted_spares}
use Rattle.rs_core.proofs.Session.OperatorRecords.{noted_by}
use Rattle.rs_core.proofs.Touched.Calls.{touches_changes}
use Rattle.rs_core.proofs.Run.Idling.{idle_left, idle_touches}
use Rattle.rs_core.proofs.route_server.Core.lost.Goals as goal
use Rattle.rs_core.proofs.route_server.Core.lost.Goals.{in-Idle, in_default}

pub returns-clause-left : goal.returns-clause-left
unfolding client_count
returns-clause-left c = λ run h.
    let it = hearing c.args.c run in
    let at = h.clients c.args.c c.requires in
    let kept = c.args.self.now.watched.items in
    let there : c.args.c < length kept = subst (λ k. c.args.c < k) (sym c.args.self.now.watched_len) c.requires in
    let was = slice_get_read _ _ _ _ (sym c.args.self.now.watched_len) c.requires c.index_mut.ensures.value in
    let why = c.ended_if.ensures ∙ ap (λ b. ended_if b reasons.Lost) (c.is_live-lasts.ensures (config_in run) it at.knows) in
    let notes = noted_by kept _ c.args.c c.index_mut.result.now c.end.new.self c.ended_if.result _ was there refl why c.end.ensures in
    let others = λ (d : ℕ) (ne : d ≢ c.args.c). other c.args.c d (leaves (config_in run) d reasons.Lost (hearing d run)) (hearing d run) ne in
    let on = grown c.args.self.now c.forget.new.self c.args.c run (Left c.args.c ∷ run) refl others h
    (noted_spares c.args.c _ c.args.self.now _ c.forget.new.self refl refl refl refl notes c.forget.ensures.spares)
    (subst (λ k. AgreesAt c.forget.new.self (config_in run) c.args.c k) (sym (own c.args.c (leaves (config_in run) c.args.c reasons.Lost it) it))
    (c.forget.ensures.forgotten (config_in run) it reasons.Lost (record { items = it.items; moment = refl; session = at.knows.session }) (notes.own it.endings it.faults at.knows.watched))) in
    left_agrees c.args.c c.args.self.now c.forget.new.self run c.forget.ensures.spares.count others (ap (λ k. is_up (state_in (config_in run) c.args.c k)) (own c.args.c (leaves (config_in run) c.args.c reasons.Lost it) it))
    (touches_changes c.args.c (Left c.args.c) c.args.self.now c.forget.new.self run c.requires (on_clients c.args.self.now run h) on c.forget.ensures.spares.count c.forget.ensures.others_touched) c.forget.ensures.spares.answers h on

pub returns-clause-touched : goal.returns-clause-touched
unfolding client_count
returns-clause-touched c = λ run h. touches_changes c.args.c (Left c.args.c) c.args.self.now c.forget.new.self run c.requires (on_clients c.args.self.now run h) (on_clients c.forget.new.self (Left c.args.c ∷ run) (returns-clause-left c run h)) c.forget.ensures.spares.count c.forget.ensures.others_touched

pub returns-clause-owes : goal.returns-clause-owes
returns-clause-owes c = others_owed c.args.c c.args.self.now c.forget.new.self c.forget.ensures.spares.count c.forget.ensures.spares.others_alone

was_idle : (c : goal.Then-matches) (run : List Move) → Agrees c.args.self.now run → state_in (config_in run) c.args.c (hearing c.args.c run) ≡ states.Idle
unfolding client_count
was_idle c run h = sym (c.state.ensures (config_in run) (hearing c.args.c run) (h.clients c.args.c c.requires).knows) ∙ is where
  is : c.state.result ≡ states.Idle
  is = elim c.match-matches.branch [ in-Idle w ↦ w.in-Idle.is | in_default w ↦ absurd (false≢true (sym w.matches-is ∙ c.if-matches.true)) ]

pub returns-then-matches-clause-left : goal.returns-then-matches-clause-left
returns-then-matches-clause-left c = λ run h. idle_left c.args.self.now run c.args.c c.requires (was_idle c run h) h

pub returns-then-matches-clause-touched : goal.returns-then-matches-clause-touched
returns-then-matches-clause-touched c = λ run h. idle_touches c.args.self.now run c.args.c (was_idle c run h)

pub returns-then-matches-clause-owes : goal.returns-then-matches-clause-owes
returns-then-matches-clause-owes c = record { others = λ d lt ne. refl }
