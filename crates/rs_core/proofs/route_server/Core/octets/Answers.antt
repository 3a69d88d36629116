use Rattle.std.proofs.Common.{◌≡◌, ◌≢◌, ◌<◌, ℕ, Bool, true, false, ◌∷◌, length, refl, sym, ◌∙◌, ap, subst}
use Rattle.std.specs.List.{cons_option}
use Rattle.std.proofs.lemmas.Option.{slice_get_read}
use Rattle.rs_session.specs.Sessions.{is_live}
use Rattle.rs_core.specs.Run.Moves.{Heard, Dropped, config_in}
use Rattle.rs_core.specs.Session.Hearing.{is_up, state_in, hears, leaves}
use Rattle.rs_core.specs.Run.Meaning.{hearing}
use Rattle.rs_core.specs.Run.Agreeing.{AgreesAt}
use Rattle.rs_core.specs.Core.{client_count}
use Rattle.rs_core.specs.Session.OperatorRecords.{ended_if, watched_by}
use Rattle.rs_core.specs.declared.endings.Ending.TheVariants as reasons
use Rattle.rs_core.proofs.Run.Lists.{own, other, set_at}
use Rattle.rs_core.proofs.Session.Cutting.{cut_unmoved}
use Rattle.rs_core.proofs.Run.Spared.{put_spares}
use Rattle.rs_core.proofs.Run.Agreeing.{grown, on_clients, spares_both}
use Rattle.rs_core.proofs.Touched.Growing.{dropped_agrees, heard_agrees}
use Rattle.rs_core.proofs.Touched.Calls.{touches_dropped, touches_itself, touches_others}
use Rattle.rs_core.proofs.route_server.Core.octets.Goals as goal

live_by : (b : Bool) → (b ≡ false → b ≡ true) → b ≡ true
live_by true not = refl
live_by false not = not refl

pub returns-in-Ok-clause-heard : goal.returns-in-Ok-clause-heard
unfolding client_count
returns-in-Ok-clause-heard c = λ run h.
    let it = hearing c.args.c run in
    let piece = c.args.piece.now in
    let old = c.args.self.now in
    let at = h.clients c.args.c c.requires in
    let others = λ (d : ℕ) (ne : d ≢ c.args.c). other c.args.c d (hears (config_in run) d piece (hearing d run)) (hearing d run) ne in
    let on = grown old c.hear.new.self c.args.c run (Heard c.args.c piece ∷ run) refl others h c.hear.ensures.spares
    (subst (λ k. AgreesAt c.hear.new.self (config_in run) c.args.c k) (sym (own c.args.c (hears (config_in run) c.args.c piece it) it)) (c.in-Ok.ensures.heard (config_in run) it h.config at)) in
    heard_agrees c.args.c piece old c.hear.new.self run c.hear.ensures.spares.count others
    (touches_others _ c.args.c old c.hear.new.self run (on_clients old run h) c.hear.ensures.spares.count (c.in-Ok.ensures.others_touched (config_in run) it h.config at))
    (touches_itself (Heard c.args.c piece) c.args.c old c.hear.new.self run c.requires (on_clients old run h) on c.hear.ensures.spares.count (c.in-Ok.ensures.keeps (config_in run) it h.config at)) c.hear.ensures.spares.answers h on

pub returns-in-Err-clause-refused : goal.returns-in-Err-clause-refused
unfolding client_count
returns-in-Err-clause-refused c = λ run h.
    let it = hearing c.args.c run in
    let at = h.clients c.args.c c.requires in
    let kept = c.hear.new.self.watched.items in
    let within : c.args.c < c.hear.new.self.count = subst (λ k. c.args.c < k) (sym c.hear.ensures.spares.count) c.requires in
    let there : c.args.c < length kept = subst (λ k. c.args.c < k) (sym c.hear.new.self.watched_len) within in
    let was = slice_get_read _ _ _ _ (sym c.args.self.now.watched_len) c.requires c.index.ensures in
    let lasted = live_by (is_live (state_in (config_in run) c.args.c it)) (λ dead. absurd (let e = c.in-Err.ensures.unheard (config_in run) it at.knows dead in cc)) in
    let ended = c.end.ensures it.endings it.faults (at.knows.watched c.index.result.now was) in
    let others = λ (d : ℕ) (ne : d ≢ c.args.c). other c.args.c d (leaves (config_in run) d reasons.Memory (hearing d run)) (hearing d run) ne in
    let spared = spares_both c.args.c c.args.self.now _ c.forget.new.self (put_spares c.args.c c.args.self.now c.hear.new.self _ c.end.new.self there refl refl refl refl refl c.hear.ensures.spares) c.forget.ensures.spares in
    let on = grown c.args.self.now c.forget.new.self c.args.c run (Dropped c.args.c c.args.piece.now ∷ run) refl others h spared
    (subst (λ k. AgreesAt c.forget.new.self (config_in run) c.args.c k) (sym (own c.args.c (leaves (config_in run) c.args.c reasons.Memory it) it))
    (c.forget.ensures.forgotten (config_in run) it reasons.Memory (cut_unmoved c.hear.new.self _ (config_in run) c.args.c it refl (c.in-Err.ensures.refused (config_in run) it h.config at))
    (λ x e. (set_at kept c.args.c c.end.new.self there).own x e ∙ ended ∙ ap (λ b. watched_by (cons_option (ended_if b reasons.Memory) it.endings) it.faults) (sym lasted)))) in
    dropped_agrees c.args.c c.args.piece.now c.args.self.now c.forget.new.self run (c.forget.ensures.spares.count ∙ c.hear.ensures.spares.count) others
    (ap (λ k. is_up (state_in (config_in run) c.args.c k)) (own c.args.c (leaves (config_in run) c.args.c reasons.Memory it) it))
    (touches_dropped c.args.c c.args.piece.now c.args.self.now c.hear.new.self c.forget.new.self run c.requires (on_clients c.args.self.now run h) on c.hear.ensures.spares.count c.forget.ensures.spares.count
    (c.in-Err.ensures.cut (config_in run) it h.config at) c.forget.ensures.others_touched) spared.answers h on

pub returns-in-Ok-clause-unheard : goal.returns-in-Ok-clause-unheard
unfolding client_count
returns-in-Ok-clause-unheard c = λ run h dead. (refl, (c.in-Ok.ensures.unheard (config_in run) (hearing c.args.c run) (h.clients c.args.c c.requires).knows dead).1)

pub returns-in-Err-clause-unheard : goal.returns-in-Err-clause-unheard
unfolding client_count
returns-in-Err-clause-unheard c = λ run h dead. let it = c.in-Err.ensures.unheard (config_in run) (hearing c.args.c run) (h.clients c.args.c c.requires).knows dead in absurd (cc)

pub returns-in-Ok-clause-touched : goal.returns-in-Ok-clause-touched
unfolding client_count
returns-in-Ok-clause-touched c = λ run h. touches_others _ c.args.c c.args.self.now c.hear.new.self run (on_clients c.args.self.now run h) c.hear.ensures.spares.count
    (c.in-Ok.ensures.others_touched (config_in run) (hearing c.args.c run) h.config (h.clients c.args.c c.requires))

pub returns-in-Ok-clause-itself : goal.returns-in-Ok-clause-itself
unfolding client_count
returns-in-Ok-clause-itself c = λ run h. touches_itself (Heard c.args.c c.args.piece.now) c.args.c c.args.self.now c.hear.new.self run c.requires (on_clients c.args.self.now run h)
    (on_clients c.hear.new.self (Heard c.args.c c.args.piece.now ∷ run) (returns-in-Ok-clause-heard c run h)) c.hear.ensures.spares.count
    (c.in-Ok.ensures.keeps (config_in run) (hearing c.args.c run) h.config (h.clients c.args.c c.requires))

pub returns-in-Err-clause-dropped : goal.returns-in-Err-clause-dropped
unfolding client_count
returns-in-Err-clause-dropped c = λ run h. touches_dropped c.args.c c.args.piece.now c.args.self.now c.hear.new.self c.forget.new.self run c.requires (on_clients c.args.self.now run h)
    (on_clients c.forget.new.self (Dropped c.args.c c.args.piece.now ∷ run) (returns-in-Err-clause-refused c run h)) c.hear.ensures.spares.count c.forget.ensures.spares.count
    (c.in-Err.ensures.cut (config_in run) (hearing c.args.c run) h.config (h.clients c.args.c c.requires)) c.forget.ensures.others_touched
