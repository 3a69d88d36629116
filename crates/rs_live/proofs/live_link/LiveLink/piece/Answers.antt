use Rattle.std.proofs.Common.{◌≢◌, [], take, refl, sym, subst, ap, ◌∙◌}
use Rattle.rs_core.specs.declared.links.Event.TheVariants.{Octets, Lost}
use Rattle.rs_core.specs.Drives.Steps.{Happened}
use Rattle.rs_live.specs.declared.live_link.Phase.{Phase}
use Rattle.rs_live.specs.declared.live_link.Stage.{Stage}
use Rattle.rs_live.specs.declared.live_link.Stage.TheVariants as stages
use Rattle.rs_live.specs.Handled.{Has, AreKept}
use Rattle.rs_live.specs.Keeping.{at, held_of, passed}
use Rattle.rs_live.proofs.Handling.Calls.{follows, follows_at, kept_at, keeps_at}
use Rattle.rs_live.proofs.Handling.Connections.{fails, hears, is_last, passes_by, reads_last, reads_none}
use Rattle.rs_live.proofs.live_link.LiveLink.piece.Goals as goal

pub returns-in_default-clause-answers : goal.returns-in_default-clause-answers
returns-in_default-clause-answers g c p r =
    let phase = c.args.self.now.phase in
    let to = passed c.args.self.now.reading phase in
    let before = kept_at g.P.Ports.asked c.args.self.now _ (at stages.Read phase) _ (sym c.pass_on.ensures.held) (ap (λ (s : Stage). at s phase) p) (sym c.pass_on.ensures.unasked) r.1 in
    (c.pass_on.ensures.failed ∙ r.0, keeps_at g.P.Ports.asked c.pass_on.new.self _ (at stages.Read to) _ refl (c.pass_on.ensures.phase ∙ ap (λ (s : Stage). at s to) p) refl (passes_by g.P.Ports.asked _ phase c.args.self.now.reading _ (sym c.live_key.ensures ∙ c.in_default.is) before))

pub returns-in-Ok-None-clause-answers : goal.returns-in-Ok-None-clause-answers
returns-in-Ok-None-clause-answers g c p r =
    let phase = c.args.self.now.phase in
    let to = passed c.args.self.now.reading phase in
    let before = kept_at g.P.Ports.asked c.args.self.now _ (at stages.Read phase) _ (sym c.pass_on.ensures.held) (ap (λ (s : Stage). at s phase) p) (sym c.pass_on.ensures.unasked) r.1 in
    (c.pass_on.ensures.failed ∙ r.0, subst (λ (w : Phase). Has g.P.Ports.asked c.read.new.self (AreKept (held_of c.pass_on.new.self.connections.now.items) w)) (sym (c.pass_on.ensures.phase ∙ ap (λ (s : Stage). at s to) p)) (reads_none g.P.Ports.asked _ phase c.args.self.now.reading _ _ _ _ _ (sym c.in-Some.ensures) c.in-Ok-None.field-0-is c.in-Ok-None.ensures.asked before))

pub returns-then-count-eq0-clause-answers : goal.returns-then-count-eq0-clause-answers
returns-then-count-eq0-clause-answers g c p r text =
    let phase = c.args.self.now.phase in
    let to = passed c.args.self.now.reading phase in
    let before = kept_at g.P.Ports.asked c.args.self.now _ (at stages.Read phase) _ (sym c.pass_on.ensures.held) (ap (λ (s : Stage). at s phase) p) (sym c.pass_on.ensures.unasked) r.1 in
    follows g.P.Ports.asked (Happened (Lost _) []) _ _ _ (at stages.Read to) (c.lose.ensures.leaves.failed ∙ c.pass_on.ensures.failed ∙ r.0) c.lose.ensures.held (c.lose.ensures.leaves.phase ∙ c.pass_on.ensures.phase ∙ ap (λ (s : Stage). at s to) p)
    (fails g.P.Ports.asked _ (at stages.Read to) c.args.self.now.reading _ (Happened (Lost _) []) _ _ c.lose.ensures.asked (sym c.in-Some.ensures) refl
    (reads_last g.P.Ports.asked _ phase c.args.self.now.reading _ _ _ _ _ (sym c.in-Some.ensures) (is_last _ _ c.in-Ok-Some.field-0-is c.if-count-eq0.true) c.in-Ok-Some.ensures.asked before))

pub returns-else-count-eq0-clause-answers : goal.returns-else-count-eq0-clause-answers
returns-else-count-eq0-clause-answers g c p r text =
    let phase = c.args.self.now.phase in
    let to = passed c.args.self.now.reading phase in
    let before = kept_at g.P.Ports.asked c.args.self.now _ (at stages.Read phase) _ (sym c.pass_on.ensures.held) (ap (λ (s : Stage). at s phase) p) (sym c.pass_on.ensures.unasked) r.1 in
    let some : c.in-Ok-Some.count ≢ 0 = λ e. absurd (c.if-count-eq0.false e) in
    follows_at g.P.Ports.asked (Happened (Octets c.args.self.now.reading c.in-Ok-Some.count) (take c.in-Ok-Some.count c.read.new.piece)) _ _ _ (at stages.Read to) _ (c.heard.ensures.failed ∙ c.pass_on.ensures.failed ∙ r.0) c.heard.ensures.held (c.heard.ensures.phase ∙ c.pass_on.ensures.phase ∙ ap (λ (s : Stage). at s to) p) c.heard.ensures.unasked
    (hears g.P.Ports.asked _ phase c.args.self.now.reading _ _ _ c.read.new.piece _ _ (sym c.in-Some.ensures) some c.in-Ok-Some.field-0-is c.in-Ok-Some.ensures.asked before)

pub returns-in-Err-clause-answers : goal.returns-in-Err-clause-answers
returns-in-Err-clause-answers g c p r text =
    let phase = c.args.self.now.phase in
    let to = passed c.args.self.now.reading phase in
    let before = kept_at g.P.Ports.asked c.args.self.now _ (at stages.Read phase) _ (sym c.pass_on.ensures.held) (ap (λ (s : Stage). at s phase) p) (sym c.pass_on.ensures.unasked) r.1 in
    follows g.P.Ports.asked (Happened (Lost _) []) _ _ _ (at stages.Read to) (c.lose-in-Err.ensures.leaves.failed ∙ c.pass_on.ensures.failed ∙ r.0) c.lose-in-Err.ensures.held (c.lose-in-Err.ensures.leaves.phase ∙ c.pass_on.ensures.phase ∙ ap (λ (s : Stage). at s to) p)
    (fails g.P.Ports.asked _ (at stages.Read to) c.args.self.now.reading _ (Happened (Lost _) []) _ _ c.lose-in-Err.ensures.asked (sym c.in-Some.ensures) refl
    (reads_last g.P.Ports.asked _ phase c.args.self.now.reading _ _ _ _ _ (sym c.in-Some.ensures) tt c.in-Err.ensures.asked before))
