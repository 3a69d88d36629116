use Rattle.std.proofs.Common.{ℕ, refl, sym, ◌∙◌, ap, subst}
use Rattle.std.specs.Global.{Vec}
use Rattle.rs_octets.specs.Fronts.{BeginsWith, BeginsFaulty, Wants}
use Rattle.rs_core.specs.Core.{client_count}
use Rattle.rs_core.specs.Session.Hearing.{allowed_in}
use Rattle.rs_core.specs.Ribs.{TouchesOthersAtChange, outlet_in}
use Rattle.rs_core.specs.declared.route_server.Core.{Core}
use Rattle.rs_core.specs.Run.Parts.{FillsUp, HasHeardFront}
use Rattle.rs_core.specs.Run.Agreeing.{Spares}
use Rattle.rs_core.proofs.Run.Lists.{on_err}
use Rattle.rs_core.proofs.Run.Agreeing.{cut_short}
use Rattle.rs_core.proofs.Session.Cutting.{same_spares}
use Rattle.rs_core.proofs.Touched.ChangedPrefixes.{touches_others_same, within_changed}
use Rattle.rs_core.proofs.Touched.CutShort.{waiting_within}
use Rattle.rs_core.proofs.Session.Filling.{waiting_on, waiting_fault, waiting_message}
use Rattle.rs_core.specs.Touched.Touches.{KeepsTouches}
use Rattle.rs_core.proofs.Touched.OwnSession.{keeps_same}
use Rattle.rs_core.proofs.route_server.Core.hear_waiting.Goals as goal
use Rattle.rs_core.proofs.route_server.Core.hear_waiting.Goals.{in-Wants, in-Fault, in-Message+in_ok-hear_message-in-Message}

pub returns-in_err-rest-clause-refused : goal.returns-in_err-rest-clause-refused
unfolding client_count
returns-in_err-rest-clause-refused c = on_err c.from_residual.result (λ s h config live knows waits. cut_short c.args.self.now s c.args.c h knows)

pub returns-clause-spares : goal.returns-clause-spares
unfolding client_count
returns-clause-spares c = elim c.match-read_front.branch [
  | in-Wants w ↦ subst (λ k. Spares c.args.c c.args.self.now k) (sym w.self-is) (same_spares c.args.self.now c.args.c)
  | in-Fault w ↦ subst (λ k. Spares c.args.c c.args.self.now k) (sym w.self-is) w.session_hears.ensures.spares
  | in-Message+in_ok-hear_message-in-Message w ↦ subst (λ k. Spares c.args.c c.args.self.now k) (sym w.self-is) w.hear_message.ensures.spares
]

pub returns-clause-heard : goal.returns-clause-heard
unfolding client_count
returns-clause-heard c = λ s h config live knows waits.
    let core = c.args.self.now in
    let i = c.args.c in
    let was = c.args.buffer.now.items in
    let new = c.fill_up.new.buffer.items in
    let piece = c.args.piece.now in
    let rest = c.in_ok-rest.rest.now in
    let allowed_is = c.allowed-allowed.ensures ∙ ap allowed_in config in
    let fills : FillsUp (allowed_in s) was piece new rest = subst (λ a. FillsUp a was piece new rest) allowed_is c.in_ok-rest.ensures in
    elim c.match-read_front.branch [
      | in-Wants w ↦
          let wants = subst (λ o. Wants (allowed_in s) o w.in-Wants.field-0) c.deref.ensures.value (subst (λ a. Wants a c.deref.result.now w.in-Wants.field-0) allowed_is w.in-Wants.ensures.front) in
          subst (λ k. HasHeardFront k s i h piece c.match-read_front.buffer.items rest) (sym w.self-is)
          (subst (λ (b : Vec ℕ). HasHeardFront core s i h piece b.items rest) (sym w.buffer-is)
          (waiting_on core s i h was new piece rest w.in-Wants.field-0 live waits fills wants knows))
      | in-Fault w ↦
          let fault = w.in-Fault.fault in
          let faulty = subst (λ o. BeginsFaulty (allowed_in s) o fault) c.deref.ensures.value (subst (λ a. BeginsFaulty a c.deref.result.now fault) allowed_is w.in-Fault.ensures.front) in
          subst (λ k. HasHeardFront k s i h piece c.match-read_front.buffer.items rest) (sym w.self-is)
          (subst (λ l. HasHeardFront w.session_hears.new.self s i h piece l rest) (sym (ap (λ (b : Vec ℕ). b.items) w.buffer-is ∙ w.clear.ensures.items))
          (waiting_fault w.session_hears.new.self s i h was new piece rest fault live waits fills faulty (w.session_hears.ensures.alone s h knows)))
      | in-Message+in_ok-hear_message-in-Message w ↦
          let kind = w.in-Message.kind in
          let body = w.in-Message.body.now in
          let behind = w.in-Message.rest.now in
          let begins = subst (λ o. BeginsWith (allowed_in s) o kind body behind) c.deref.ensures.value (subst (λ a. BeginsWith a c.deref.result.now kind body behind) allowed_is w.in-Message.ensures.front) in
          subst (λ k. HasHeardFront k s i h piece c.match-read_front.buffer.items rest) (sym w.self-is)
          (subst (λ l. HasHeardFront w.hear_message.new.self s i h piece l rest) (sym (ap (λ (b : Vec ℕ). b.items) w.buffer-is ∙ w.clear-in-Message.ensures.items))
          (waiting_message w.hear_message.new.self s i h was new piece rest kind body behind live waits fills begins (w.in_ok-hear_message-in-Message.ensures.heard s h config live knows)))
    ]

pub returns-in_err-rest-clause-cut : goal.returns-in_err-rest-clause-cut
returns-in_err-rest-clause-cut c = on_err c.from_residual.result (λ s h config live knows waits.
    within_changed _ c.args.c c.args.self.now.ribs c.args.self.now.ribs (λ p differs. absurd (differs refl)) (touches_others_same c.args.c c.args.self.now.ribs c.args.self.now.ribs refl))

pub returns-in_err-hear_message-in-Message-clause-cut : goal.returns-in_err-hear_message-in-Message-clause-cut
unfolding client_count
returns-in_err-hear_message-in-Message-clause-cut c = on_err c.from_residual-in_err-hear_message-in-Message.result (λ s h config live knows waits.
    let new = c.fill_up.new.buffer.items in
    let kind = c.in-Message.kind in
    let body = c.in-Message.body.now in
    let behind = c.in-Message.rest.now in
    let allowed_is = c.allowed-allowed.ensures ∙ ap allowed_in config in
    let begins = subst (λ o. BeginsWith (allowed_in s) o kind body behind) c.deref.ensures.value (subst (λ a. BeginsWith a c.deref.result.now kind body behind) allowed_is c.in-Message.ensures.front) in
    waiting_within s c.args.c h c.args.buffer.now.items new c.args.piece.now c.in_ok-rest.rest.now kind body behind c.args.self.now.ribs c.hear_message.new.self.ribs live waits
    (subst (λ a. FillsUp a c.args.buffer.now.items c.args.piece.now new c.in_ok-rest.rest.now) allowed_is c.in_ok-rest.ensures) begins
    (c.in_err-hear_message-in-Message.ensures.part s h config live knows) c.hear_message.ensures.others_touched)

pub returns-clause-others_touched : goal.returns-clause-others_touched
returns-clause-others_touched c = elim c.match-read_front.branch [
  | in-Wants w ↦ touches_others_same c.args.c c.args.self.now.ribs _ (ap (λ (k : Core). k.ribs) w.self-is)
  | in-Fault w ↦ subst (λ (k : Core). TouchesOthersAtChange c.args.c c.args.self.now.ribs k.ribs) (sym w.self-is) w.session_hears.ensures.others_touched
  | in-Message+in_ok-hear_message-in-Message w ↦ subst (λ (k : Core). TouchesOthersAtChange c.args.c c.args.self.now.ribs k.ribs) (sym w.self-is) w.hear_message.ensures.others_touched
]

pub returns-in_err-rest-clause-others_touched : goal.returns-in_err-rest-clause-others_touched
returns-in_err-rest-clause-others_touched c = touches_others_same c.args.c c.args.self.now.ribs c.args.self.now.ribs refl

pub returns-clause-keeps : goal.returns-clause-keeps
returns-clause-keeps c = λ s h config knows none. elim c.match-read_front.branch [
  | in-Wants w ↦ subst (λ (k : Core). KeepsTouches (outlet_in c.args.self.now.ribs c.args.c none) (outlet_in k.ribs c.args.c none)) (sym w.self-is) (keeps_same _ _ refl refl)
  | in-Fault w ↦ subst (λ (k : Core). KeepsTouches (outlet_in c.args.self.now.ribs c.args.c none) (outlet_in k.ribs c.args.c none)) (sym w.self-is) (w.session_hears.ensures.keeps s h config knows none)
  | in-Message+in_ok-hear_message-in-Message w ↦ subst (λ (k : Core). KeepsTouches (outlet_in c.args.self.now.ribs c.args.c none) (outlet_in k.ribs c.args.c none)) (sym w.self-is) (w.hear_message.ensures.keeps s h config knows none)
]

pub returns-in_err-rest-clause-keeps : goal.returns-in_err-rest-clause-keeps
returns-in_err-rest-clause-keeps c = λ s h config knows none. keeps_same _ _ refl refl
