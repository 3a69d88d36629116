use Rattle.std.proofs.Common.{◌≡◌, ◌<◌, [], ◌++◌, length, refl, sym, ◌∙◌, ap, subst, append_assoc}
use Rattle.std.proofs.lemmas.List.{append-nil}
use Rattle.rs_octets.specs.Fronts.{BeginsWith, BeginsFaulty, Wants}
use Rattle.rs_octets.specs.Messages.{IsMessageOf}
use Rattle.rs_policy.specs.Configuration.{Configuration}
use Rattle.rs_core.specs.Core.{client_count}
use Rattle.rs_core.specs.Session.Hearing.{Hearing, allowed_in, hears}
use Rattle.rs_core.specs.Run.Agreeing.{AgreesAt}
use Rattle.rs_core.specs.Run.Parts.{IsBetween}
use Rattle.rs_core.proofs.Run.Lists.{on_err, map_ok, none_are}
use Rattle.rs_core.proofs.Run.Agreeing.{spares_both, cut_short}
use Rattle.rs_core.proofs.Run.OtherRules.{unmoved}
use Rattle.rs_core.proofs.Session.Cutting.{alone_waits, after_message, after_fault, fault_between, after_beginning, after_all, deaf_agrees, cut_before, agrees_joined, between_joined, same_spares, waiting_spares}
use Rattle.rs_core.proofs.Session.Listening.{hears_nothing}
use Rattle.rs_core.specs.Touched.Altering.{IsAlteredBy}
use Rattle.rs_core.specs.Ribs.{TouchesOthersJustWhere}
use Rattle.rs_core.proofs.Touched.Altering.{beginning_silent, message_once, on_ok, one_fault, piece_deaf, piece_silent, touches_at_first, touches_after, touches_no_more, touches_once}
use Rattle.rs_core.specs.Touched.Touches.{KeepsTouches}
use Rattle.rs_core.specs.Ribs.{outlet_in}
use Rattle.rs_core.proofs.Touched.OwnSession.{keeps_behind, keeps_same}
use Rattle.rs_core.specs.Ribs.{TouchesOthersWithin}
use Rattle.rs_core.proofs.Touched.CutShort.{beginning_within, piece_within}
use Rattle.rs_core.proofs.route_server.Core.hear_piece.Goals as goal

pub loop-octets-init : goal.loop-octets-init
loop-octets-init c = record {
  spares = same_spares c.args.self.now c.args.c;
  buffers = refl;
  heard = ([], refl, λ s h config between. subst (λ k. IsBetween c.args.self.now s c.args.c k) (sym (hears_nothing s c.args.c h)) between, λ s h config between. touches_at_first s c.args.c h c.args.self.now.ribs, λ s h config between none. keeps_same _ _ refl refl);
}

pub returns-then-not-is_live-clause-heard : goal.returns-then-not-is_live-clause-heard
unfolding client_count
returns-then-not-is_live-clause-heard c = λ s h config between.
    let it = c.loop-octets.invariant.heard in
    let at = it.2 s h config between in
    agrees_joined c.loop-octets.self s c.args.c c.args.piece.now it.0 c.loop-octets.octets.now h it.1
    (deaf_agrees c.loop-octets.self s c.args.c c.loop-octets.octets.now (hears s c.args.c it.0 h) (sym (c.is_live.ensures s (hears s c.args.c it.0 h) at.knows) ∙ c.if-not-is_live.true) at.knows)

pub returns-in-Wants-clause-spares : goal.returns-in-Wants-clause-spares
unfolding client_count
returns-in-Wants-clause-spares c = spares_both c.args.c c.args.self.now c.loop-octets.self c.wait.new.self c.loop-octets.invariant.spares
    (waiting_spares c.loop-octets.self c.wait.new.self c.args.c c.wait.ensures.count c.wait.ensures.sessions c.wait.ensures.ribs c.wait.ensures.watched c.wait.ensures.others)

pub returns-in-Wants-clause-heard : goal.returns-in-Wants-clause-heard
unfolding client_count
returns-in-Wants-clause-heard c = map_ok c.wait.result c.wait.ensures.behind (λ behind s h config between.
    let it = c.loop-octets.invariant.heard in
    let at = it.2 s h config between in
    let before : Hearing = hears s c.args.c it.0 h in
    let live = sym (c.is_live.ensures s before at.knows) ∙ c.if-not-is_live.false in
    let wants : Wants (allowed_in s) c.loop-octets.octets.now c.in-Wants.field-0 = subst (λ a. Wants a c.loop-octets.octets.now c.in-Wants.field-0) (c.allowed-allowed.ensures ∙ ap allowed_in config) c.in-Wants.ensures.front in
    let within : c.args.c < c.loop-octets.self.count = subst (λ n. c.args.c < n) (sym c.loop-octets.invariant.spares.count) c.requires in
    let lt : c.args.c < length c.loop-octets.self.buffers.items = subst (λ n. c.args.c < n) (sym c.loop-octets.self.buffers_len) within in
    agrees_joined c.wait.new.self s c.args.c c.args.piece.now it.0 c.loop-octets.octets.now h it.1
    (after_beginning c.loop-octets.self c.wait.new.self s c.args.c before c.loop-octets.octets.now c.in-Wants.field-0 live at wants c.wait.ensures.sessions c.wait.ensures.ribs c.wait.ensures.watched
    (alone_waits c.loop-octets.self c.wait.new.self s c.args.c before c.loop-octets.octets.now lt live at behind)))

pub returns-in-Wants-clause-refused : goal.returns-in-Wants-clause-refused
unfolding client_count
returns-in-Wants-clause-refused c = on_err c.wait.result (λ s h config between.
    let it = c.loop-octets.invariant.heard in
    let at = it.2 s h config between in
    let before : Hearing = hears s c.args.c it.0 h in
    cut_before c.wait.new.self s c.args.c it.0 h
    (cut_short c.wait.new.self s c.args.c before (unmoved c.loop-octets.self c.wait.new.self s c.args.c before c.wait.ensures.sessions c.wait.ensures.ribs c.wait.ensures.watched at.knows)))

pub returns-in-Fault-clause-heard : goal.returns-in-Fault-clause-heard
unfolding client_count
returns-in-Fault-clause-heard c = λ s h config between.
    let it = c.loop-octets.invariant.heard in
    let at = it.2 s h config between in
    let before : Hearing = hears s c.args.c it.0 h in
    let live = sym (c.is_live.ensures s before at.knows) ∙ c.if-not-is_live.false in
    let faulty : BeginsFaulty (allowed_in s) c.loop-octets.octets.now c.in-Fault.fault = subst (λ a. BeginsFaulty a c.loop-octets.octets.now c.in-Fault.fault) (c.allowed-allowed.ensures ∙ ap allowed_in config) c.in-Fault.ensures.front in
    agrees_joined c.session_hears.new.self s c.args.c c.args.piece.now it.0 c.loop-octets.octets.now h it.1
    (after_fault c.session_hears.new.self s c.args.c before c.loop-octets.octets.now c.in-Fault.fault live (fault_between s c.args.c c.loop-octets.self before c.loop-octets.octets.now c.in-Fault.fault live at faulty)
    (c.session_hears.ensures.alone s before at.knows))

pub returns-in_err-hear_message-in-Message-clause-refused : goal.returns-in_err-hear_message-in-Message-clause-refused
unfolding client_count
returns-in_err-hear_message-in-Message-clause-refused c = on_err c.from_residual.result (λ s h config between.
    let it = c.loop-octets.invariant.heard in
    let at = it.2 s h config between in
    cut_before c.hear_message.new.self s c.args.c it.0 h (c.in_err-hear_message-in-Message.ensures.refused s (hears s c.args.c it.0 h) at.knows))

pub loop-octets-preserved : goal.loop-octets-preserved
unfolding client_count
loop-octets-preserved c =
    let it = c.loop-octets.invariant.heard in
    let at = c.in-Message.ensures.front in
    let begins : (s : Configuration) → c.args.self.now.ribs.config ≡ s → BeginsWith (allowed_in s) c.loop-octets.octets.now c.in-Message.kind c.in-Message.body.now c.in-Message.rest.now = λ s config. record {
      message = at.message;
      is = subst (λ a. IsMessageOf a c.in-Message.kind at.message) (c.allowed-allowed.ensures ∙ ap allowed_in config) at.is;
      body_is = at.body_is;
      whole = at.whole;
    } in
    record {
      spares = spares_both c.args.c c.args.self.now c.loop-octets.self c.hear_message.new.self c.loop-octets.invariant.spares c.hear_message.ensures.spares;
      buffers = c.hear_message.ensures.buffers ∙ c.loop-octets.invariant.buffers;
      heard = (
        it.0 ++ at.message,
        it.1 ∙ ap (λ o. it.0 ++ o) at.whole ∙ sym (append_assoc it.0 at.message c.in-Message.rest.now),
        λ s h config between.
            let was = it.2 s h config between in
            let before : Hearing = hears s c.args.c it.0 h in
            let live = sym (c.is_live.ensures s before was.knows) ∙ c.if-not-is_live.false in
            between_joined c.hear_message.new.self s c.args.c it.0 at.message h
            (after_message c.loop-octets.self c.hear_message.new.self s c.args.c before c.loop-octets.octets.now c.in-Message.kind c.in-Message.body.now c.in-Message.rest.now (begins s config) live c.hear_message.ensures.buffers was
            (c.in_ok-hear_message-in-Message.ensures.heard s before (c.loop-octets.invariant.spares.config ∙ config) live was.knows)),
        λ s h config between.
            let was = it.2 s h config between in
            let before : Hearing = hears s c.args.c it.0 h in
            let live = sym (c.is_live.ensures s before was.knows) ∙ c.if-not-is_live.false in
            let now = after_message c.loop-octets.self c.hear_message.new.self s c.args.c before c.loop-octets.octets.now c.in-Message.kind c.in-Message.body.now c.in-Message.rest.now (begins s config) live c.hear_message.ensures.buffers was
            (c.in_ok-hear_message-in-Message.ensures.heard s before (c.loop-octets.invariant.spares.config ∙ config) live was.knows) in
            touches_after s c.args.c it.0 at.message h c.args.self.now.ribs c.loop-octets.self.ribs c.hear_message.new.self.ribs (c.loop-octets.self.ribs_len ∙ c.loop-octets.invariant.spares.count ∙ sym c.args.self.now.ribs_len) (it.3 s h config between)
            (touches_once s c.args.c at.message before c.loop-octets.self c.hear_message.new.self
            (message_once c.loop-octets.self s c.args.c before c.loop-octets.octets.now c.in-Message.kind c.in-Message.body.now c.in-Message.rest.now (begins s config) live was) c.hear_message.ensures.others_touched was.knows now.knows),
        λ s h config between none.
            let was = it.2 s h config between in
            let before : Hearing = hears s c.args.c it.0 h in
            let live = sym (c.is_live.ensures s before was.knows) ∙ c.if-not-is_live.false in
            let mid = c.loop-octets.invariant.spares.config ∙ config in
            let now = after_message c.loop-octets.self c.hear_message.new.self s c.args.c before c.loop-octets.octets.now c.in-Message.kind c.in-Message.body.now c.in-Message.rest.now (begins s config) live c.hear_message.ensures.buffers was
            (c.in_ok-hear_message-in-Message.ensures.heard s before mid live was.knows) in
            keeps_behind c.args.self.now c.loop-octets.self c.hear_message.new.self s c.args.c it.0 at.message h config mid (c.hear_message.ensures.spares.config ∙ mid) between.knows was.knows now.knows none
            (it.4 s h config between none) (c.hear_message.ensures.keeps s before mid was.knows none),
      );
    }

pub returns-clause-heard : goal.returns-clause-heard
unfolding client_count
returns-clause-heard c = λ s h config between.
    let it = c.loop-octets.invariant.heard in
    let at = it.2 s h config between in
    let none = none_are c.loop-octets.octets.now (sym c.is_empty.ensures ∙ c.loop-octets-test.false) in
    let whole : c.args.piece.now ≡ it.0 = it.1 ∙ ap (λ o. it.0 ++ o) none ∙ append-nil it.0 in
    subst (λ p. AgreesAt c.loop-octets.self s c.args.c (hears s c.args.c p h)) (sym whole) (after_all c.loop-octets.self s c.args.c (hears s c.args.c it.0 h) at)

pub returns-then-not-is_live-clause-others_touched : goal.returns-then-not-is_live-clause-others_touched
unfolding client_count
returns-then-not-is_live-clause-others_touched c = λ s h config between.
    let it = c.loop-octets.invariant.heard in
    let at = it.2 s h config between in
    let dead = sym (c.is_live.ensures s (hears s c.args.c it.0 h) at.knows) ∙ c.if-not-is_live.true in
    subst (λ o. TouchesOthersJustWhere (IsAlteredBy s c.args.c o h) c.args.c c.args.self.now.ribs c.loop-octets.self.ribs) (sym it.1)
    (touches_no_more s c.args.c it.0 c.loop-octets.octets.now h c.args.self.now.ribs c.loop-octets.self.ribs (λ p x. piece_deaf s c.args.c c.loop-octets.octets.now (hears s c.args.c it.0 h) p dead x) (it.3 s h config between))

pub returns-in-Wants-clause-others_touched : goal.returns-in-Wants-clause-others_touched
unfolding client_count
returns-in-Wants-clause-others_touched c = on_ok c.wait.result (λ s h config between.
    let it = c.loop-octets.invariant.heard in
    let at = it.2 s h config between in
    let before : Hearing = hears s c.args.c it.0 h in
    let live = sym (c.is_live.ensures s before at.knows) ∙ c.if-not-is_live.false in
    let wants : Wants (allowed_in s) c.loop-octets.octets.now c.in-Wants.field-0 = subst (λ a. Wants a c.loop-octets.octets.now c.in-Wants.field-0) (c.allowed-allowed.ensures ∙ ap allowed_in config) c.in-Wants.ensures.front in
    let silent = beginning_silent c.loop-octets.self s c.args.c before c.loop-octets.octets.now c.in-Wants.field-0 live at wants in
    subst (λ r. TouchesOthersJustWhere (IsAlteredBy s c.args.c c.args.piece.now h) c.args.c c.args.self.now.ribs r) (sym c.wait.ensures.ribs)
    (subst (λ o. TouchesOthersJustWhere (IsAlteredBy s c.args.c o h) c.args.c c.args.self.now.ribs c.loop-octets.self.ribs) (sym it.1)
    (touches_no_more s c.args.c it.0 c.loop-octets.octets.now h c.args.self.now.ribs c.loop-octets.self.ribs (λ p x. piece_silent s c.args.c c.loop-octets.octets.now before p silent x) (it.3 s h config between))))

pub returns-in-Fault-clause-others_touched : goal.returns-in-Fault-clause-others_touched
unfolding client_count
returns-in-Fault-clause-others_touched c = λ s h config between.
    let it = c.loop-octets.invariant.heard in
    let at = it.2 s h config between in
    let before : Hearing = hears s c.args.c it.0 h in
    let live = sym (c.is_live.ensures s before at.knows) ∙ c.if-not-is_live.false in
    let faulty : BeginsFaulty (allowed_in s) c.loop-octets.octets.now c.in-Fault.fault = subst (λ a. BeginsFaulty a c.loop-octets.octets.now c.in-Fault.fault) (c.allowed-allowed.ensures ∙ ap allowed_in config) c.in-Fault.ensures.front in
    let new_is = fault_between s c.args.c c.loop-octets.self before c.loop-octets.octets.now c.in-Fault.fault live at faulty in
    let now = after_fault c.session_hears.new.self s c.args.c before c.loop-octets.octets.now c.in-Fault.fault live new_is (c.session_hears.ensures.alone s before at.knows) in
    subst (λ o. TouchesOthersJustWhere (IsAlteredBy s c.args.c o h) c.args.c c.args.self.now.ribs c.session_hears.new.self.ribs) (sym it.1)
    (touches_after s c.args.c it.0 c.loop-octets.octets.now h c.args.self.now.ribs c.loop-octets.self.ribs c.session_hears.new.self.ribs (c.loop-octets.self.ribs_len ∙ c.loop-octets.invariant.spares.count ∙ sym c.args.self.now.ribs_len) (it.3 s h config between)
    (touches_once s c.args.c c.loop-octets.octets.now before c.loop-octets.self c.session_hears.new.self (one_fault _ c.in-Fault.fault new_is) c.session_hears.ensures.others_touched at.knows now.knows))

pub returns-clause-others_touched : goal.returns-clause-others_touched
unfolding client_count
returns-clause-others_touched c = λ s h config between.
    let it = c.loop-octets.invariant.heard in
    let none = none_are c.loop-octets.octets.now (sym c.is_empty.ensures ∙ c.loop-octets-test.false) in
    let whole : c.args.piece.now ≡ it.0 = it.1 ∙ ap (λ o. it.0 ++ o) none ∙ append-nil it.0 in
    subst (λ o. TouchesOthersJustWhere (IsAlteredBy s c.args.c o h) c.args.c c.args.self.now.ribs c.loop-octets.self.ribs) (sym whole) (it.3 s h config between)

pub returns-then-not-is_live-clause-keeps : goal.returns-then-not-is_live-clause-keeps
returns-then-not-is_live-clause-keeps c = λ s h config between none. c.loop-octets.invariant.heard.4 s h config between none

pub returns-in-Wants-clause-keeps : goal.returns-in-Wants-clause-keeps
returns-in-Wants-clause-keeps c = on_ok c.wait.result (λ s h config between none.
    subst (λ r. KeepsTouches (outlet_in c.args.self.now.ribs c.args.c none) (outlet_in r c.args.c none)) (sym c.wait.ensures.ribs) (c.loop-octets.invariant.heard.4 s h config between none))

pub returns-in-Fault-clause-keeps : goal.returns-in-Fault-clause-keeps
unfolding client_count
returns-in-Fault-clause-keeps c = λ s h config between none.
    let it = c.loop-octets.invariant.heard in
    let at = it.2 s h config between in
    let before : Hearing = hears s c.args.c it.0 h in
    let live = sym (c.is_live.ensures s before at.knows) ∙ c.if-not-is_live.false in
    let faulty : BeginsFaulty (allowed_in s) c.loop-octets.octets.now c.in-Fault.fault = subst (λ a. BeginsFaulty a c.loop-octets.octets.now c.in-Fault.fault) (c.allowed-allowed.ensures ∙ ap allowed_in config) c.in-Fault.ensures.front in
    let now = after_fault c.session_hears.new.self s c.args.c before c.loop-octets.octets.now c.in-Fault.fault live (fault_between s c.args.c c.loop-octets.self before c.loop-octets.octets.now c.in-Fault.fault live at faulty) (c.session_hears.ensures.alone s before at.knows) in
    let mid = c.loop-octets.invariant.spares.config ∙ config in
    keeps_behind c.args.self.now c.loop-octets.self c.session_hears.new.self s c.args.c it.0 c.loop-octets.octets.now h config mid (c.session_hears.ensures.spares.config ∙ mid) between.knows at.knows now.knows none
    (it.4 s h config between none) (c.session_hears.ensures.keeps s before mid at.knows none)

pub returns-clause-keeps : goal.returns-clause-keeps
returns-clause-keeps c = λ s h config between none. c.loop-octets.invariant.heard.4 s h config between none

pub returns-in-Wants-clause-cut : goal.returns-in-Wants-clause-cut
unfolding client_count
returns-in-Wants-clause-cut c = on_err c.wait.result (λ s h config between.
    let it = c.loop-octets.invariant.heard in
    let at = it.2 s h config between in
    subst (λ r. TouchesOthersWithin (IsAlteredBy s c.args.c c.args.piece.now h) c.args.c c.args.self.now.ribs r) (sym c.wait.ensures.ribs)
    (beginning_within s c.args.c h c.args.piece.now it.0 c.loop-octets.octets.now c.args.self.now c.loop-octets.self it.1 between.knows at.knows (it.3 s h config between)))

pub returns-in_err-hear_message-in-Message-clause-cut : goal.returns-in_err-hear_message-in-Message-clause-cut
unfolding client_count
returns-in_err-hear_message-in-Message-clause-cut c = on_err c.from_residual.result (λ s h config between.
    let it = c.loop-octets.invariant.heard in
    let was = it.2 s h config between in
    let before : Hearing = hears s c.args.c it.0 h in
    let live = sym (c.is_live.ensures s before was.knows) ∙ c.if-not-is_live.false in
    let begins : BeginsWith (allowed_in s) c.loop-octets.octets.now c.in-Message.kind c.in-Message.body.now c.in-Message.rest.now =
    subst (λ a. BeginsWith a c.loop-octets.octets.now c.in-Message.kind c.in-Message.body.now c.in-Message.rest.now) (c.allowed-allowed.ensures ∙ ap allowed_in config) c.in-Message.ensures.front in
    piece_within s c.args.c h c.args.piece.now it.0 c.loop-octets.octets.now c.in-Message.kind c.in-Message.body.now c.in-Message.rest.now c.args.self.now c.loop-octets.self c.hear_message.new.self it.1
    (c.loop-octets.self.ribs_len ∙ c.loop-octets.invariant.spares.count ∙ sym c.args.self.now.ribs_len) live begins between.knows was
    (c.in_err-hear_message-in-Message.ensures.part s before (c.loop-octets.invariant.spares.config ∙ config) live was.knows) (it.3 s h config between) c.hear_message.ensures.others_touched)
