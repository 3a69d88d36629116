use Rattle.std.proofs.Common.{◌∙◌, ◌++◌, refl, subst, sym}
use Rattle.rs_octets.specs.Fronts.{BeginsWith}
use Rattle.rs_compare.specs.Heard.{table_in}
use Rattle.rs_core.proofs.Run.Lists.{none_are}
use Rattle.rs_replay.specs.Sendings.{allowed}
use Rattle.rs_replay.specs.Taking.{HearsMessage}
use Rattle.rs_replay.proofs.Sending.{ends_empty, ends_waiting, fault_within, reset_within, up_to_more, up_to_none}
use Rattle.rs_replay.proofs.connection.hear_messages.Goals as goal

pub loop-rest-init : goal.loop-rest-init
loop-rest-init c = λ before means. up_to_none c.args.mode before c.args.octets.now (table_in c.args.sent.now) means

pub returns-then-not-branch : goal.returns-then-not-branch
returns-then-not-branch c = λ before means.
    let up = c.loop-rest.invariant before means in
    let at : BeginsWith allowed c.loop-rest.rest.now c.in-Message.kind c.in-Message.body.now c.in-Message.behind.now = c.in-Message.ensures.front in
    let hears : HearsMessage c.args.mode (before ++ up.heard) at.message c.in_ok-hear_message-in-Message.field-0 (table_in c.hear_message.new.sent) =
    c.in_ok-hear_message-in-Message.ensures (before ++ up.heard) at.message at.is at.body_is up.table_is in
    reset_within c.args.mode before c.args.octets.now c.loop-rest.rest.now c.in-Message.body.now c.in-Message.behind.now c.in-Message.kind (table_in c.loop-rest.sent) (table_in c.hear_message.new.sent) up at
    (subst (λ goes_on. HearsMessage c.args.mode (before ++ up.heard) at.message goes_on (table_in c.hear_message.new.sent)) c.if-not-branch.true hears)

pub loop-rest-preserved : goal.loop-rest-preserved
loop-rest-preserved c = λ before means.
    let up = c.loop-rest.invariant before means in
    let at : BeginsWith allowed c.loop-rest.rest.now c.in-Message.kind c.in-Message.body.now c.in-Message.behind.now = c.in-Message.ensures.front in
    let hears : HearsMessage c.args.mode (before ++ up.heard) at.message c.in_ok-hear_message-in-Message.field-0 (table_in c.hear_message.new.sent) =
    c.in_ok-hear_message-in-Message.ensures (before ++ up.heard) at.message at.is at.body_is up.table_is in
    up_to_more c.args.mode before c.args.octets.now c.loop-rest.rest.now c.in-Message.body.now c.in-Message.behind.now c.in-Message.kind (table_in c.loop-rest.sent) (table_in c.hear_message.new.sent) up at
    (subst (λ goes_on. HearsMessage c.args.mode (before ++ up.heard) at.message goes_on (table_in c.hear_message.new.sent)) c.if-not-branch.false hears)

pub returns-in-Fault : goal.returns-in-Fault
returns-in-Fault c = λ before means.
    fault_within c.args.mode before c.args.octets.now c.loop-rest.rest.now c.in-Fault.field-0 (table_in c.loop-rest.sent) (c.loop-rest.invariant before means) c.in-Fault.ensures.front

pub returns-in-Wants : goal.returns-in-Wants
returns-in-Wants c = λ before means.
    ends_waiting c.args.mode before c.args.octets.now c.loop-rest.rest.now _ c.in-Wants.field-0 (table_in c.loop-rest.sent) (c.loop-rest.invariant before means) c.in-Wants.ensures.front refl

pub returns : goal.returns
returns c = λ before means.
    ends_empty c.args.mode before c.args.octets.now c.loop-rest.rest.now (table_in c.loop-rest.sent) (c.loop-rest.invariant before means) (none_are c.loop-rest.rest.now (sym c.is_empty.ensures ∙ c.loop-rest-test.false))
