use Rattle.std.proofs.Common.{◌≡◌, ◌∙◌, ◌-◌, ℕ, List, drop, length, refl, ap, subst, sym, arith}
use Rattle.std.specs.Prelude.{false}
use Rattle.rs_octets.specs.Messages.{messages_of}
use Rattle.rs_compare.specs.Heard.{table_in}
use Rattle.rs_replay.specs.Sendings.{allowed}
use Rattle.rs_replay.specs.Taking.{HearsAll}
use Rattle.rs_replay.proofs.Sending.{means_before, takes_bad, takes_more, takes_unread}
use Rattle.rs_replay.proofs.connection.Connection.take.Goals as goal

pub returns-then-not-self : goal.returns-then-not-self
returns-then-not-self c = λ before has. takes_unread c.args.mode before c.args.octets.now c.args.self.now c.if-not-self.true has

pub returns-in_default : goal.returns-in_default
returns-in_default c = λ before has.
    let old = c.args.self.now in
    takes_bad c.args.mode before c.args.octets.now old (record { rest = c.extend_from_slice.new.self; sent = c.hear_messages.new.sent; is_readable = false }) c.deref.result.now c.in_ok-left.field-0
    (table_in c.hear_messages.new.sent) c.if-not-self.false has (c.deref.ensures.value ∙ c.in_ok-extend_from_slice.ensures.items)
    (c.in_ok-left.ensures (messages_of allowed before) (means_before c.args.mode before c.args.octets.now old c.if-not-self.false has)) c.in_default.not-Some refl

pub returns : goal.returns
returns c = λ before has.
    let old = c.args.self.now in
    let size : c.saturating_sub-heard.result ≡ length c.deref.result.now - c.in-Some.left =
    omega (arith, c.saturating_sub-heard.ensures, c.len.ensures, c.extend_from_slice.new.self.ok.0, ap length c.deref.ensures.value) in
    takes_more c.args.mode before c.args.octets.now old (record { rest = c.take_away.new.octets; sent = c.hear_messages.new.sent; is_readable = old.is_readable }) c.deref.result.now c.in-Some.left
    c.if-not-self.false has (c.deref.ensures.value ∙ c.in_ok-extend_from_slice.ensures.items)
    (subst (λ left. HearsAll c.args.mode (messages_of allowed before) c.deref.result.now left (table_in c.hear_messages.new.sent)) c.in-Some.is
    (c.in_ok-left.ensures (messages_of allowed before) (means_before c.args.mode before c.args.octets.now old c.if-not-self.false has))) c.if-not-self.false
    (c.take_away.ensures ∙ ap (λ n. drop n c.extend_from_slice.new.self.items) size ∙ ap (λ xs. drop (length c.deref.result.now - c.in-Some.left) xs) (sym c.deref.ensures.value))
