use Rattle.std.proofs.Common.{◌≡◌, ◌≢◌, ◌∙◌, Some, sym, ap}
use Rattle.rs_policy.specs.Configuration.{stated_of}
use Rattle.rs_policy.specs.Noted.{rule_noted}
use Rattle.rs_policy.proofs.Judging.Noted.{none_noted, plain_noted, rule_is_noted, acts_alike, none_acts}
use Rattle.rs_policy.proofs.rules.noting.passed_noted.Goals as goal

pub returns-then-note-eq-DROPPED : goal.returns-then-note-eq-DROPPED
returns-then-note-eq-DROPPED c = λ to p m e.
    let is : c.args.note ≡ 0 = c.if-note-eq-DROPPED.true in
    none_noted c.args.config.now c.args.from to p m c.is_read.ensures c.requires (sym is ∙ e)

pub returns-then-note-eq-PLAINLY : goal.returns-then-note-eq-PLAINLY
returns-then-note-eq-PLAINLY c = λ to p m e.
    let is : c.args.note ≡ 1 = c.if-note-eq-PLAINLY.true in
    ap Some c.plainly.ensures ∙ plain_noted c.args.config.now c.args.from to p m c.is_read.ensures c.requires (sym is ∙ e)

pub returns-in-None : goal.returns-in-None
returns-in-None c = λ to p m e.
    let s = c.args.config.now in
    let not_0 : c.args.note ≢ 0 = c.if-note-eq-DROPPED.false in
    let not_1 : c.args.note ≢ 1 = c.if-note-eq-PLAINLY.false in
    let h = rule_is_noted s c.args.from to p m c.args.note c.is_read.ensures c.requires e not_0 not_1 in
    let f = none_acts (rule_noted s.shared (stated_of s c.args.from).import c.args.note) h.0 (c.in-None.ensures) h.1.0 in
    absurd (cc f)

pub returns-in-Some : goal.returns-in-Some
returns-in-Some c = λ to p m e.
    let s = c.args.config.now in
    let not_0 : c.args.note ≢ 0 = c.if-note-eq-DROPPED.false in
    let not_1 : c.args.note ≢ 1 = c.if-note-eq-PLAINLY.false in
    let h = rule_is_noted s c.args.from to p m c.args.note c.is_read.ensures c.requires e not_0 not_1 in
    c.passed_by.ensures
    ∙ (acts_alike (rule_noted s.shared (stated_of s c.args.from).import c.args.note) h.0 c.in-Some.action.now c.in-Some.ensures h.1.0
    ∙ h.1.1)
