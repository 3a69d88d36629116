use Rattle.std.proofs.Common.{refl, sym, ◌∙◌, ap}
use Rattle.std.specs.Prelude.{Some}
use Rattle.std.specs.Arc.{arc_value}
use Rattle.rs_compare.specs.Differences.{kind_of}
use Rattle.rs_compare.proofs.Stepped.{before_none, before_one, of_both, of_due, of_sent, turned}
use Rattle.rs_compare.proofs.compared.first_step.Goals.{in-Less, in-Greater, in-Equal}
use Rattle.rs_compare.proofs.compared.first_step.Goals as goal

pub returns-in-None-Some-clause-some : goal.returns-in-None-Some-clause-some
returns-in-None-Some-clause-some c =
    let first = c.in-None-Some.first.now in
    of_sent c.args.due.now c.args.sent.now first c.in-None-Some.sent.now _ c.in-None-Some.ensures'.cases (before_none first.prefix c.args.due.now c.in-None-Some.ensures.cases) refl refl refl refl

pub returns-in-Some-None-clause-some : goal.returns-in-Some-None-clause-some
returns-in-Some-None-clause-some c =
    let first = c.in-Some-None.first.now in
    of_due c.args.due.now c.args.sent.now first c.in-Some-None.due.now _ c.in-Some-None.ensures.cases (before_none first.prefix c.args.sent.now c.in-Some-None.ensures'.cases) refl refl refl refl

pub returns-after-cmp-clause-some : goal.returns-after-cmp-clause-some
returns-after-cmp-clause-some c =
    let due = c.args.due.now in
    let sent = c.args.sent.now in
    let first = c.in-Some-Some.first.now in
    let other = c.in-Some-Some.other.now in
    let of_first = c.in-Some-Some.ensures.cases in
    let of_other = c.in-Some-Some.ensures'.cases in
    elim c.match-cmp.branch [
      | in-Less w ↦ of_due due sent first c.in-Some-Some.due_left.now c.match-cmp.result of_first (before_one first.prefix sent other c.in-Some-Some.sent_left.now of_other.0 (sym c.cmp.ensures ∙ w.in-Less.is))
          (ap (λ s. s.prefix) w.result-is) (ap (λ s. s.kind) w.result-is) (ap (λ s. s.due.now) w.result-is) (ap (λ s. s.sent.now) w.result-is)
      | in-Greater w ↦ of_sent due sent other c.in-Some-Some.sent_left.now c.match-cmp.result of_other (before_one other.prefix due first c.in-Some-Some.due_left.now of_first.0 (turned first.prefix other.prefix (sym c.cmp.ensures ∙ w.in-Greater.is)))
          (ap (λ s. s.prefix) w.result-is) (ap (λ s. s.kind) w.result-is) (ap (λ s. s.due.now) w.result-is) (ap (λ s. s.sent.now) w.result-is)
      | in-Equal w ↦ of_both due sent first other c.in-Some-Some.due_left.now c.in-Some-Some.sent_left.now c.match-cmp.result of_first of_other (sym c.cmp.ensures ∙ w.in-Equal.is)
          (ap (λ s. s.prefix) w.result-is) (ap (λ s. s.kind) w.result-is ∙ w.kind_of.ensures ∙ ap (λ m. kind_of (Some m) (Some w.deref-in-Equal.result.now)) w.deref.ensures ∙ ap (λ n. kind_of (Some (arc_value first.attrs)) (Some n)) w.deref-in-Equal.ensures) (ap (λ s. s.due.now) w.result-is) (ap (λ s. s.sent.now) w.result-is)
    ]
