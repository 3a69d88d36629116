use Rattle.std.proofs.Common.{inr, ◌≡◌, ◌∙◌, ℕ, None, Some, ap, subst, sym}
use Rattle.rs_octets.specs.Prefixes.{Prefix}
use Rattle.rs_adjin.specs.AdjIns.{number_of}
use Rattle.rs_outlet.specs.Decided.Touching.{MayAdd, stale_of, touched_by, touched_of}
use Rattle.rs_outlet.specs.Views.{HaveNumbers, with_touch}
use Rattle.rs_outlet.proofs.Decided.Numbering.{all_both}
use Rattle.rs_outlet.proofs.Decided.TouchedList.{stale_push, touched_push}
use Rattle.rs_outlet.proofs.touched.Touched.add.Goals as goal

pub returns-then-self-clause-touched : goal.returns-then-self-clause-touched
returns-then-self-clause-touched c = λ ins h.
    let es = c.args.self.now.prefixes.items in
    let mid = c.make_room.new.self in
    let all : None ≡ touched_of c.args.self.now.all es = sym (ap (λ b. touched_of b mid.prefixes.items) c.if-self.true) ∙ c.make_room.ensures.touched ins h in
    ap (λ b. touched_of b mid.prefixes.items) c.if-self.true ∙ ap (λ o. with_touch o c.args.prefix) all

pub returns-then-self-clause-numbered : goal.returns-then-self-clause-numbered
returns-then-self-clause-numbered c = λ ins h is. c.make_room.ensures.numbered ins h

pub returns-clause-touched : goal.returns-clause-touched
returns-clause-touched c = λ ins h.
    let mid = c.make_room.new.self in
    ap (λ b. touched_of b c.push_reserved.new.self.items) c.if-self.false
    ∙ ap touched_by c.push_reserved.ensures.items
    ∙ touched_push mid.prefixes.items (c.args.number, c.args.prefix)
    ∙ ap (λ o. with_touch o c.args.prefix) (sym (ap (λ b. touched_of b mid.prefixes.items) c.if-self.false) ∙ c.make_room.ensures.touched ins h)

pub returns-clause-numbered : goal.returns-clause-numbered
returns-clause-numbered c = λ ins h is.
    subst (λ es. HaveNumbers es ins) (sym c.push_reserved.ensures.items)
    (all_both (λ (e : ℕ × Prefix). number_of ins e.1 ≡ Some e.0) c.make_room.new.self.prefixes.items _ (c.make_room.ensures.numbered ins h) (is, tt))

pub returns-then-self-clause-stale : goal.returns-then-self-clause-stale
returns-then-self-clause-stale c = λ ins h. inr (ap (λ b. stale_of b c.make_room.new.self.prefixes.items) c.if-self.true)

pub returns-clause-stale : goal.returns-clause-stale
returns-clause-stale c = λ ins h.
    let mid = c.make_room.new.self in
    subst (λ es. MayAdd c.args.prefix (stale_of c.args.self.now.all c.args.self.now.prefixes.items) (stale_of mid.all es)) (sym c.push_reserved.ensures.items)
    (stale_push mid.all mid.prefixes.items (c.args.number, c.args.prefix) _ c.if-self.false (c.make_room.ensures.stale ins h))
