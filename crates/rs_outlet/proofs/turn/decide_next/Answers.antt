use Rattle.std.proofs.Common.{◌≡◌, ◌∙◌, Some, ap, sym, subst}
use Rattle.std.specs.Prelude.{OnOk}
use Rattle.rs_adjin.specs.AdjIns.{number_of}
use Rattle.rs_outlet.specs.Decided.Due.{due_to}
use Rattle.rs_outlet.specs.Decided.HeldBy.{held_by}
use Rattle.rs_outlet.specs.Inside.{IsDecidedAt}
use Rattle.rs_outlet.proofs.Answered.{if_some_at}
use Rattle.rs_outlet.proofs.Decided.Precedents.{still_known}
use Rattle.rs_outlet.proofs.turn.decide_next.Goals as goal

pub returns-clause-changes : goal.returns-clause-changes
returns-clause-changes c =
    let s = c.args.sources.now in
    let t = held_by s in
    let k = c.in-Some.change.now in
    let h = if_some_at _ c.find.result c.in-Some.change c.in-Some.is (c.find.ensures.due c.args.speech c.requires.known) in
    let is : k.number ≡ c.args.number = if_some_at _ c.find.result c.in-Some.change c.in-Some.is c.find.ensures.number in
    let placed : number_of s.ins.now k.prefix ≡ Some c.args.number = h.placed ∙ ap (λ n. Some n) is in
    let due = sym (h.due (c.is_absent.ensures c.if-is_absent.true k.prefix placed)) in
    subst (λ n. OnOk c.list_known.result (IsDecidedAt s.ins.now (due_to t s.client c.args.speech) c.args.rows.now.rows.items n c.args.changes.now.items c.list_known.new.changes.items)) is
    (c.list_known.ensures s.ins.now (due_to t s.client c.args.speech) h.placed due)

pub returns-in_err-decide_number-clause-known : goal.returns-in_err-decide_number-clause-known
returns-in_err-decide_number-clause-known c =
    let s = c.args.sources.now in
    still_known (held_by s) s.ins.now s.client c.args.speech c.args.known.now _ c.find.ensures.rest c.requires.known

pub returns-2-clause-known : goal.returns-2-clause-known
returns-2-clause-known c =
    let s = c.args.sources.now in
    still_known (held_by s) s.ins.now s.client c.args.speech c.args.known.now _ c.find.ensures.rest c.requires.known

pub returns-then-is_unheld-clause-changes : goal.returns-then-is_unheld-clause-changes
returns-then-is_unheld-clause-changes c =
    let s = c.args.sources.now in
    c.list_gone.ensures (due_to (held_by s) s.client c.args.speech) (c.is_unheld.ensures c.if-is_unheld.true c.args.speech)

pub returns-clause-known : goal.returns-clause-known
returns-clause-known c =
    let s = c.args.sources.now in
    still_known (held_by s) s.ins.now s.client c.args.speech c.args.known.now _ c.find.ensures.rest c.requires.known
