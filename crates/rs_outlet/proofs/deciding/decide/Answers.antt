use Rattle.std.proofs.Common.{ℕ, ◌≡◌, List, ◌∷◌, [], IfOk, option_map, subst, sym, ap, ◌∙◌}
use Rattle.std.specs.Arc.{arc_value}
use Rattle.std.specs.List.{All}
use Rattle.std.proofs.lemmas.List.Elements.{All-head}
use Rattle.rs_attrs.specs.Meaning.{Attribute}
use Rattle.rs_adjin.specs.AdjIns.{ListsHolders}
use Rattle.rs_policy.specs.Noted.{note_of_import}
use Rattle.rs_outlet.specs.Decided.HeldBy.{held_by}
use Rattle.rs_outlet.specs.Decided.Passing.{attributes_passed}
use Rattle.rs_outlet.proofs.Decided.Ranks.{alone_is_due, due_unheld, held_alone, none_left, one_alone, sent}
use Rattle.rs_outlet.proofs.deciding.decide.Goals as goal

pub decide_alone-requires-clause-noted : goal.decide_alone-requires-clause-noted
decide_alone-requires-clause-noted c =
    let f = note_of_import c.args.sources.now.config.now in
    let p = c.args.prefix.now in
    let IsNoted : (ℕ × List Attribute) × ℕ → Type 0 = λ h. h.1 ≡ f h.0.0 p h.0.1 in
    All-head IsNoted ((c.in-Some.holder.client, arc_value c.in-Some.holder.attrs.now), c.in-Some.holder.note) c.next.new.self
    (subst (All IsNoted) c.in-Some.ensures.steps c.requires.notes)

pub returns-in-Some-clause-due : goal.returns-in-Some-clause-due
returns-in-Some-clause-due c =
    let ins = c.args.sources.now.ins.now in
    let p = c.args.prefix.now in
    let h : ℕ × List Attribute = (c.in-Some.holder.client, arc_value c.in-Some.holder.attrs.now) in
    let one : c.args.holders ≡ (h, c.in-Some.holder.note) ∷ [] = one_alone c.args.holders (h, c.in-Some.holder.note) c.next.new.self c.len.result c.in-Some.ensures.steps c.len.ensures c.if-len-ne1.false in
    let listed : ListsHolders ins p (h ∷ []) = subst (ListsHolders ins p) (ap sent one) c.requires.holders in
    subst (λ m. IfOk c.decide_alone.result (λ due. option_map attributes_passed due ≡ m))
    (alone_is_due (held_by c.args.sources.now) c.args.sources.now.client c.args.speech p h listed.all (held_alone ins p h listed.each)) c.decide_alone.ensures.due

pub returns-then-is_empty-clause-due : goal.returns-then-is_empty-clause-due
returns-then-is_empty-clause-due c =
    let listed : ListsHolders c.args.sources.now.ins.now c.args.prefix.now (sent c.args.holders) = c.requires.holders in
    sym (due_unheld (held_by c.args.sources.now) c.args.sources.now.client c.args.speech c.args.prefix.now
    (sym (ap sent (none_left c.args.holders (sym c.is_empty.ensures ∙ c.if-is_empty.true))) ∙ listed.all))
