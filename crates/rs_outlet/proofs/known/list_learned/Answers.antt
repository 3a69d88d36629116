use Rattle.std.proofs.Common.{◌≡◌, ◌<◌, ◌∙◌, All, Some, refl, ap, sym, subst}
use Rattle.std.specs.Prelude.{option_map, option_copied, unwrap_or}
use Rattle.std.specs.Arc.{arc_value}
use Rattle.rs_adjin.specs.AdjIns.{ListsHolders, number_of}
use Rattle.rs_outlet.specs.declared.changes.Change.{Change}
use Rattle.rs_outlet.specs.Decided.HeldBy.{held_by}
use Rattle.rs_outlet.specs.Decided.News.{seen}
use Rattle.rs_outlet.specs.Decided.Precedents.{AreDueAlike}
use Rattle.rs_outlet.specs.Inside.{attributes_at}
use Rattle.rs_outlet.proofs.Answered.{map_copied}
use Rattle.rs_outlet.proofs.Decided.Numbering.{number_back}
use Rattle.rs_outlet.proofs.Decided.Precedents.{due_more, learned_here}
use Rattle.rs_outlet.proofs.Decided.Ranks.{sent}
use Rattle.rs_outlet.proofs.known.list_learned.Goals as goal
use Rattle.rs_outlet.proofs.known.list_learned.Goals.{in-Some-change+in_ok-due-in-Some-change, in-None+in_ok-due-in-None}

pub returns : goal.returns
returns c = λ speech so known.
    let s = c.args.sources.now in
    let t = held_by s in
    let n = c.args.number in
    let p = c.in-Some.prefix in
    let placed : number_of s.ins.now p ≡ Some n = number_back s.ins.now p n (sym c.prefix.ensures ∙ c.in-Some.is) in
    let hs = sent c.at_number-holders.result in
    let listed : ListsHolders s.ins.now p hs = c.at_number-holders.ensures.holders p placed in
    let due : option_map arc_value c.match-change.due ≡ unwrap_or (option_map (λ (c : Change). option_map arc_value c.due) (option_copied c.args.change)) (attributes_at c.args.rows.now.rows.items n) =
    elim c.match-change.branch [
      | in-Some-change+in_ok-due-in-Some-change w ↦
          ap (option_map arc_value) w.due-is ∙ w.in_ok-due-in-Some-change.ensures ∙ map_copied arc_value w.as_ref.result ∙ ap (option_map arc_value) w.as_ref.ensures.value
          ∙ sym (ap (λ o. unwrap_or (option_map (λ (c : Change). option_map arc_value c.due) (option_copied o)) (attributes_at c.args.rows.now.rows.items n)) w.in-Some-change.is)
      | in-None+in_ok-due-in-None w ↦
          ap (option_map arc_value) w.due-is ∙ w.in_ok-due-in-None.ensures ∙ w.attrs.ensures
          ∙ sym (ap (λ o. unwrap_or (option_map (λ (c : Change). option_map arc_value c.due) (option_copied o)) (attributes_at c.args.rows.now.rows.items n)) w.in-None.is)
    ] in
    subst (AreDueAlike t s.ins.now s.client speech) (sym c.in_ok-push.ensures.items)
    (due_more t s.ins.now s.client speech c.args.learned.now.items _ known
    (learned_here t s.ins.now s.client speech (seen (record { number = n; prefix = p; due = c.match-change.due })) hs listed.all
    (subst (λ n. All (λ h. h.0 < n) hs) c.requires.server.count listed.known) listed.each (c.may_ask_receivers.ensures c.if-may_ask_receivers.false)
    placed (c.if-not-is_absent.ensures refl p placed) (due ∙ so p placed)))
