use Rattle.std.proofs.Common.{◌≡◌, ◌∙◌, length, refl, subst, sym}
use Rattle.std.proofs.lemmas.List.{with_items_is}
use Rattle.rs_workers.specs.Turned.{AllTurnedAlone}
use Rattle.rs_core.proofs.Run.KeptFresh.{all_turned, turned_keeps}
use Rattle.rs_core.proofs.ribs.Ribs.turn_with.Goals as goal

pub returns-clause-turned : goal.returns-clause-turned
returns-clause-turned g c = λ h.
    let now = c.args.self.now in
    let new = c.turn_all.new.outlets in
    let len : length new ≡ now.outlets.len = c.turn_all.ensures.count ∙ c.as_mut_slice.ensures.len in
    let alone = subst (λ xs. AllTurnedAlone now.config now.tables xs new) c.as_mut_slice.ensures.value c.turn_all.ensures.turned in
    all_turned now.config now.tables now _ (subst (AllTurnedAlone now.config now.tables now.outlets.items) (sym (with_items_is now.outlets new len)) alone)

pub returns-clause-kept : goal.returns-clause-kept
returns-clause-kept g c =
    let now = c.args.self.now in
    let new = c.turn_all.new.outlets in
    let len : length new ≡ now.outlets.len = c.turn_all.ensures.count ∙ c.as_mut_slice.ensures.len in
    let alone = subst (λ xs. AllTurnedAlone now.config now.tables xs new) c.as_mut_slice.ensures.value c.turn_all.ensures.turned in
    turned_keeps now _ (record { count = refl; extended = refl; config = refl }) refl
    (all_turned now.config now.tables now _ (subst (AllTurnedAlone now.config now.tables now.outlets.items) (sym (with_items_is now.outlets new len)) alone))
