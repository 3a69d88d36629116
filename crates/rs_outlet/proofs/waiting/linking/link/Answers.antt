use Rattle.std.proofs.Common.{◌≡◌, ◌∙◌, ◌==◌, Some, ap, arith, false, get_or, length, refl, sym}
use Rattle.std.specs.Prelude.{slice_get}
use Rattle.std.proofs.lemmas.Bool.Decides.{nat_tests}
use Rattle.std.proofs.lemmas.List.{get_or_default}
use Rattle.std.proofs.lemmas.Option.{slice_get_read}
use Rattle.rs_outlet.specs.declared.waiting.Wait.{Wait}
use Rattle.rs_outlet.specs.declared.waiting.chains.Keyed.{Keyed}
use Rattle.rs_outlet.specs.Pending.Slots.{hash_of}
use Rattle.rs_outlet.specs.Pending.Linking.{no_slot}
use Rattle.rs_outlet.proofs.Pending.Linking.{by_hash_more, met_more}
use Rattle.rs_outlet.proofs.waiting.linking.link.Goals as goal

pub returns-clause-met : goal.returns-clause-met
returns-clause-met c =
    let ws = c.args.slots.now in
    let w : Wait = c.index-slots-slot.result in
    let from : slice_get ws c.args.slot ≡ Some w = slice_get_read ws (length ws) c.args.slot w refl c.requires c.index-slots-slot.is in
    let table = c.args.table.now in
    let p = c.in-Some.place in
    let e : Keyed = get_or table p (record { key = 0; slot = 0 }) in
    let here : slice_get table p ≡ Some e = slice_get_read table (length table) p e refl c.if-place-table.false (get_or_default table p (record { key = 0; slot = 0 }) e c.if-place-table.false) in
    let free : (c.args.slot == no_slot) ≡ false = grind (arith, nat_tests, c.if-slot.false) in
    λ _. met_more c.args.slots.now c.args.slot c.in-Announced.hash p w table e (record { key = c.in-Announced.hash; slot = c.args.slot }) from (ap hash_of c.in-Announced.is) (sym c.place_of.ensures ∙ c.in-Some.is) here refl refl free

pub returns-clause-by_hash : goal.returns-clause-by_hash
returns-clause-by_hash c =
    let ws = c.args.slots.now in
    let w : Wait = c.index-slots-slot.result in
    let from : slice_get ws c.args.slot ≡ Some w = slice_get_read ws (length ws) c.args.slot w refl c.requires c.index-slots-slot.is in
    let table = c.args.table.now in
    let p = c.in-Some.place in
    let e : Keyed = get_or table p (record { key = 0; slot = 0 }) in
    let here : slice_get table p ≡ Some e = slice_get_read table (length table) p e refl c.if-place-table.false (get_or_default table p (record { key = 0; slot = 0 }) e c.if-place-table.false) in
    λ _. by_hash_more c.args.slots.now c.args.slot c.in-Announced.hash p w table e e from (ap hash_of c.in-Announced.is) (sym c.place_of.ensures ∙ c.in-Some.is) here c.args.chains.now
