use Rattle.std.proofs.Common.{◌∙◌, ◌-◌, List, ap, arith, drop, inr, length, refl, subst, sym, take, rules}
use Rattle.std.specs.List.Sorted.{IsStrictlySortedBy}
use Rattle.std.proofs.lemmas.List.{length-map}
use Rattle.std.proofs.lemmas.Option.{slice_get_read}
use Rattle.rs_octets.specs.Prefixes.{prefix_order}
use Rattle.rs_outlet.specs.declared.waiting.Wait.{Wait}
use Rattle.rs_outlet.specs.Pending.Slots.{open_at, prefixes_at}
use Rattle.rs_outlet.proofs.Pending.Reopened.{alone_there}
use Rattle.rs_outlet.proofs.Pending.TwoParts.{late_part}
use Rattle.rs_outlet.proofs.waiting.marking.reopen_slot.Goals as goal

pub open_in-requires : goal.open_in-requires
open_in-requires c =
    let k = c.args.sorted in
    subst (λ (zs : List Wait). IsStrictlySortedBy prefix_order (prefixes_at (take (length zs - k) (drop k zs)))) (sym c.deref.ensures.value)
    (late_part k c.args.slots.now.items c.requires.parts)

pub returns-then-is_none-clause-reopened : goal.returns-then-is_none-clause-reopened
returns-then-is_none-clause-reopened c =
    let k = c.args.sorted in
    let ws = c.args.slots.now.items in
    let was = c.index.result.now in
    let again = c.in-Some.ensures in
    let at = slice_get_read ws (length ws) c.args.slot was refl (omega (arith, c.requires.within, c.requires.parts.within, length-map ws (λ (w : Wait). w.prefix))) c.index.ensures in
    let same = again.is.prefix ∙ again.prefix in
    inr (record {
      was = was;
      wait = c.in-Some.wait;
      at = at;
      alone = alone_there k ws c.args.slot was c.requires.parts c.requires.within at again.shut
          (ap (λ q. open_at q (take (length ws - k) (drop k ws))) (sym same)
          ∙ ap (λ (zs : List Wait). open_at c.in-Some.wait.prefix (take (length zs - k) (drop k zs))) (sym c.deref.ensures.value) ∙ c.open_in.ensures.absent (search rules));
      again = again;
      reopened = refl;
    })
