use Rattle.std.proofs.Common.{◌≡◌, ◌∙◌, List, ap, length, refl, rules, sym}
use Rattle.std.specs.Prelude.{slice_get, Some}
use Rattle.std.proofs.lemmas.Option.{slice_get_read}
use Rattle.rs_outlet.specs.declared.waiting.Wait.{Wait}
use Rattle.rs_outlet.proofs.Pending.Reopened.{waits_here}
use Rattle.rs_outlet.proofs.waiting.Waits.find_from.Goals as goal

pub returns-then-eq : goal.returns-then-eq
returns-then-eq c = λ _.
    let ws = c.args.self.now.slots.items in
    let wait = c.in-Some.wait.now in
    let there = slice_get_read c.deref.result.now (length c.deref.result.now) c.args.slot wait refl c.in-Some.ensures.lookup.3.0 c.in-Some.ensures.lookup.1 in
    let at : slice_get ws c.args.slot ≡ Some wait = ap (λ (zs : List Wait). slice_get zs c.args.slot) (sym c.deref.ensures.value) ∙ there in
    waits_here c.args.prefix.now ws c.args.slot wait at c.if-wait.true (search rules)
