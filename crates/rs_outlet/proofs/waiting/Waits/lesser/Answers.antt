use Rattle.std.proofs.Common.{◌≡◌, ◌∙◌, length, refl, rules, sym}
use Rattle.std.specs.declared.cmp.Ordering.TheVariants.{Less, Equal, Greater}
use Rattle.std.proofs.lemmas.Option.{slice_get_read}
use Rattle.rs_outlet.proofs.Message.Collected.{lesser_first, lesser_late}
use Rattle.rs_outlet.proofs.waiting.Waits.lesser.Goals as goal

pub returns-in-Less-clause-least : goal.returns-in-Less-clause-least
returns-in-Less-clause-least c =
    let ws = c.args.self.now.slots.items in
    lesser_late ws c.args.self.now.sorted c.args.first c.args.late c.index.result.now c.index-2.result.now
    (slice_get_read ws (length ws) c.args.late c.index.result.now refl (search rules) c.index.ensures)
    (slice_get_read ws (length ws) c.args.first c.index-2.result.now refl (search rules) c.index-2.ensures)
    (sym c.cmp.ensures ∙ c.in-Less.is)

pub returns-in-Equal-clause-least : goal.returns-in-Equal-clause-least
returns-in-Equal-clause-least c =
    let ws = c.args.self.now.slots.items in
    lesser_first ws c.args.self.now.sorted c.args.first c.args.late c.index.result.now c.index-2.result.now
    (slice_get_read ws (length ws) c.args.late c.index.result.now refl (search rules) c.index.ensures)
    (slice_get_read ws (length ws) c.args.first c.index-2.result.now refl (search rules) c.index-2.ensures)
    (λ h. let f : Less ≡ Equal = sym h ∙ sym c.cmp.ensures ∙ c.in-Equal.is in cc)

pub returns-in-Greater-clause-least : goal.returns-in-Greater-clause-least
returns-in-Greater-clause-least c =
    let ws = c.args.self.now.slots.items in
    lesser_first ws c.args.self.now.sorted c.args.first c.args.late c.index.result.now c.index-2.result.now
    (slice_get_read ws (length ws) c.args.late c.index.result.now refl (search rules) c.index.ensures)
    (slice_get_read ws (length ws) c.args.first c.index-2.result.now refl (search rules) c.index-2.ensures)
    (λ h. let f : Less ≡ Greater = sym h ∙ sym c.cmp.ensures ∙ c.in-Greater.is in cc)
