use Rattle.std.proofs.Common.{◌≡◌, ◌∙◌, ap, length, refl, sym}
use mathlib.Core.Bool.{true≢false}
use Rattle.std.proofs.lemmas.Option.{slice_get_read}
use Rattle.rs_adjin.specs.AdjIns.{set_of}
use Rattle.rs_outlet.specs.declared.waiting.Due.TheVariants as due
use Rattle.rs_outlet.specs.declared.waiting.chains.Keyed.{Keyed}
use Rattle.rs_outlet.specs.Inside.{row_by, shown}
use Rattle.rs_outlet.specs.Pending.Chains.{key_by, or_none}
use Rattle.rs_outlet.proofs.Pending.Chains.{keyed_more, keyed_past}
use Rattle.rs_outlet.proofs.waiting.chains.list_keyed.Goals as goal

pub returns-then-not-wait : goal.returns-then-not-wait
returns-then-not-wait c = λ _ are.
    let ws = c.args.slots.now in
    keyed_past c.args.exact (set_of c.args.ins.now) c.args.rows.now.rows.items ws c.args.slot c.index-slots-slot.result c.args.order.now.items (slice_get_read ws (length ws) c.args.slot c.index-slots-slot.result refl c.requires c.index-slots-slot.is)
    (λ opened number hash is. true≢false (sym opened ∙ c.if-not-wait.true)) are

pub returns-in_default : goal.returns-in_default
returns-in_default c = λ _ are.
    let ws = c.args.slots.now in
    keyed_past c.args.exact (set_of c.args.ins.now) c.args.rows.now.rows.items ws c.args.slot c.index-slots-slot.result c.args.order.now.items (slice_get_read ws (length ws) c.args.slot c.index-slots-slot.result refl c.requires c.index-slots-slot.is)
    (λ opened number hash is. absurd (let f : due.Withdrawn ≡ due.Announced number hash = sym c.in_default.is ∙ is in cc)) are

pub returns : goal.returns
returns c = λ _ are.
    let ws = c.args.slots.now in
    let e : Keyed = record { key = c.in-Some.key; slot = c.in-Ok.slot } in
    keyed_more c.args.exact (set_of c.args.ins.now) c.args.rows.now.rows.items ws c.args.slot c.index-slots-slot.result c.args.order.now.items c.push_reserved.new.self.items e c.in-Announced.number c.in-Announced.hash
    (slice_get_read ws (length ws) c.args.slot c.index-slots-slot.result refl c.requires c.index-slots-slot.is) c.if-not-wait.false c.in-Announced.is
    (c.in-Some.ensures ∙ ap (λ d. key_by c.args.exact (set_of c.args.ins.now) (or_none (shown (row_by c.args.rows.now.rows.items d))) c.in-Announced.hash) (sym c.in-Announced.is))
    c.in-Ok.ensures.1 c.push_reserved.ensures.items are
