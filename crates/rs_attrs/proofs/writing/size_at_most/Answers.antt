use Rattle.std.proofs.Common.{◌≡◌, ◌∙◌, length, ap, sym, arith}
use Rattle.std.specs.List.{flat_map}
use Rattle.rs_attrs.specs.Held.{attributes_in}
use Rattle.rs_attrs.specs.Writing.{attribute_octets, spelt}
use Rattle.rs_attrs.proofs.HeldLemmas.{held_count, spelt_about}
use Rattle.rs_attrs.proofs.writing.size_at_most.Goals as goal

spelling : (c : goal.After-deref-values) → length (spelt c.args.attrs.now c.args.mode) ≡ length (flat_map attribute_octets (attributes_in c.attrs.inside.heads.items c.attrs.inside.values.items))
spelling c = ap (λ mode. length (spelt c.args.attrs.now mode)) c.in-Four.is ∙ ap (λ m. length (flat_map attribute_octets m)) (sym c.attrs.view_is)

pub returns-in-Four-clause-most : goal.returns-in-Four-clause-most
returns-in-Four-clause-most c =
    let about = spelt_about c.attrs.inside.heads.items c.attrs.inside.values.items c.attrs.invariant.size in
    omega (arith, spelling c, ap length c.deref-heads.ensures.value, ap length c.deref-values.ensures.value, about.most)

pub returns-in-Four-clause-near : goal.returns-in-Four-clause-near
returns-in-Four-clause-near c =
    let about = spelt_about c.attrs.inside.heads.items c.attrs.inside.values.items c.attrs.invariant.size in
    let count = ap length (sym c.attrs.view_is) ∙ held_count c.attrs.inside.heads.items c.attrs.inside.values.items in
    omega (arith, spelling c, count, ap length c.deref-heads.ensures.value, ap length c.deref-values.ensures.value, about.near)
