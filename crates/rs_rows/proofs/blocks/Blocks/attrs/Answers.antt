use Rattle.std.proofs.Common.{◌≡◌, ◌≤◌, ◌<◌, ◌/◌, length, get_or, sym, ap, subst, ◌∙◌, arith}
use Rattle.std.specs.Prelude.{List}
use Rattle.rs_rows.specs.declared.part.Part.{Part}
use Rattle.rs_rows.specs.Rows.{Listed, row_at, shown}
use Rattle.rs_rows.proofs.Listing.{no_part, row_nowhere, row_there, some_part}
use Rattle.rs_rows.proofs.blocks.Blocks.attrs.Goals as goal

pub returns-in-None : goal.returns-in-None
returns-in-None c =
    let past : length c.self.inside.parts.items ≤ c.args.number / 16 = omega (arith, c.in-None.ensures.lookup.3, ap length c.deref.ensures.value) in
    ap shown (sym (row_nowhere c.self.inside.parts.items c.args.number (no_part c.self.inside.parts.items (c.args.number / 16) past)))
    ∙ ap (λ (v : Listed). shown (row_at v.items c.args.number)) c.self.view_is

pub returns-in-Some : goal.returns-in-Some
returns-in-Some c =
    let k = c.args.number / 16 in
    let there = subst (λ (ps : List Part). c.in-Some.part.now ≡ get_or ps k c.in-Some.part.now) c.deref.ensures.value c.in-Some.ensures.lookup.1 in
    let below : k < length c.self.inside.parts.items = omega (arith, c.in-Some.ensures.lookup.3.0, ap length c.deref.ensures.value) in
    c.attrs.ensures ∙ ap shown (sym (row_there c.self.inside.parts.items c.args.number c.in-Some.part.now (some_part c.self.inside.parts.items k c.in-Some.part.now below there)))
    ∙ ap (λ (v : Listed). shown (row_at v.items c.args.number)) c.self.view_is
