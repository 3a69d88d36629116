use Rattle.std.proofs.Common.{◌≡◌, ◌<◌, ◌*◌, ◌+◌, length, get_or, refl, sym, ap, subst, ◌∙◌, arith}
use Rattle.std.specs.Prelude.{List, Option, Some, None, IfSome}
use Rattle.rs_rows.specs.declared.part.Part.{Part}
use Rattle.rs_rows.specs.Rows.{Listed, Row, row_at}
use Rattle.rs_rows.proofs.Listing.{row_within, some_part}
use Rattle.rs_rows.proofs.blocks.Blocks.shared.Goals as goal

if_some_too : {A : Type 0} (P Q : A → Type 0) (o : Option A) → ((x : A) → P x → Q x) → IfSome o P → IfSome o Q
if_some_too P Q None each h = tt
if_some_too P Q (Some x) each h = each x h

pub returns : goal.returns
returns c =
    let ps = c.self.inside.parts.items in
    let k = c.args.place in
    let part = c.in_ok-get.field-0.now in
    let there = subst (λ (ps : List Part). part ≡ get_or ps k part) c.deref.ensures.value c.in_ok-get.ensures.lookup.1 in
    let below : k < length ps = omega (arith, c.in_ok-get.ensures.lookup.3.0, ap length c.deref.ensures.value) in
    if_some_too _ _ c.shared.result
    (λ block is i less.
    ap (λ (rows : List (Option Row)). row_at rows i) is ∙ sym (row_within ps k i (k * 16 + i) part refl (some_part ps k part below there) less)
    ∙ ap (λ (v : Listed). row_at v.items (k * 16 + i)) c.self.view_is)
    c.shared.ensures
