use Rattle.std.proofs.Common.{◌≡◌, ◌∙◌, ap, refl, length, [], ◌∷◌, ◌++◌, None, arith, rules}
use Rattle.rs_adjin.specs.SetNumbering.{attrs_at}
use Rattle.rs_adjin.proofs.SetRows.{push_here, push_any, inverse_same}
use Rattle.rs_adjin.proofs.sets.Sets.unused.Goals as goal

pub invariant_of-self-2 : goal.invariant_of-self-2
invariant_of-self-2 c =
    let mid = c.make_room-2.new.items.items in
    record {
      inverse = inverse_same _ c.args.self.now.rows.items c.push.new.self.items (λ m. push_any mid record { attrs = None } _ _ c.push.ensures.items refl m ∙ ap (λ xs. attrs_at xs m) c.make_room-2.ensures) c.args.self.now.inverse;
      counted = c.args.self.now.counted;
    }

pub returns-2-clause-unused : goal.returns-2-clause-unused
returns-2-clause-unused c =
    let rows = c.args.self.now.rows.items in
    let at : c.in-Ok.number ≡ length rows = search (rules, arith) in
    ap (λ xs. attrs_at xs c.in-Ok.number) (c.in_ok-push.ensures.items ∙ ap (λ xs. xs ++ record { attrs = None } ∷ []) c.make_room-2.ensures)
    ∙ (ap (attrs_at (rows ++ record { attrs = None } ∷ [])) at ∙ push_here rows record { attrs = None })
