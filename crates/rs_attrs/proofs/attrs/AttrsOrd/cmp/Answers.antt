use Rattle.std.proofs.Common.{◌≡◌, refl, sym, ap, ◌∙◌}
use Rattle.std.specs.Cmp.Lexicographic.{slice_cmp}
use Rattle.std.specs.Ordering.{nat_cmp, ordering_then}
use Rattle.std.specs.declared.cmp.Ordering.{Ordering}
use Rattle.std.specs.declared.cmp.Ordering.TheVariants.{Less, Equal, Greater}
use Rattle.rs_attrs.proofs.HeldComparison.{held_order}
use Rattle.rs_attrs.proofs.attrs.AttrsOrd.cmp.Goals as goal

unequal : (r o : Ordering) → (r ≡ Equal → ⊥) → r ≡ ordering_then r o
unequal Less o n = refl
unequal Equal o n = absurd (n refl)
unequal Greater o n = refl

pub returns-in-Equal : goal.returns-in-Equal
returns-in-Equal c =
    c.cmp-in-Equal.ensures ∙ ap (λ o. ordering_then o (slice_cmp nat_cmp c.self.inside.values.items c.other.inside.values.items)) (sym c.in-Equal.is ∙ c.cmp.ensures)
    ∙ held_order c.self.inside.heads.items c.other.inside.heads.items c.self.inside.values.items c.other.inside.values.items _ _ c.self.invariant.size c.other.invariant.size c.self.view_is c.other.view_is

pub returns-in_default : goal.returns-in_default
returns-in_default c =
    let octets : Ordering = slice_cmp nat_cmp c.self.inside.values.items c.other.inside.values.items in
    unequal c.cmp.result octets c.in_default.not-Equal ∙ ap (λ o. ordering_then o octets) c.cmp.ensures
    ∙ held_order c.self.inside.heads.items c.other.inside.heads.items c.self.inside.values.items c.other.inside.values.items _ _ c.self.invariant.size c.other.invariant.size c.self.view_is c.other.view_is
