use Rattle.std.proofs.Common.{rules, ◌≡◌, Bool, ◌&&◌, false, sym, ap, ◌∙◌, nat_eq}
use Rattle.std.specs.Bool.{Decides}
use Rattle.std.specs.Cmp.Lexicographic.{pointwise}
use Rattle.std.proofs.lemmas.Bool.Decides.{Decides-at, same_from_decides}
use Rattle.rs_attrs.specs.ComparisonLaws.{attributes_decides}
use Rattle.rs_attrs.specs.Heads.{same_head}
use Rattle.rs_attrs.proofs.HeldComparison.{held_decides}
use Rattle.rs_attrs.proofs.attrs.AttrsPartialEq.eq.Goals as goal

pub returns-then-self-other-clause-value : goal.returns-then-self-other-clause-value
returns-then-self-other-clause-value c =
    let decides : Decides false (c.args.self.now ≡ c.args.other.now) = search rules in
    same_from_decides _ _ decides (attributes_decides c.args.self.now c.args.other.now)

pub returns-then-eq : goal.returns-then-eq
returns-then-eq c =
    let heads : Bool = pointwise same_head c.self.inside.heads.items c.other.inside.heads.items in
    let octets : Bool = pointwise nat_eq c.self.inside.values.items c.other.inside.values.items in
    let both : heads && octets ≡ c.have_same_octets.result =
    ap (λ b. b && octets) (sym c.eq.ensures ∙ c.if-eq.true)
    ∙ (λ i. pointwise nat_eq (sym c.deref.ensures.value i) (sym c.deref-then-eq.ensures.value i)) ∙ sym c.have_same_octets.ensures in
    let decides = Decides-at c.have_same_octets.result (heads && octets) (sym both) (held_decides _ _ _ _ _ _ c.self.invariant.size c.other.invariant.size c.self.view_is c.other.view_is) in
    record { value = same_from_decides _ _ decides (attributes_decides c.args.self.now c.args.other.now); decides = decides }

pub returns-else-eq : goal.returns-else-eq
returns-else-eq c =
    let heads : Bool = pointwise same_head c.self.inside.heads.items c.other.inside.heads.items in
    let octets : Bool = pointwise nat_eq c.self.inside.values.items c.other.inside.values.items in
    let both : heads && octets ≡ c.eq.result = ap (λ b. b && octets) (sym c.eq.ensures ∙ c.if-eq.false) ∙ sym c.if-eq.false in
    let decides = Decides-at c.eq.result (heads && octets) (sym both) (held_decides _ _ _ _ _ _ c.self.invariant.size c.other.invariant.size c.self.view_is c.other.view_is) in
    record { value = same_from_decides _ _ decides (attributes_decides c.args.self.now c.args.other.now); decides = decides }
