use Rattle.std.proofs.Common.{true, false, ◌≡◌, ◌∙◌, ℕ, List, ◌∷◌, Some, IsSome, None, ap, sym, subst, length, rules}
use Rattle.std.specs.Prelude.{Option, is_some, All}
use Rattle.std.specs.Arc.{arc_value}
use Rattle.std.proofs.lemmas.List.Elements.{All-from_recursion, recursion_from_All}
use Rattle.rs_octets.specs.Prefixes.{Prefix}
use Rattle.rs_attrs.specs.Meaning.{Attribute}
use Rattle.rs_adjin.specs.declared.adj_ins.AdjIns.{AdjIns}
use Rattle.rs_adjin.specs.AdjIns.{held_of, number_of}
use Rattle.rs_adjin.specs.Onward.{routes_held}
use Rattle.rs_adjin.proofs.RoutesHeld.{held_first}
use Rattle.rs_adjin.proofs.held_routes.HeldRoutesIterator.next.Goals as goal

abbrev IsEntry : AdjIns → ℕ → Prefix × ℕ → Type 0
IsEntry ins client e = (number_of ins e.0 ≡ Some e.1) × IsSome (held_of ins client e.0)

parts : (ins : AdjIns) (client : ℕ) (es rest : List (Prefix × ℕ)) (e : Prefix × ℕ) → All (IsEntry ins client) es → es ≡ e ∷ rest → IsEntry ins client e × All (IsEntry ins client) rest
parts ins client es rest e all is =
    let both = recursion_from_All (IsEntry ins client) (e ∷ rest) (subst (All (IsEntry ins client)) is all) in
    (both.0, All-from_recursion (IsEntry ins client) rest both.1)

taken : (ins : AdjIns) (client : ℕ) (was : List (Prefix × List Attribute)) (es rest : List (Prefix × ℕ)) (e : Prefix × ℕ) (m : List Attribute) → routes_held (held_of ins client) es ≡ was → es ≡ e ∷ rest → Some m ≡ held_of ins client e.0
    → was ≡ (e.0, m) ∷ routes_held (held_of ins client) rest
taken ins client was es rest e m view is route = sym view ∙ ap (routes_held (held_of ins client)) is ∙ held_first (held_of ins client) e rest m (sym route)

none_held : (o : Option (List Attribute)) → None ≡ o → IsSome o → ⊥
none_held o none some = let e : true ≡ false = sym some ∙ ap is_some (sym none) in (cc)

pub returns-in_err-attrs-clause-steps : goal.returns-in_err-attrs-clause-steps
returns-in_err-attrs-clause-steps c =
    let k = parts c.self.inside.ins.now c.self.inside.client c.self.inside.prefixes c.next.new.self (c.in_ok-prefix.prefix, c.in_ok-prefix.number) c.self.invariant c.in_ok-prefix.ensures.steps in
    absurd (none_held (held_of c.self.inside.ins.now c.self.inside.client c.in_ok-prefix.prefix) (c.in_err-attrs.ensures c.in_ok-prefix.prefix k.0.0) k.0.1)

pub invariant_of-self-2 : goal.invariant_of-self-2
invariant_of-self-2 c = (parts c.self.inside.ins.now c.self.inside.client c.self.inside.prefixes c.next.new.self (c.in_ok-prefix.prefix, c.in_ok-prefix.number) c.self.invariant c.in_ok-prefix.ensures.steps).1

pub returns-clause-steps : goal.returns-clause-steps
returns-clause-steps c =
    let k = parts c.self.inside.ins.now c.self.inside.client c.self.inside.prefixes c.next.new.self (c.in_ok-prefix.prefix, c.in_ok-prefix.number) c.self.invariant c.in_ok-prefix.ensures.steps in
    taken c.self.inside.ins.now c.self.inside.client c.args.self.now c.self.inside.prefixes c.next.new.self (c.in_ok-prefix.prefix, c.in_ok-prefix.number) (arc_value c.in_ok-attrs.attrs.now) c.self.view_is c.in_ok-prefix.ensures.steps
    (c.in_ok-attrs.ensures c.in_ok-prefix.prefix k.0.0)

pub returns-clause-goes : goal.returns-clause-goes
returns-clause-goes c =
    let k = parts c.self.inside.ins.now c.self.inside.client c.self.inside.prefixes c.next.new.self (c.in_ok-prefix.prefix, c.in_ok-prefix.number) c.self.invariant c.in_ok-prefix.ensures.steps in
    let shorter = ap length (
    taken c.self.inside.ins.now c.self.inside.client c.args.self.now c.self.inside.prefixes c.next.new.self (c.in_ok-prefix.prefix, c.in_ok-prefix.number) (arc_value c.in_ok-attrs.attrs.now) c.self.view_is c.in_ok-prefix.ensures.steps
    (c.in_ok-attrs.ensures c.in_ok-prefix.prefix k.0.0)) in
    search rules
