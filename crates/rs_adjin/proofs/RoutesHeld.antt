-- The routes of listed prefixes, as a table.
use Rattle.std.proofs.Common.{Bool, true, false, cond, ◌≡◌, ◌&&◌, ◌||◌, ℕ, List, [], ◌∷◌, T, refl, sym, ◌∙◌, ap, subst, inl, inr}
use Rattle.std.specs.Prelude.{Option, Some, None, IsSome, IsTrue, All, Contains, ◌↔◌, option_map, if◌then◌else◌}
use Rattle.std.specs.FinMap.{find, is_sorted}
use Rattle.std.specs.FinMap.Entries.{below_all}
use Rattle.std.specs.List.{AllByRecursion, cons_option, list_any}
use Rattle.std.specs.List.Sorted.{IsStrictlySortedBy}
use Rattle.std.specs.Map.{keys_of}
use Rattle.std.specs.Ordering.{eq_by_cmp, is_lt}
use Rattle.std.specs.Cmp.{eq_by_cmp_equiv}
use Rattle.std.specs.declared.cmp.Ordering.TheVariants.{Less}
use Rattle.std.proofs.lemmas.List.Elements.{All-from_recursion}
use Rattle.std.proofs.lemmas.Map.Views.{Contains-from_any, list_any-from_Contains, tells_apart}
use Rattle.rs_octets.specs.Prefixes.{Prefix, prefix_order}
use Rattle.rs_octets.proofs.Members.{Has, contains}
use Rattle.rs_attrs.specs.Meaning.{Attribute}
use Rattle.rs_adjin.specs.Onward.{is_from, routes_held}
use Rattle.rs_adjin.proofs.Listed.{prefixes_total, exact_prefixes}

abbrev Routes : Type 0
Routes = List (Prefix × List Attribute)

abbrev same : Prefix → Prefix → Bool
same = eq_by_cmp prefix_order

both : (a b : Bool) → T a → T b → T (a && b)
both true b h k = k
both false b h k = absurd h

abbrev with_held : Prefix → Option (List Attribute) → Routes → Routes
with_held p o rest = cons_option (option_map (λ m. (p, m)) o) rest

module _ (f : Prefix → Option (List Attribute)) where
  -- ---- rising prefixes

  below_one : (p q : Prefix) (o : Option (List Attribute)) (rest : Routes) → prefix_order p q ≡ Less → T (below_all prefix_order p rest) → T (below_all prefix_order p (with_held q o rest))
  below_one p q None rest less h = h
  below_one p q (Some m) rest less h = both _ _ (subst (λ r. T (is_lt r)) (sym less) tt) h

  below_held : (p : Prefix) (es : List (Prefix × ℕ)) → AllByRecursion (λ q. prefix_order p q ≡ Less) (keys_of es) → T (below_all prefix_order p (routes_held f es))
  below_held p [] h = tt
  below_held p (e ∷ es) h = below_one p e.0 (f e.0) (routes_held f es) h.0 (below_held p es h.1)

  rises_with : (p : Prefix) (o : Option (List Attribute)) (rest : Routes) → T (below_all prefix_order p rest) → T (is_sorted prefix_order rest) → T (is_sorted prefix_order (with_held p o rest))
  rises_with p None rest h k = k
  rises_with p (Some m) rest h k = both _ _ h k

  pub held_rise : (es : List (Prefix × ℕ)) → IsStrictlySortedBy prefix_order (keys_of es) → T (is_sorted prefix_order (routes_held f es))
  unfolding IsStrictlySortedBy
  held_rise [] up = tt
  held_rise (e ∷ es) up = rises_with e.0 (f e.0) (routes_held f es) (below_held e.0 es up.0) (held_rise es up.1)

  -- ---- the route of a prefix

  none_either : (b : Bool) (v : Option (List Attribute)) → v ≡ None → cond b v None ≡ v
  none_either true v none = refl
  none_either false v none = sym none

  find_at : (q p : Prefix) (o v : Option (List Attribute)) (rest : Routes) (more b : Bool) → same q p ≡ b → find prefix_order q rest ≡ cond more v None → (b ≡ true → v ≡ o) → find prefix_order q (with_held p o rest) ≡ cond (b || more) v None
  find_at q p None v rest more false is h at = h
  find_at q p None v rest more true is h at = h ∙ none_either more v (at refl)
  find_at q p (Some m) v rest more false is h at = ap (λ t. cond t (Some m) (find prefix_order q rest)) is ∙ h
  find_at q p (Some m) v rest more true is h at = ap (λ t. cond t (Some m) (find prefix_order q rest)) is ∙ sym (at refl)

  find_held : (q : Prefix) (es : List (Prefix × ℕ)) → find prefix_order q (routes_held f es) ≡ cond (list_any (same q) (keys_of es)) (f q) None
  find_held q [] = refl
  find_held q (e ∷ es) = find_at q e.0 (f e.0) (f q) (routes_held f es) (list_any (same q) (keys_of es)) (same q e.0) refl (find_held q es) (λ is. ap f (tells_apart exact_prefixes q e.0 is))

  -- from a prefix on
  pub held_found : (from : Prefix) (es : List (Prefix × ℕ)) → ((p : Prefix) → Contains (keys_of es) p ↔ (IsTrue (is_from from p) × IsSome (f p))) → (q : Prefix) → find prefix_order q (routes_held f es) ≡ (if is_from from q then f q else None)
  held_found from es each q = find_held q es ∙ go (list_any (same q) (keys_of es)) refl (is_from from q) refl (f q) refl
    where
      listed : list_any (same q) (keys_of es) ≡ true → Contains (keys_of es) q
      listed is = Contains-from_any (tells_apart exact_prefixes) q (keys_of es) is

      unlisted : list_any (same q) (keys_of es) ≡ false → Contains (keys_of es) q → ⊥
      unlisted is h = let e : true ≡ false = sym (list_any-from_Contains (eq_by_cmp_equiv prefixes_total) q (keys_of es) h) ∙ is in (cc)

      go : (t : Bool) → list_any (same q) (keys_of es) ≡ t → (b : Bool) → is_from from q ≡ b → (o : Option (List Attribute)) → f q ≡ o → cond t o None ≡ (if b then o else None)
      go true is true at o there = refl
      go true is false at o there = absurd (let e : true ≡ false = sym ((each q).0 (listed is)).0 ∙ at in (cc))
      go false is true at None there = refl
      go false is true at (Some m) there = absurd (unlisted is ((each q).1 (at, subst IsSome (sym there) refl)))
      go false is false at o there = refl

  -- each of the listed prefixes has a route
  pub held_each : (es : List (Prefix × ℕ)) → ((p : Prefix) → Contains (keys_of es) p → IsSome (f p)) → All (λ (e : Prefix × ℕ). IsSome (f e.0)) es
  held_each es some = All-from_recursion (λ (e : Prefix × ℕ). IsSome (f e.0)) es (go es (λ p h. some p (contains _ p h)))
    where
      go : (es : List (Prefix × ℕ)) → ((p : Prefix) → Has (keys_of es) p → IsSome (f p)) → AllByRecursion (λ (e : Prefix × ℕ). IsSome (f e.0)) es
      go [] some = tt
      go (e ∷ es) some = (some e.0 (inl refl), go es (λ p h. some p (inr h)))

  -- the route of the first
  pub held_first : (e : Prefix × ℕ) (es : List (Prefix × ℕ)) (m : List Attribute) → f e.0 ≡ Some m → routes_held f (e ∷ es) ≡ (e.0, m) ∷ routes_held f es
  held_first e es m is = ap (λ o. with_held e.0 o (routes_held f es)) is
