-- The routes of the rows, by rising prefix, are the Loc-RIB.
use Rattle.std.proofs.Common.{◌≡◌, ℕ, Bool, true, false, cond, ◌&&◌, ◌||◌, Option, None, Some, IsSome, List, [], ◌∷◌, T, refl, sym, ap, ◌∙◌, subst}
use mathlib.Core.Bool.{true≢false}
use Rattle.std.specs.Prelude.{◌↔◌, IsTrue}
use Rattle.std.specs.FinMap as fin
use Rattle.std.specs.FinMap.Entries.{below_all, find, is_sorted, same_entries}
use Rattle.std.specs.List.{All, AllByRecursion, Contains, list_any}
use Rattle.std.specs.List.Sorted.{IsStrictlySortedBy}
use Rattle.std.specs.Map.{keys_of}
use Rattle.std.specs.Ordering.{is_lt}
use Rattle.std.specs.Cmp.{eq_by_cmp_equiv}
use Rattle.std.specs.declared.cmp.Ordering.TheVariants.{Less}
use Rattle.std.proofs.lemmas.List.Elements.{recursion_from_All}
use Rattle.std.proofs.lemmas.Map.Views.{Contains-from_any, list_any-from_Contains, tells_apart}
use Rattle.std.proofs.lemmas.Bool.{or_parts}
use Rattle.rs_octets.specs.Prefixes.{Prefix, prefix_order}
use Rattle.rs_attrs.specs.Meaning.{Attribute}
use Rattle.rs_adjin.specs.declared.adj_ins.AdjIns.{AdjIns}
use Rattle.rs_adjin.specs.AdjIns.{number_of}
use Rattle.rs_adjin.specs.Onward.{is_from}
use Rattle.rs_rows.specs.Rows.{Row}
use Rattle.rs_outlet.specs.Inside.{attributes_at, loc_of}
use Rattle.rs_outlet.specs.Listing.{routes_at, with_route}
use Rattle.rs_adjin.proofs.Listed.{exact_prefixes, prefixes_total}
use Rattle.rs_outlet.proofs.Decided.LocByNumber.{Numbered, by_number, same, same_is, value_at}
use Rattle.rs_outlet.proofs.Pending.Slots.{less_apart}

both : (a b : Bool) → T a → T b → T (a && b)
both true b h k = k
both false b h k = absurd h

module _ (rows : List (Option Row)) where
  below_one : (p q : Prefix) (o : Option (List Attribute)) (rest : List (Prefix × List Attribute)) → prefix_order p q ≡ Less → T (below_all prefix_order p rest) → T (below_all prefix_order p (with_route q o rest))
  below_one p q None rest less h = h
  below_one p q (Some m) rest less h = both _ _ (subst (λ r. T (is_lt r)) (sym less) tt) h

  below_routes : (p : Prefix) (es : List (Prefix × ℕ)) → AllByRecursion (λ q. prefix_order p q ≡ Less) (keys_of es) → T (below_all prefix_order p (routes_at rows es))
  below_routes p [] h = tt
  below_routes p (e ∷ es) h = below_one p e.0 (attributes_at rows e.1) (routes_at rows es) h.0 (below_routes p es h.1)

  rises_with : (p : Prefix) (o : Option (List Attribute)) (rest : List (Prefix × List Attribute)) → T (below_all prefix_order p rest) → T (is_sorted prefix_order rest) → T (is_sorted prefix_order (with_route p o rest))
  rises_with p None rest h k = k
  rises_with p (Some m) rest h k = both _ _ h k

  routes_rise : (es : List (Prefix × ℕ)) → IsStrictlySortedBy prefix_order (keys_of es) → T (is_sorted prefix_order (routes_at rows es))
  unfolding IsStrictlySortedBy
  routes_rise [] up = tt
  routes_rise (e ∷ es) up = rises_with e.0 (attributes_at rows e.1) (routes_at rows es) (below_routes e.0 es up.0) (routes_rise es up.1)

  -- ---- the route of a prefix

  find_with : (q p : Prefix) (o : Option (List Attribute)) (rest : List (Prefix × List Attribute)) (b : Bool) → same q p ≡ b → find prefix_order q rest ≡ cond b None (find prefix_order q rest) → find prefix_order q (with_route p o rest) ≡ cond b o (find prefix_order q rest)
  find_with q p None rest b is none = none
  find_with q p (Some m) rest b is none = ap (λ t. cond t (Some m) (find prefix_order q rest)) is

  unlisted : (q : Prefix) (es : List (Prefix × ℕ)) → list_any (same q) (keys_of es) ≡ false → find prefix_order q (routes_at rows es) ≡ None
  unlisted q [] h = refl
  unlisted q (e ∷ es) h =
      let apart = or_parts (same q e.0) (list_any (same q) (keys_of es)) h in
      find_with q e.0 (attributes_at rows e.1) (routes_at rows es) false apart.0 refl ∙ unlisted q es apart.1

  none_below : (p : Prefix) (qs : List Prefix) → AllByRecursion (λ q. prefix_order p q ≡ Less) qs → list_any (same p) qs ≡ false
  none_below p [] h = refl
  none_below p (q ∷ qs) h = λ i. less_apart (prefix_order p q) h.0 i || none_below p qs h.1 i

  listed : (ins : AdjIns) (q : Prefix) (es : List (Prefix × ℕ)) → IsStrictlySortedBy prefix_order (keys_of es) → AllByRecursion (λ e. number_of ins e.0 ≡ Some e.1) es → list_any (same q) (keys_of es) ≡ true
      → find prefix_order q (routes_at rows es) ≡ value_at rows (number_of ins q)
  unfolding IsStrictlySortedBy
  listed ins q [] up h there = absurd (true≢false (sym there))
  listed ins q (e ∷ es) up h there =
      elim (same q e.0) as (λ b. same q e.0 ≡ b → (b || list_any (same q) (keys_of es)) ≡ true → find prefix_order q (routes_at rows (e ∷ es)) ≡ value_at rows (number_of ins q)) [
        | true ↦ λ is _.
            let at = same_is q e.0 is in
            find_with q e.0 (attributes_at rows e.1) (routes_at rows es) true is (unlisted q es (ap (λ p. list_any (same p) (keys_of es)) at ∙ none_below e.0 (keys_of es) up.0))
            ∙ ap (value_at rows) (sym (ap (number_of ins) at ∙ h.0))
        | false ↦ λ is later. find_with q e.0 (attributes_at rows e.1) (routes_at rows es) false is refl ∙ listed ins q es up.1 h.1 later
      ] refl there

  found : (ins : AdjIns) (q : Prefix) (es : List (Prefix × ℕ)) → IsStrictlySortedBy prefix_order (keys_of es) → AllByRecursion (λ e. number_of ins e.0 ≡ Some e.1) es → (IsSome (number_of ins q) → Contains (keys_of es) q)
      → find prefix_order q (routes_at rows es) ≡ value_at rows (number_of ins q)
  found ins q es up numbers each = go (number_of ins q) refl
    where
      none_there : (b : Bool) → list_any (same q) (keys_of es) ≡ b → number_of ins q ≡ None → find prefix_order q (routes_at rows es) ≡ value_at rows (number_of ins q)
      none_there true there none = listed ins q es up numbers there
      none_there false there none = unlisted q es there ∙ ap (value_at rows) (sym none)

      go : (o : Option ℕ) → number_of ins q ≡ o → find prefix_order q (routes_at rows es) ≡ value_at rows (number_of ins q)
      go None is = none_there (list_any (same q) (keys_of es)) refl is
      go (Some n) is = listed ins q es up numbers (list_any-from_Contains (eq_by_cmp_equiv prefixes_total) q (keys_of es) (each (subst IsSome (sym is) refl)))

  pub routes_listed : (ins : AdjIns) (es : List (Prefix × ℕ)) → Numbered rows ins → IsStrictlySortedBy prefix_order (keys_of es) → All (λ e. number_of ins e.0 ≡ Some e.1) es
      → ((p : Prefix) → IsSome (number_of ins p) → Contains (keys_of es) p) → routes_at rows es ≡ fin.entries (loc_of rows)
  routes_listed ins es are up numbers each =
      same_entries prefix_order prefixes_total exact_prefixes (routes_at rows es) (fin.entries (loc_of rows)) (routes_rise es up) (fin.entries_sorted (loc_of rows))
      (λ q. found ins q es up (recursion_from_All (λ e. number_of ins e.0 ≡ Some e.1) es numbers) (each q) ∙ sym (by_number ins rows are q (number_of ins q) refl) ∙ fin.get-entries (loc_of rows) q)

  -- from a prefix on
  pub routes_listed_from : (ins : AdjIns) (from : Prefix) (es : List (Prefix × ℕ)) → Numbered rows ins → IsStrictlySortedBy prefix_order (keys_of es) → All (λ e. number_of ins e.0 ≡ Some e.1) es
      → ((p : Prefix) → Contains (keys_of es) p ↔ (IsTrue (is_from from p) × IsSome (number_of ins p))) → routes_at rows es ≡ fin.entries (fin.retain_keys (loc_of rows) (is_from from))
  routes_listed_from ins from es are up numbers each =
      same_entries prefix_order prefixes_total exact_prefixes (routes_at rows es) (fin.entries (fin.retain_keys (loc_of rows) (is_from from))) (routes_rise es up)
      (fin.entries_sorted (fin.retain_keys (loc_of rows) (is_from from)))
      (λ q. at q (is_from from q) refl ∙ sym (fin.get-retain_keys (loc_of rows) (is_from from) q (λ x e. ap (is_from from) (sym (exact_prefixes q x e)))) ∙ fin.get-entries (fin.retain_keys (loc_of rows) (is_from from)) q)
    where
      with_numbers : AllByRecursion (λ e. number_of ins e.0 ≡ Some e.1) es
      with_numbers = recursion_from_All (λ e. number_of ins e.0 ≡ Some e.1) es numbers

      before : (q : Prefix) (t : Bool) → list_any (same q) (keys_of es) ≡ t → is_from from q ≡ false → find prefix_order q (routes_at rows es) ≡ None
      before q true there out = absurd (true≢false (sym ((each q).0 (Contains-from_any (tells_apart exact_prefixes) q (keys_of es) there)).0 ∙ out))
      before q false there out = unlisted q es there

      at : (q : Prefix) (b : Bool) → is_from from q ≡ b → find prefix_order q (routes_at rows es) ≡ cond (is_from from q) (fin.get (loc_of rows) q) None
      at q true is = found ins q es up with_numbers (λ some. (each q).1 (is, some)) ∙ sym (by_number ins rows are q (number_of ins q) refl) ∙ ap (λ b. cond b (fin.get (loc_of rows) q) None) (sym is)
      at q false is = before q (list_any (same q) (keys_of es)) refl is ∙ ap (λ b. cond b (fin.get (loc_of rows) q) None) (sym is)
