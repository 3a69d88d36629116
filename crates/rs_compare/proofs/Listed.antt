-- The routes of a map, as a list by rising prefix.
use Rattle.std.proofs.Common.{◌≡◌, Bool, true, false, cond, ◌&&◌, T, List, [], ◌∷◌, refl, sym, subst}
use Rattle.std.specs.Prelude.{Option, Some, option_map, map}
use Rattle.std.specs.Arc.{arc_value}
use Rattle.std.specs.declared.sync.Arc.{Arc}
use Rattle.std.specs.Global.{Global}
use Rattle.std.specs.FinMap.Entries.{below_all, find, is_sorted}
use Rattle.std.specs.List.{AllByRecursion}
use Rattle.std.specs.List.Sorted.{IsStrictlySortedBy}
use Rattle.std.specs.Map.{keys_of, lookup}
use Rattle.std.specs.BTreeMap.{is_at}
use Rattle.std.specs.Ordering.{is_lt}
use Rattle.std.specs.declared.cmp.Ordering.TheVariants.{Less}
use Rattle.rs_octets.specs.Prefixes.{Prefix, prefix_order}
use Rattle.rs_attrs.specs.Meaning.{Attribute}

both : (a b : Bool) → T a → T b → T (a && b)
both true b h k = k
both false b h k = absurd h

-- a map's entries, with what its values stand for
abbrev pub shown : List (Prefix × Arc (List Attribute) Global) → List (Prefix × List Attribute)
shown es = map (λ e. (e.0, arc_value e.1)) es

below_shown : (p : Prefix) (es : List (Prefix × Arc (List Attribute) Global)) → AllByRecursion (λ q. prefix_order p q ≡ Less) (keys_of es) → T (below_all prefix_order p (shown es))
below_shown p [] h = tt
below_shown p (e ∷ es) h = both _ _ (subst (λ o. T (is_lt o)) (sym h.0) tt) (below_shown p es h.1)

pub rising_shown : (es : List (Prefix × Arc (List Attribute) Global)) → IsStrictlySortedBy prefix_order (keys_of es) → T (is_sorted prefix_order (shown es))
unfolding IsStrictlySortedBy
rising_shown [] up = tt
rising_shown (e ∷ es) up = both _ _ (below_shown e.0 es up.0) (rising_shown es up.1)

in_shown : (b : Bool) (m : Arc (List Attribute) Global) (o : Option (Arc (List Attribute) Global)) (n : Option (List Attribute)) → n ≡ option_map arc_value o → cond b (Some (arc_value m)) n ≡ option_map arc_value (cond b (Some m) o)
in_shown true m o n e = refl
in_shown false m o n e = e

pub found_shown : (p : Prefix) (es : List (Prefix × Arc (List Attribute) Global)) → find prefix_order p (shown es) ≡ option_map arc_value (lookup (is_at (prefix_order p)) es)
found_shown p [] = refl
found_shown p (e ∷ es) = in_shown (is_at (prefix_order p) e.0) e.1 (lookup (is_at (prefix_order p)) es) (find prefix_order p (shown es)) (found_shown p es)
