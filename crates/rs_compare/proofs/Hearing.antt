-- The table that was heard, with an UPDATE more.
use Rattle.std.proofs.Common.{◌≡◌, ◌∙◌, ℕ, Bool, true, false, cond, ◌||◌, List, [], ◌∷◌, ◌++◌, refl, sym, ap}
use Rattle.std.specs.Prelude.{Option, Some, None}
use Rattle.std.specs.List.{AllZip}
use Rattle.rs_octets.specs.Prefixes.{Prefix}
use Rattle.rs_attrs.specs.Meaning.{Attribute}
use Rattle.rs_attrs.specs.declared.mode.Mode.{Mode}
use Rattle.rs_attrs.specs.Effects.{Change, Changes, HasEffect, MeansTable, attributes_after, has_prefix, is_empty, mentions, overlaid}
use Rattle.rs_attrs.proofs.Overlaying.{last_overlays}

laid : (w a : Bool) (m old : Option (List Attribute)) → cond a m (cond w None old) ≡ cond (w || a) (cond a m None) old
laid true true m old = refl
laid true false m old = refl
laid false true m old = refl
laid false false m old = refl

-- what is withdrawn is taken away, and then what is announced is given its attributes
pub laid_over : (change : Change) (old mid new : Prefix → Option (List Attribute)) → ((p : Prefix) → mid p ≡ cond (has_prefix p change.withdrawn) None (old p))
    → ((p : Prefix) → new p ≡ cond (has_prefix p change.announced) change.attributes (mid p)) → (p : Prefix) → new p ≡ overlaid old change p
laid_over change old mid new without with p =
    with p ∙ ap (cond (has_prefix p change.announced) change.attributes) (without p) ∙ laid (has_prefix p change.withdrawn) (has_prefix p change.announced) change.attributes (old p)

-- nothing is announced
pub none_laid : (announced : List Prefix) → is_empty announced ≡ true → (m : Option (List Attribute)) (table : Prefix → Option (List Attribute)) (p : Prefix) → table p ≡ cond (has_prefix p announced) m (table p)
none_laid [] e m table p = refl
none_laid (q ∷ ps) e m table p = absurd (cc e)

zip_more : {X Y : Type 0} (R : X → Y → Type 0) (xs : List X) (ys : List Y) (x : X) (y : Y) → AllZip R xs ys → R x y → AllZip R (xs ++ x ∷ []) (ys ++ y ∷ [])
zip_more R [] [] x y all one = (one, tt)
zip_more R [] (z ∷ ys) x y all one = absurd all
zip_more R (z ∷ xs) [] x y all one = absurd all
zip_more R (z ∷ xs) (v ∷ ys) x y all one = (all.0, zip_more R xs ys x y all.1 one)

pub means_more : (bodies : List (List ℕ)) (body : List ℕ) (mode : Mode) (change : Change) (old new : Prefix → Option (List Attribute))
    → MeansTable bodies mode old → HasEffect body mode (Changes change) → ((p : Prefix) → new p ≡ overlaid old change p) → MeansTable (bodies ++ body ∷ []) mode new
means_more bodies body mode change old new means effect laid = (
  means.0 ++ change ∷ [],
  zip_more (λ body change. HasEffect body mode (Changes change)) bodies means.0 body change means.1 effect,
  λ p. laid p ∙ ap (cond (mentions p change) (attributes_after p (Some change))) (means.2 p) ∙ sym (last_overlays means.0 change p),
)
