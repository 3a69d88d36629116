-- Of entries in prefix order those from a prefix on.
use Rattle.std.proofs.Common.{Bool, true, false, cond, ◌≡◌, ◌&&◌, List, [], ◌∷◌, refl, ap, inl, inr}
use Rattle.std.specs.List.{filter}
use Rattle.std.specs.Map.{keys_of}
use Rattle.std.specs.BTreeMap.Range.{entries_between}
use Rattle.std.specs.declared.ops.Bound.TheVariants.{Included, Unbounded}
use Rattle.std.proofs.lemmas.List.Elements.{filter_agree}
use Rattle.rs_octets.specs.Prefixes.{Prefix, prefix_order}
use Rattle.rs_octets.proofs.Members.{Has}
use Rattle.rs_adjin.specs.Onward.{is_from}

and_true : (b : Bool) → (b && true) ≡ b
and_true true = refl
and_true false = refl

module _ {X : Type 0} where
  pub all_between : (es : List (Prefix × X)) → entries_between prefix_order Unbounded Unbounded es ≡ es
  all_between [] = refl
  all_between (e ∷ es) = ap (λ others. e ∷ others) (all_between es)

  abbrev pub from_on : Prefix → List (Prefix × X) → List (Prefix × X)
  from_on from es = filter (λ e. is_from from e.0) es

  pub between_from : (from : Prefix) (es : List (Prefix × X)) → entries_between prefix_order (Included from) Unbounded es ≡ from_on from es
  between_from from es = filter_agree _ _ (λ e. and_true (is_from from e.0)) es

  pub keys_from : (from : Prefix) (es : List (Prefix × X)) → keys_of (from_on from es) ≡ filter (is_from from) (keys_of es)
  keys_from from [] = refl
  keys_from from (e ∷ es) = one (is_from from e.0) (keys_from from es)
    where
      one : (b : Bool) → keys_of (from_on from es) ≡ filter (is_from from) (keys_of es) → keys_of (cond b (e ∷ from_on from es) (from_on from es)) ≡ cond b (e.0 ∷ filter (is_from from) (keys_of es)) (filter (is_from from) (keys_of es))
      one true rest = ap (λ ps. e.0 ∷ ps) rest
      one false rest = rest

  -- a key of some of the entries is one of theirs
  pub keys_among : (test : Prefix × X → Bool) (es : List (Prefix × X)) (p : Prefix) → Has (keys_of (filter test es)) p → Has (keys_of es) p
  keys_among test [] p h = h
  keys_among test (e ∷ es) p h = one (test e) (keys_among test es p) h
    where
      one : (b : Bool) → (Has (keys_of (filter test es)) p → Has (keys_of es) p) → Has (keys_of (cond b (e ∷ filter test es) (filter test es))) p → Has (keys_of (e ∷ es)) p
      one true rest (inl is) = inl is
      one true rest (inr h) = inr (rest h)
      one false rest h = inr (rest h)
