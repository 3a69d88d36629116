-- The trees of sets of attributes: made, and written at one set.
use Rattle.std.proofs.Common.{Bool, true, false, cond, ◌≡◌, ◌≢◌, ◌++◌, ◌%◌, ℕ, zero, suc, List, [], ◌∷◌, refl, sym, ◌∙◌, ap, subst, inl, inr}
use Rattle.std.specs.Prelude.{Option, Some, None, slice_get, slice_set, if◌then◌else◌}
use Rattle.std.specs.Map.{lookup}
use Rattle.std.specs.BTreeMap.{get, get_by, is_at}
use Rattle.std.specs.Arc.{arc_value, arc_with_value}
use Rattle.std.specs.declared.sync.Arc.{Arc}
use Rattle.std.specs.Global.{Global}
use Rattle.std.specs.Ordering.{nat_cmp, ordering_then, is_eq}
use Rattle.std.specs.declared.cmp.Ordering.{Ordering}
use Rattle.std.specs.declared.cmp.Ordering.TheVariants.{Less, Equal, Greater}
use Rattle.std.proofs.lemmas.Bool.{cases_eq}
use Rattle.std.specs.Cmp.{nat_cmp_total, tied_itself}
use Rattle.rs_attrs.specs.Comparing.{attributes_cmp, attributes_hash}
use Rattle.rs_adjin.proofs.TableRows.{set_here, set_apart}
use Rattle.rs_adjin.proofs.SetRows.{Attributes, attrs_is, at_itself}
use Rattle.rs_adjin.specs.SetNumbering.{Tree, number_within, Writes}
use Rattle.rs_adjin.specs.declared.set_numbers.TheConstants.{TREES}

abbrev pub Key : Type 0
Key = ℕ × Arc Attributes Global

abbrev pub key_cmp : Key → Key → Ordering
key_cmp x y = ordering_then (nat_cmp x.0 y.0) (attributes_cmp (arc_value x.1) (arc_value y.1))

-- where attributes stand
abbrev pub place_for : Attributes → ℕ
place_for m = attributes_hash m % TREES

-- the number of attributes in these trees
abbrev pub number_among : List Tree → Attributes → Option ℕ
number_among trees m = number_within (slice_get trees (place_for m)) m

-- ---- an empty tree added

pub push_tree : (trees : List Tree) (t : Tree) (n : ℕ) (m : Attributes) → t.entries ≡ [] → number_within (slice_get (trees ++ t ∷ []) n) m ≡ number_within (slice_get trees n) m
push_tree [] t zero m empty = ap (λ es. lookup (is_at (λ (k : Key). ordering_then (nat_cmp (attributes_hash m) k.0) (attributes_cmp m (arc_value k.1)))) es) empty
push_tree [] t (suc n) m empty = refl
push_tree (x ∷ trees) t zero m empty = refl
push_tree (x ∷ trees) t (suc n) m empty = push_tree trees t n m empty

-- pushed, or memory was refused
pub push_any_tree : (trees : List Tree) (t : Tree) (b : Bool) (new : List Tree) → new ≡ (if b then trees ++ t ∷ [] else trees) → t.entries ≡ [] → (m : Attributes) → number_among new m ≡ number_among trees m
push_any_tree trees t true new is empty m = ap (λ xs. number_among xs m) is ∙ push_tree trees t (place_for m) m empty
push_any_tree trees t false new is empty m = ap (λ xs. number_among xs m) is

-- ---- keys compared

abbrev pub by_hash : Attributes → Attributes → Ordering
by_hash p q = ordering_then (nat_cmp (attributes_hash p) (attributes_hash q)) (attributes_cmp p q)

then_false : (r s : Ordering) → is_eq s ≡ false → is_eq (ordering_then r s) ≡ false
then_false Less s other = refl
then_false Equal s other = other
then_false Greater s other = refl

-- the hash first tells nobody apart whom the attributes don't
at_hash : (p q : Attributes) → is_at (by_hash p) q ≡ is_at (attributes_cmp p) q
at_hash p q = elim (attrs_is p q) [
  | inl e ↦ subst (λ x. is_at (by_hash p) x ≡ is_at (attributes_cmp p) x) (sym e) (ap (λ o. is_eq (ordering_then o (attributes_cmp p p))) (tied_itself nat_cmp_total (attributes_hash p)))
  | inr other ↦ then_false (nat_cmp (attributes_hash p) (attributes_hash q)) (attributes_cmp p q) other ∙ sym other
]

-- a look-up of the key of attributes is one of them
pub found_within : (tree : Tree) (k : Key) (p : Attributes) → k.0 ≡ attributes_hash p → arc_value k.1 ≡ p → get key_cmp tree k ≡ number_within (Some tree) p
found_within tree k p hashed is = λ i. get_by (λ (q : Key). ordering_then (nat_cmp (hashed i) q.0) (attributes_cmp (is i) (arc_value q.1))) tree

-- ---- one tree written

module _ (trees : List Tree) (n : ℕ) (old new : Tree) (p : Attributes) (k : Key) (hashed : k.0 ≡ attributes_hash p) (is : arc_value k.1 ≡ p) (place : n ≡ place_for p) (read : slice_get trees n ≡ Some old) where
  pub found_among : get key_cmp old k ≡ number_among trees p
  found_among = found_within old k p hashed is ∙ ap (λ t. number_within t p) (sym read ∙ ap (slice_get trees) place)

  there : (q : Attributes) → place_for q ≡ n → number_among (slice_set trees n new) q ≡ get key_cmp new (attributes_hash q, arc_with_value k.1 q)
  there q e = ap (λ t. number_within t q) (ap (slice_get (slice_set trees n new)) e ∙ set_here trees n new old read)

  there_before : (q : Attributes) → place_for q ≡ n → get key_cmp old (attributes_hash q, arc_with_value k.1 q) ≡ number_among trees q
  there_before q e = ap (λ t. number_within t q) (sym read ∙ ap (slice_get trees) (sym e))

  elsewhere : (q : Attributes) → place_for q ≢ n → number_among (slice_set trees n new) q ≡ number_among trees q
  elsewhere q ne = ap (λ t. number_within t q) (set_apart trees n new (place_for q) ne)

  -- a tree with the entries that it had
  pub same_among : new.entries ≡ old.entries → (q : Attributes) → number_among (slice_set trees n new) q ≡ number_among trees q
  same_among same q = elim (cases_eq (place_for q) n) [
    | inl e ↦ there q e ∙ (ap (lookup (is_at (λ (x : Key). key_cmp (attributes_hash q, arc_with_value k.1 q) x))) same ∙ there_before q e)
    | inr ne ↦ elsewhere q ne
  ]

  at_key : (q : Attributes) → is_at (key_cmp k) (attributes_hash q, arc_with_value k.1 q) ≡ is_at (attributes_cmp p) q
  at_key q = ap (λ h. is_eq (ordering_then (nat_cmp h (attributes_hash q)) (attributes_cmp (arc_value k.1) q))) hashed ∙ ap (λ x. is_eq (ordering_then (nat_cmp (attributes_hash p) (attributes_hash q)) (attributes_cmp x q))) is ∙ at_hash p q

  -- a tree written at the key of attributes
  pub writes_among : (w : Option ℕ) → ((q : Key) → get key_cmp new q ≡ cond (is_at (key_cmp k) q) w (get key_cmp old q)) → Writes (number_among trees) (number_among (slice_set trees n new)) p w
  writes_among w u q = elim (cases_eq (place_for q) n) [
    | inl e ↦
        there q e
        ∙ (u (attributes_hash q, arc_with_value k.1 q)
        ∙ (ap (λ b. cond b w (get key_cmp old (attributes_hash q, arc_with_value k.1 q))) (at_key q)
        ∙ ap (λ o. cond (is_at (attributes_cmp p) q) w o) (there_before q e)))
    | inr ne ↦ elsewhere q ne ∙ sym (ap (λ b. cond b w (number_among trees q)) (apart q ne))
  ]
    where
      apart : (q : Attributes) → place_for q ≢ n → is_at (attributes_cmp p) q ≡ false
      apart q ne = elim (attrs_is p q) [
        | inl e ↦ absurd (ne (ap place_for e ∙ sym place))
        | inr other ↦ other
      ]

-- nothing written where there is no tree
pub none_among : (trees : List Tree) (p : Attributes) → slice_get trees (place_for p) ≡ None → Writes (number_among trees) (number_among trees) p None
none_among trees p none q = elim (attrs_is p q) [
  | inl e ↦
      let before : number_among trees q ≡ None = ap (number_among trees) e ∙ ap (λ t. number_within t p) none in
      let at : is_at (attributes_cmp p) q ≡ true = ap (is_at (attributes_cmp p)) e ∙ at_itself p in
      before ∙ sym (ap (λ b. cond b None (number_among trees q)) at)
  | inr other ↦ sym (ap (λ b. cond b None (number_among trees q)) other)
]
