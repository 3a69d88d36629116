-- Rows of the table of sets: added, written and given up.
use Rattle.std.proofs.Common.{Bool, true, false, cond, ◌≡◌, ◌≢◌, ◌<◌, ◌++◌, ℕ, zero, suc, List, [], ◌∷◌, length, refl, sym, ◌∙◌, ap, subst, ◌⊎◌, inl, inr}
use Rattle.std.specs.Prelude.{Option, Some, None, slice_get, slice_set, slice_index_or, if◌then◌else◌}
use Rattle.std.specs.BTreeMap.{is_at}
use Rattle.std.specs.Arc.{arc_value}
use Rattle.std.specs.declared.sync.Arc.{Arc}
use Rattle.std.specs.Global.{Global}
use Rattle.std.proofs.lemmas.Option.{same_Some}
use Rattle.std.proofs.lemmas.Bool.{cases_eq}
use Rattle.rs_attrs.specs.Meaning.{Attribute}
use Rattle.rs_attrs.specs.Comparing.{attributes_cmp}
use Rattle.rs_attrs.specs.ComparisonLaws.{attributes_cmp_decides}
use Rattle.rs_adjin.specs.declared.sets.AttrsRow.{AttrsRow}
use Rattle.rs_adjin.proofs.TableRows.{none_some, set_here, set_apart, shown}
use Rattle.rs_adjin.specs.SetNumbering.{attrs_by, attrs_in, attrs_at, IsInverse, Writes}

abbrev pub Attributes : Type 0
Attributes = List Attribute

abbrev pub Numbers : Type 0
Numbers = Attributes → Option ℕ

-- ---- attributes compared

pub at_itself : (p : Attributes) → is_at (attributes_cmp p) p ≡ true
at_itself p = (attributes_cmp_decides p p).1 refl

pub at_same : (p q : Attributes) → is_at (attributes_cmp p) q ≡ true → q ≡ p
at_same p q h = sym ((attributes_cmp_decides p q).0 h)

pub attrs_is : (p q : Attributes) → (q ≡ p) ⊎ (is_at (attributes_cmp p) q ≡ false)
attrs_is p q = go (is_at (attributes_cmp p) q) refl
  where
    go : (b : Bool) → is_at (attributes_cmp p) q ≡ b → (q ≡ p) ⊎ (is_at (attributes_cmp p) q ≡ false)
    go true is = inl (at_same p q is)
    go false is = inr is

-- ---- numbers written at one set

pub written : (old new : Numbers) (p : Attributes) (w : Option ℕ) → Writes old new p w → new p ≡ w
written old new p w u = u p ∙ ap (λ b. cond b w (old p)) (at_itself p)

pub unwritten : (old new : Numbers) (p : Attributes) (w : Option ℕ) → Writes old new p w → (q : Attributes) → is_at (attributes_cmp p) q ≡ false → new q ≡ old q
unwritten old new p w u q other = u q ∙ ap (λ b. cond b w (old q)) other

-- ---- a row without attributes added

pub push_attrs : (rows : List AttrsRow) (r : AttrsRow) (m : ℕ) → r.attrs ≡ None → attrs_at (rows ++ r ∷ []) m ≡ attrs_at rows m
push_attrs [] r zero none = ap attrs_by none
push_attrs [] r (suc m) none = refl
push_attrs (x ∷ rows) r zero none = refl
push_attrs (x ∷ rows) r (suc m) none = push_attrs rows r m none

-- pushed, or memory was refused
pub push_any : (rows : List AttrsRow) (r : AttrsRow) (b : Bool) (new : List AttrsRow) → new ≡ (if b then rows ++ r ∷ [] else rows) → r.attrs ≡ None → (m : ℕ) → attrs_at new m ≡ attrs_at rows m
push_any rows r true new is none m = ap (λ xs. attrs_at xs m) is ∙ push_attrs rows r m none
push_any rows r false new is none m = ap (λ xs. attrs_at xs m) is

pub push_here : (rows : List AttrsRow) (r : AttrsRow) → attrs_at (rows ++ r ∷ []) (length rows) ≡ attrs_by r.attrs
push_here [] r = refl
push_here (x ∷ rows) r = push_here rows r

pub inverse_same : (number : Numbers) (old new : List AttrsRow) → ((m : ℕ) → attrs_at new m ≡ attrs_at old m) → IsInverse number old → IsInverse number new
inverse_same number old new same i = record { there = λ p n is. same n ∙ i.there p n is; back = λ p n is. i.back p n (sym (same n) ∙ is) }

-- attributes that all have the numbers that they had
pub inverse_kept : (old new : Numbers) (rows : List AttrsRow) → ((m : Attributes) → new m ≡ old m) → IsInverse old rows → IsInverse new rows
inverse_kept old new rows same i = record { there = λ p n is. i.there p n (sym (same p) ∙ is); back = λ p n is. same p ∙ i.back p n is }

-- ---- a number given

-- p has one, and the rest is as before
pub record IsAdded (old new : Numbers) (rows : List AttrsRow) (p : Attributes) : Type 0 where
  pub kept : (q : Attributes) (m : ℕ) → old q ≡ Some m → new q ≡ Some m
  pub others : (q : Attributes) → q ≢ p → new q ≡ old q
  pub inverse : IsInverse new rows

module _ (old new : Numbers) (rows : List AttrsRow) (n : ℕ) (p : Attributes) (r s : AttrsRow) (i : IsInverse old rows) (absent : old p ≡ None) (free : attrs_at rows n ≡ None) (u : Writes old new p (Some n)) (read : slice_get rows n ≡ Some r) (named : attrs_by s.attrs ≡ Some p) where
  new_row : slice_get (slice_set rows n s) n ≡ Some s
  new_row = set_here rows n s r read

  other_attrs : (q : Attributes) (m : ℕ) → old q ≡ Some m → is_at (attributes_cmp p) q ≡ false
  other_attrs q m is = elim (attrs_is p q) [
    | inl e ↦ absurd (none_some (old p) m absent (subst (λ x. old x ≡ Some m) e is))
    | inr ne ↦ ne
  ]

  other_number : (q : Attributes) (m : ℕ) → old q ≡ Some m → m ≢ n
  other_number q m is e = none_some (attrs_at rows n) q free (subst (λ k. attrs_at rows k ≡ Some q) e (i.there q m is))

  added_kept : (q : Attributes) (m : ℕ) → old q ≡ Some m → new q ≡ Some m
  added_kept q m is = unwritten old new p (Some n) u q (other_attrs q m is) ∙ is

  added_others : (q : Attributes) → q ≢ p → new q ≡ old q
  added_others q ne = elim (attrs_is p q) [
    | inl e ↦ absurd (ne e)
    | inr other ↦ unwritten old new p (Some n) u q other
  ]

  added_inverse : IsInverse new (slice_set rows n s)
  added_inverse = record {
    there = λ q m is. elim (attrs_is p q) [
      | inl e ↦
          let m_is : m ≡ n = sym (same_Some n m (sym (written old new p (Some n) u) ∙ subst (λ x. new x ≡ Some m) e is)) in
          ap (attrs_at (slice_set rows n s)) m_is ∙ (ap attrs_in new_row ∙ (named ∙ ap (λ x. Some x) (sym e)))
      | inr ne ↦
          let was : old q ≡ Some m = sym (unwritten old new p (Some n) u q ne) ∙ is in
          ap attrs_in (set_apart rows n s m (other_number q m was)) ∙ i.there q m was
    ];
    back = λ q m is. elim (cases_eq m n) [
      | inl e ↦
          let q_is : p ≡ q = same_Some p q (sym (ap attrs_in new_row ∙ named) ∙ subst (λ k. attrs_at (slice_set rows n s) k ≡ Some q) e is) in
          subst (λ x. new x ≡ Some m) q_is (written old new p (Some n) u ∙ ap (λ k. Some k) (sym e))
      | inr ne ↦ added_kept q m (i.back q m (sym (ap attrs_in (set_apart rows n s m ne)) ∙ is))
    ];
  }

  pub added : IsAdded old new (slice_set rows n s) p
  added = record { kept = added_kept; others = added_others; inverse = added_inverse }

-- ---- a number given up

-- nothing has n, and the rest is as before
pub record IsGone (old new : Numbers) (rows : List AttrsRow) (n : ℕ) : Type 0 where
  pub here : attrs_at rows n ≡ None
  pub kept : (q : Attributes) (m : ℕ) → m ≢ n → old q ≡ Some m → new q ≡ Some m
  pub none_new : (q : Attributes) (m : ℕ) → new q ≡ Some m → old q ≡ Some m
  pub inverse : IsInverse new rows

module _ (old new : Numbers) (rows : List AttrsRow) (n : ℕ) (p : Attributes) (r s : AttrsRow) (i : IsInverse old rows) (u : Writes old new p None) (read : slice_get rows n ≡ Some r) (was : attrs_by r.attrs ≡ Some p) (none : s.attrs ≡ None) where
  gone_row : slice_get (slice_set rows n s) n ≡ Some s
  gone_row = set_here rows n s r read

  number_was : old p ≡ Some n
  number_was = i.back p n (ap attrs_in read ∙ was)

  other_left : (q : Attributes) (m : ℕ) → m ≢ n → old q ≡ Some m → is_at (attributes_cmp p) q ≡ false
  other_left q m ne is = elim (attrs_is p q) [
    | inl e ↦ absurd (ne (same_Some m n (sym (subst (λ x. old x ≡ Some m) e is) ∙ number_was)))
    | inr other ↦ other
  ]

  gone_here : attrs_at (slice_set rows n s) n ≡ None
  gone_here = ap attrs_in gone_row ∙ ap attrs_by none

  gone_kept : (q : Attributes) (m : ℕ) → m ≢ n → old q ≡ Some m → new q ≡ Some m
  gone_kept q m ne is = unwritten old new p None u q (other_left q m ne is) ∙ is

  gone_old : (q : Attributes) (m : ℕ) → new q ≡ Some m → (m ≢ n) × (old q ≡ Some m)
  gone_old q m is = elim (attrs_is p q) [
    | inl e ↦ absurd (none_some (new p) m (written old new p None u) (subst (λ x. new x ≡ Some m) e is))
    | inr other ↦
        let before : old q ≡ Some m = sym (unwritten old new p None u q other) ∙ is in (
          λ e.
              let same : q ≡ p = same_Some q p (sym (i.there q m before) ∙ (ap (attrs_at rows) e ∙ (ap attrs_in read ∙ was))) in
              let t : is_at (attributes_cmp p) p ≡ false = subst (λ x. is_at (attributes_cmp p) x ≡ false) same other in
              let f : true ≡ false = sym (at_itself p) ∙ t in (cc),
          before,
        )
  ]

  gone_inverse : IsInverse new (slice_set rows n s)
  gone_inverse = record {
    there = λ q m is. let o = gone_old q m is in ap attrs_in (set_apart rows n s m o.0) ∙ i.there q m o.1;
    back = λ q m is. elim (cases_eq m n) [
      | inl e ↦ absurd (none_some (attrs_at (slice_set rows n s) n) q gone_here (subst (λ k. attrs_at (slice_set rows n s) k ≡ Some q) e is))
      | inr ne ↦ gone_kept q m ne (i.back q m (sym (ap attrs_in (set_apart rows n s m ne)) ∙ is))
    ];
  }

  pub gone : IsGone old new (slice_set rows n s) n
  gone = record { here = gone_here; kept = gone_kept; none_new = λ q m is. (gone_old q m is).1; inverse = gone_inverse }

-- ---- as the table writes its numbers and its rows

module _ (old new : Numbers) (rows : List AttrsRow) (n : ℕ) (row : AttrsRow) (i : IsInverse old rows) (below : n < length rows) (value : row ≡ slice_index_or rows n row) where
  read : slice_get rows n ≡ Some row
  read = shown rows rows n row refl below value

  -- where a copy m of the attributes p was looked up
  pub added_by : (m p : Attributes) (kept : Arc Attributes Global) → m ≡ p → old m ≡ None → attrs_at rows n ≡ None → arc_value kept ≡ p → Writes old new m (Some n) → IsAdded old new (slice_set rows n record { attrs = Some kept }) p
  added_by m p kept same absent free named u =
      added old new rows n p row record { attrs = Some kept } i (ap old (sym same) ∙ absent) free (subst (λ x. Writes old new x (Some n)) same u) read (ap Some named)

  pub gone_by : (attrs : Arc Attributes Global) (taken left : Option (Arc Attributes Global)) → taken ≡ row.attrs → taken ≡ Some attrs → left ≡ None → Writes old new (arc_value attrs) None → IsGone old new (slice_set rows n record { attrs = left }) n
  gone_by attrs taken left was is none u = gone old new rows n (arc_value attrs) row record { attrs = left } i u read (ap attrs_by (sym was ∙ is)) none
