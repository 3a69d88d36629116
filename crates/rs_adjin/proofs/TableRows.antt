-- Rows of the table of numbers: added, written and given up.
use Rattle.std.proofs.Common.{Bool, true, false, cond, ◌≡◌, ◌≢◌, ◌<◌, ◌&&◌, ◌==◌, ◌++◌, ℕ, zero, suc, List, [], ◌∷◌, length, refl, sym, ◌∙◌, ap, subst, arith, ◌⊎◌, inl, inr}
use Rattle.std.specs.Prelude.{Option, Some, None, slice_get, slice_set, slice_index_or, if◌then◌else◌}
use Rattle.std.specs.BTreeMap.{is_at}
use Rattle.std.specs.Ordering.{nat_cmp, ordering_then, is_eq}
use Rattle.std.proofs.lemmas.Bool.Decides.{nat_tests}
use Rattle.std.proofs.lemmas.Grind.{common_steps}
use Rattle.std.proofs.lemmas.Option.{slice_get_read, same_Some}
use Rattle.std.proofs.lemmas.Bool.{cases_eq}
use Rattle.rs_octets.specs.Prefixes.{Prefix, prefix_order}
use Rattle.rs_attrs.specs.Effects.{same_prefix}
use Rattle.rs_attrs.proofs.EachOnce.{same_is, same_itself}
use Rattle.rs_adjin.specs.declared.routes.Route.{Route}
use Rattle.rs_adjin.specs.declared.numbers.Row.{Row}
use Rattle.rs_adjin.specs.declared.prefix_numbers.PrefixNumbers.{PrefixNumbers}
use Rattle.rs_adjin.specs.Numbering.{prefix_in, prefix_at, routes_in, routes_by, number_by, Writes, IsInverse, AreVacant}

abbrev pub Numbers : Type 0
Numbers = PrefixNumbers

-- ---- prefixes compared

at_both : (a b c d : ℕ) → is_eq (ordering_then (nat_cmp a b) (nat_cmp c d)) ≡ ((b == a) && (d == c))
at_both a b c d = grind (arith, nat_tests, common_steps)

pub at_prefix : (p q : Prefix) → is_at (prefix_order p) q ≡ same_prefix q p
at_prefix p q = at_both p.bits q.bits p.len q.len

pub at_itself : (p : Prefix) → is_at (prefix_order p) p ≡ true
at_itself p = at_prefix p p ∙ same_itself p

pub at_same : (p q : Prefix) → is_at (prefix_order p) q ≡ true → q ≡ p
at_same p q h = same_is q p (sym (at_prefix p q) ∙ h)

pub none_some : {A : Type 0} (o : Option A) (x : A) → o ≡ None → o ≡ Some x → ⊥
none_some o x n s = let e : None ≡ Some x = sym n ∙ s in (cc)

pub prefix_is : (p q : Prefix) → (q ≡ p) ⊎ (is_at (prefix_order p) q ≡ false)
prefix_is p q = go (is_at (prefix_order p) q) refl
  where
    go : (b : Bool) → is_at (prefix_order p) q ≡ b → (q ≡ p) ⊎ (is_at (prefix_order p) q ≡ false)
    go true is = inl (at_same p q is)
    go false is = inr is

-- ---- a map written at one prefix

pub written : (old new : Numbers) (p : Prefix) (w : Option ℕ) → Writes old new p w → number_by new p ≡ w
written old new p w u = u p ∙ ap (λ b. cond b w (number_by old p)) (at_itself p)

pub unwritten : (old new : Numbers) (p : Prefix) (w : Option ℕ) → Writes old new p w → (q : Prefix) → is_at (prefix_order p) q ≡ false → number_by new q ≡ number_by old q
unwritten old new p w u q other = u q ∙ ap (λ b. cond b w (number_by old q)) other

pub written_apart : (old new : Numbers) (p : Prefix) (w : Option ℕ) → Writes old new p w → (q : Prefix) → q ≢ p → number_by new q ≡ number_by old q
written_apart old new p w u q ne = elim (prefix_is p q) [
  | inl e ↦ absurd (ne e)
  | inr other ↦ unwritten old new p w u q other
]

-- ---- one element of a list written

pub set_here : {A : Type 0} (xs : List A) (n : ℕ) (x y : A) → slice_get xs n ≡ Some y → slice_get (slice_set xs n x) n ≡ Some x
set_here [] n x y is = absurd (cc)
set_here (z ∷ xs) zero x y is = refl
set_here (z ∷ xs) (suc n) x y is = set_here xs n x y is

pub set_apart : {A : Type 0} (xs : List A) (n : ℕ) (x : A) (m : ℕ) → m ≢ n → slice_get (slice_set xs n x) m ≡ slice_get xs m
set_apart [] n x m ne = refl
set_apart (y ∷ xs) zero x zero ne = absurd (ne refl)
set_apart (y ∷ xs) zero x (suc m) ne = refl
set_apart (y ∷ xs) (suc n) x zero ne = refl
set_apart (y ∷ xs) (suc n) x (suc m) ne = set_apart xs n x m (λ e. ne (ap (λ k. suc k) e))

-- ---- a row without prefix and routes added

pub push_prefix : (rows : List Row) (r : Row) (m : ℕ) → r.prefix ≡ None → prefix_at (rows ++ r ∷ []) m ≡ prefix_at rows m
push_prefix [] r zero none = none
push_prefix [] r (suc m) none = refl
push_prefix (x ∷ rows) r zero none = refl
push_prefix (x ∷ rows) r (suc m) none = push_prefix rows r m none

pub push_routes : (rows : List Row) (r : Row) (m : ℕ) → r.routes ≡ [] → routes_in (slice_get (rows ++ r ∷ []) m) ≡ routes_in (slice_get rows m)
push_routes [] r zero none = none
push_routes [] r (suc m) none = refl
push_routes (x ∷ rows) r zero none = refl
push_routes (x ∷ rows) r (suc m) none = push_routes rows r m none

-- pushed, or memory was refused
pub push_any_prefix : (rows : List Row) (r : Row) (b : Bool) (new : List Row) → new ≡ (if b then rows ++ r ∷ [] else rows) → r.prefix ≡ None → (m : ℕ) → prefix_at new m ≡ prefix_at rows m
push_any_prefix rows r true new is none m = ap (λ xs. prefix_at xs m) is ∙ push_prefix rows r m none
push_any_prefix rows r false new is none m = ap (λ xs. prefix_at xs m) is

pub push_any_routes : (rows : List Row) (r : Row) (b : Bool) (new : List Row) → new ≡ (if b then rows ++ r ∷ [] else rows) → r.routes ≡ [] → (m : ℕ) → routes_in (slice_get new m) ≡ routes_in (slice_get rows m)
push_any_routes rows r true new is none m = ap (λ xs. routes_in (slice_get xs m)) is ∙ push_routes rows r m none
push_any_routes rows r false new is none m = ap (λ xs. routes_in (slice_get xs m)) is

pub nothing : {A : Type 0} (xs : List A) → length xs ≡ 0 → xs ≡ []
nothing [] is = refl
nothing (x ∷ xs) is = absurd (omega (arith, is))

-- what a read at an index leads to
pub shown : {A : Type 0} (xs ys : List A) (n : ℕ) (r : A) → xs ≡ ys → n < length xs → r ≡ slice_index_or xs n r → slice_get ys n ≡ Some r
shown xs ys n r is below value = subst (λ zs. slice_get zs n ≡ Some r) is (slice_get_read xs _ n r refl below value)

-- two reads at a number lead to one row, which has this prefix
pub same_row : (xs rows : List Row) (n : ℕ) (a b : Row) (o : Option Prefix) → xs ≡ rows → n < length xs → a ≡ slice_index_or xs n a → b ≡ slice_index_or rows n b → a.prefix ≡ o
    → (slice_get rows n ≡ Some b) × (b.prefix ≡ o) × (a ≡ b)
same_row xs rows n a b o is below left right named =
    let read = shown rows rows n b refl (subst (λ zs. n < length zs) is below) right in
    let same = same_Some a b (sym (shown xs rows n a is below left) ∙ read) in
    (read, sym (ap (λ (r : Row). r.prefix) same) ∙ named, same)

pub empty_by : (a b : Row) → a ≡ b → length a.routes ≡ 0 → b.routes ≡ []
empty_by a b same is = sym (ap (λ (r : Row). r.routes) same) ∙ nothing a.routes is

pub push_here : (rows : List Row) (r : Row) → prefix_at (rows ++ r ∷ []) (length rows) ≡ r.prefix
push_here [] r = refl
push_here (x ∷ rows) r = push_here rows r

-- ---- rows with the same prefixes

pub inverse_same : (numbers : Numbers) (old new : List Row) → ((m : ℕ) → prefix_at new m ≡ prefix_at old m) → IsInverse numbers old → IsInverse numbers new
inverse_same numbers old new same i = record { there = λ p n is. same n ∙ i.there p n is; back = λ p n is. i.back p n (sym (same n) ∙ is) }

-- prefixes that all have the numbers that they had
pub inverse_kept : (old new : Numbers) (rows : List Row) → ((p : Prefix) → number_by new p ≡ number_by old p) → IsInverse old rows → IsInverse new rows
inverse_kept old new rows same i = record { there = λ p n is. i.there p n (sym (same p) ∙ is); back = λ p n is. same p ∙ i.back p n is }

pub vacant_same : (old new : List Row) → ((m : ℕ) → prefix_at new m ≡ prefix_at old m) → ((m : ℕ) → routes_in (slice_get new m) ≡ routes_in (slice_get old m)) → AreVacant old → AreVacant new
vacant_same old new same routes vacant m none = routes m ∙ vacant m (sym (same m) ∙ none)

pub by_same : (old new : List Row) → ((m : ℕ) → routes_in (slice_get new m) ≡ routes_in (slice_get old m)) → (o : Option ℕ) → routes_by new o ≡ routes_by old o
by_same old new routes None = refl
by_same old new routes (Some m) = routes m

-- a row below the length
pub some_row : {A : Type 0} (xs : List A) (n : ℕ) (x : A) → (n < length xs) → (y : A) × (slice_get xs n ≡ Some y)
some_row [] n x below = absurd (omega (arith, below))
some_row (y ∷ xs) zero x below = (y, refl)
some_row (y ∷ xs) (suc n) x below = some_row xs n x (omega (arith, below))

-- ---- a row written

module _ (rows : List Row) (n : ℕ) (r s : Row) (read : slice_get rows n ≡ Some r) where
  here : slice_get (slice_set rows n s) n ≡ Some s
  here = set_here rows n s r read

  apart : (m : ℕ) → m ≢ n → slice_get (slice_set rows n s) m ≡ slice_get rows m
  apart m ne = set_apart rows n s m ne

  -- the routes alone are others
  pub kept_prefix : s.prefix ≡ r.prefix → (m : ℕ) → prefix_at (slice_set rows n s) m ≡ prefix_at rows m
  kept_prefix same m = elim (cases_eq m n) [
    | inl e ↦ subst (λ k. prefix_at (slice_set rows n s) k ≡ prefix_at rows k) (sym e) (ap prefix_in here ∙ (same ∙ sym (ap prefix_in read)))
    | inr ne ↦ ap prefix_in (apart m ne)
  ]

  pub vacant_written : (p : Prefix) → s.prefix ≡ Some p → AreVacant rows → AreVacant (slice_set rows n s)
  vacant_written p is vacant m none = elim (cases_eq m n) [
    | inl e ↦ absurd (none_some (prefix_at (slice_set rows n s) n) p (subst (λ k. prefix_at (slice_set rows n s) k ≡ None) e none) (ap prefix_in here ∙ is))
    | inr ne ↦ ap routes_in (apart m ne) ∙ vacant m (sym (ap prefix_in (apart m ne)) ∙ none)
  ]

  other_row : (numbers : Numbers) (p q : Prefix) → IsInverse numbers rows → prefix_at rows n ≡ Some p → is_at (prefix_order p) q ≡ false → (o : Option ℕ) → number_by numbers q ≡ o → routes_by (slice_set rows n s) o ≡ routes_by rows o
  other_row numbers p q i at ne None is = refl
  other_row numbers p q i at ne (Some m) is = elim (cases_eq m n) [
    | inl e ↦ absurd (
        let same : q ≡ p = same_Some q p (sym (i.there q n (is ∙ ap (λ k. Some k) e)) ∙ at) in
        let t : is_at (prefix_order p) p ≡ false = subst (λ x. is_at (prefix_order p) x ≡ false) same ne in
        let f : true ≡ false = sym (at_itself p) ∙ t in (cc))
    | inr ne ↦ ap routes_in (apart m ne)
  ]

  -- the routes for p are these now, and all others as they were
  pub row_steps : (numbers : Numbers) (p : Prefix) (rs : List Route) → IsInverse numbers rows → number_by numbers p ≡ Some n → s.routes ≡ rs →
      (q : Prefix) → routes_by (slice_set rows n s) (number_by numbers q) ≡ (if same_prefix q p then rs else routes_by rows (number_by numbers q))
  row_steps numbers p rs i at is q = go (same_prefix q p) refl
    where
      go : (b : Bool) → same_prefix q p ≡ b → routes_by (slice_set rows n s) (number_by numbers q) ≡ (if b then rs else routes_by rows (number_by numbers q))
      go true same = ap (λ x. routes_by (slice_set rows n s) (number_by numbers x)) (same_is q p same) ∙ (ap (routes_by (slice_set rows n s)) at ∙ (ap routes_in here ∙ is))
      go false other = other_row numbers p q i (i.there p n at) (at_prefix p q ∙ other) (number_by numbers q) refl

-- ---- a number given

module _ (old new : Numbers) (rows : List Row) (n : ℕ) (p : Prefix) (r s : Row) (i : IsInverse old rows) (absent : number_by old p ≡ None) (free : prefix_at rows n ≡ None) (u : Writes old new p (Some n)) (read : slice_get rows n ≡ Some r) (named : s.prefix ≡ Some p) where
  new_row : slice_get (slice_set rows n s) n ≡ Some s
  new_row = set_here rows n s r read

  -- a prefix that has a number is another, and its number too
  other_prefix : (q : Prefix) (m : ℕ) → number_by old q ≡ Some m → is_at (prefix_order p) q ≡ false
  other_prefix q m is = elim (prefix_is p q) [
    | inl e ↦ absurd (none_some (number_by old p) m absent (subst (λ x. number_by old x ≡ Some m) e is))
    | inr ne ↦ ne
  ]

  other_number : (q : Prefix) (m : ℕ) → number_by old q ≡ Some m → m ≢ n
  other_number q m is e = none_some (prefix_at rows n) q free (subst (λ k. prefix_at rows k ≡ Some q) e (i.there q m is))

  pub added_kept : (q : Prefix) (m : ℕ) → number_by old q ≡ Some m → number_by new q ≡ Some m
  added_kept q m is = unwritten old new p (Some n) u q (other_prefix q m is) ∙ is

  pub added_inverse : IsInverse new (slice_set rows n s)
  added_inverse = record {
    there = λ q m is. elim (prefix_is p q) [
      | inl e ↦
          let m_is : m ≡ n = sym (same_Some n m (sym (written old new p (Some n) u) ∙ subst (λ x. number_by new x ≡ Some m) e is)) in
          ap (prefix_at (slice_set rows n s)) m_is ∙ (ap prefix_in new_row ∙ (named ∙ ap (λ x. Some x) (sym e)))
      | inr ne ↦
          let was : number_by old q ≡ Some m = sym (unwritten old new p (Some n) u q ne) ∙ is in
          ap prefix_in (set_apart rows n s m (other_number q m was)) ∙ i.there q m was
    ];
    back = λ q m is. elim (cases_eq m n) [
      | inl e ↦
          let q_is : p ≡ q = same_Some p q (sym (ap prefix_in new_row ∙ named) ∙ subst (λ k. prefix_at (slice_set rows n s) k ≡ Some q) e is) in
          subst (λ x. number_by new x ≡ Some m) q_is (written old new p (Some n) u ∙ ap (λ k. Some k) (sym e))
      | inr ne ↦ added_kept q m (i.back q m (sym (ap prefix_in (set_apart rows n s m ne)) ∙ is))
    ];
  }

  same_there : (q : Prefix) (o : Option ℕ) → number_by old q ≡ o → routes_by (slice_set rows n s) o ≡ routes_by rows o
  same_there q None is = refl
  same_there q (Some m) is = ap routes_in (set_apart rows n s m (other_number q m is))

  pub added_same : s.routes ≡ r.routes → AreVacant rows → (q : Prefix) → routes_by (slice_set rows n s) (number_by new q) ≡ routes_by rows (number_by old q)
  added_same same vacant q = elim (prefix_is p q) [
    | inl e ↦ subst (λ x. routes_by (slice_set rows n s) (number_by new x) ≡ routes_by rows (number_by old x)) (sym e)
        (ap (routes_by (slice_set rows n s)) (written old new p (Some n) u) ∙ (ap routes_in new_row ∙ (same ∙ (sym (ap routes_in read) ∙ (vacant n free ∙ sym (ap (routes_by rows) absent))))))
    | inr ne ↦ ap (routes_by (slice_set rows n s)) (unwritten old new p (Some n) u q ne) ∙ same_there q (number_by old q) refl
  ]

-- ---- a number given up

module _ (old new : Numbers) (rows : List Row) (n : ℕ) (p : Prefix) (r s : Row) (i : IsInverse old rows) (u : Writes old new p None) (read : slice_get rows n ≡ Some r) (was : r.prefix ≡ Some p) (none : s.prefix ≡ None) where
  gone_row : slice_get (slice_set rows n s) n ≡ Some s
  gone_row = set_here rows n s r read

  number_was : number_by old p ≡ Some n
  number_was = i.back p n (ap prefix_in read ∙ was)

  other_left : (q : Prefix) (m : ℕ) → m ≢ n → number_by old q ≡ Some m → is_at (prefix_order p) q ≡ false
  other_left q m ne is = elim (prefix_is p q) [
    | inl e ↦ absurd (ne (same_Some m n (sym (subst (λ x. number_by old x ≡ Some m) e is) ∙ number_was)))
    | inr other ↦ other
  ]

  pub gone_here : prefix_at (slice_set rows n s) n ≡ None
  gone_here = ap prefix_in gone_row ∙ none

  pub gone_kept : (q : Prefix) (m : ℕ) → m ≢ n → number_by old q ≡ Some m → number_by new q ≡ Some m
  gone_kept q m ne is = unwritten old new p None u q (other_left q m ne is) ∙ is

  pub gone_old : (q : Prefix) (m : ℕ) → number_by new q ≡ Some m → (m ≢ n) × (number_by old q ≡ Some m)
  gone_old q m is = elim (prefix_is p q) [
    | inl e ↦ absurd (none_some (number_by new p) m (written old new p None u) (subst (λ x. number_by new x ≡ Some m) e is))
    | inr other ↦
        let before : number_by old q ≡ Some m = sym (unwritten old new p None u q other) ∙ is in (
          λ e.
              let same : q ≡ p = same_Some q p (sym (i.there q m before) ∙ (ap (prefix_at rows) e ∙ (ap prefix_in read ∙ was))) in
              let t : is_at (prefix_order p) p ≡ false = subst (λ x. is_at (prefix_order p) x ≡ false) same other in
              let f : true ≡ false = sym (at_itself p) ∙ t in (cc),
          before,
        )
  ]

  pub gone_inverse : IsInverse new (slice_set rows n s)
  gone_inverse = record {
    there = λ q m is. let o = gone_old q m is in ap prefix_in (set_apart rows n s m o.0) ∙ i.there q m o.1;
    back = λ q m is. elim (cases_eq m n) [
      | inl e ↦ absurd (none_some (prefix_at (slice_set rows n s) n) q gone_here (subst (λ k. prefix_at (slice_set rows n s) k ≡ Some q) e is))
      | inr ne ↦ gone_kept q m ne (i.back q m (sym (ap prefix_in (set_apart rows n s m ne)) ∙ is))
    ];
  }

  pub gone_vacant : s.routes ≡ [] → AreVacant rows → AreVacant (slice_set rows n s)
  gone_vacant empty vacant m nil = elim (cases_eq m n) [
    | inl e ↦ subst (λ k. routes_in (slice_get (slice_set rows n s) k) ≡ []) (sym e) (ap routes_in gone_row ∙ empty)
    | inr ne ↦ ap routes_in (set_apart rows n s m ne) ∙ vacant m (sym (ap prefix_in (set_apart rows n s m ne)) ∙ nil)
  ]

  same_left : (q : Prefix) → is_at (prefix_order p) q ≡ false → (o : Option ℕ) → number_by new q ≡ o → routes_by (slice_set rows n s) o ≡ routes_by rows o
  same_left q other None is = refl
  same_left q other (Some m) is = ap routes_in (set_apart rows n s m (gone_old q m is).0)

  pub gone_same : r.routes ≡ [] → (q : Prefix) → routes_by (slice_set rows n s) (number_by new q) ≡ routes_by rows (number_by old q)
  gone_same empty q = elim (prefix_is p q) [
    | inl e ↦ subst (λ x. routes_by (slice_set rows n s) (number_by new x) ≡ routes_by rows (number_by old x)) (sym e)
        (ap (routes_by (slice_set rows n s)) (written old new p None u) ∙ sym (ap (routes_by rows) number_was ∙ (ap routes_in read ∙ empty)))
    | inr other ↦ same_left q other (number_by new q) refl ∙ ap (routes_by rows) (unwritten old new p None u q other)
  ]

-- ---- what a number leads to

pub row_within : (rows : List Row) (n : ℕ) (p : Prefix) → prefix_at rows n ≡ Some p → n < length rows
row_within [] n p is = absurd (cc)
row_within (r ∷ rows) zero p is = omega arith
row_within (r ∷ rows) (suc n) p is = let below : n < length rows = row_within rows n p is in omega (arith, below)

pub row_routes : (numbers : Numbers) (rows : List Row) (p : Prefix) (n : ℕ) (r : Row) → number_by numbers p ≡ Some n → slice_get rows n ≡ Some r → routes_by rows (number_by numbers p) ≡ r.routes
row_routes numbers rows p n r at read = ap (routes_by rows) at ∙ ap routes_in read
