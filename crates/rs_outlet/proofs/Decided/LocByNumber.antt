-- The Loc-RIB as a table by prefix, read and written at a number.
use Rattle.std.proofs.Common.{Bool, true, false, cond, ◌≡◌, ◌≢◌, ◌<◌, ◌+◌, ℕ, zero, suc, List, [], ◌∷◌, length, Option, None, Some, refl, sym, ◌∙◌, ap, subst, arith, inl, inr, slice_set}
use Rattle.std.specs.Prelude.{count_by, is_some, slice_get}
use Rattle.std.specs.FinMap as fin
use Rattle.std.specs.Ordering.{eq_by_cmp, is_eq}
use Rattle.std.proofs.lemmas.Cmp.{tied_itself}
use Rattle.std.proofs.lemmas.List.Sums.{sum_by-cons}
use Rattle.std.proofs.lemmas.Option.{same_Some}
use Rattle.std.proofs.lemmas.Bool.{cases_eq}
use Rattle.rs_octets.specs.Prefixes.{Prefix, prefix_order}
use Rattle.rs_attrs.specs.Meaning.{Attribute}
use Rattle.rs_adjin.specs.declared.adj_ins.AdjIns.{AdjIns}
use Rattle.rs_adjin.specs.AdjIns.{number_of}
use Rattle.rs_adjin.proofs.TableRows.{none_some, set_here, set_apart, some_row}
use Rattle.rs_rows.specs.Rows.{Row}
use Rattle.rs_outlet.specs.Views.{HaveNumbers}
use Rattle.rs_outlet.specs.Inside.{joined, row_at, shown, loc_of, numbers_from}
use Rattle.rs_outlet.proofs.Decided.Numbering.{number_once}
use Rattle.rs_adjin.proofs.Listed.{prefixes_total, exact_prefixes}
use Rattle.rs_outlet.proofs.Decided.Touches.{equal_only}

abbrev pub same : Prefix → Prefix → Bool
same = eq_by_cmp prefix_order

pub same_is : (p q : Prefix) → same p q ≡ true → p ≡ q
same_is p q h = exact_prefixes p q (equal_only (prefix_order p q) h)

pub same_itself : (p : Prefix) → same p p ≡ true
same_itself p = ap is_eq (tied_itself prefixes_total p)

abbrev pub Numbered : List (Option Row) → AdjIns → Type 0
Numbered rows ins = (n : ℕ) (r : Row) → row_at rows n ≡ Some r → number_of ins r.prefix ≡ Some n

numbered_from : (ins : AdjIns) (k : ℕ) (rows : List (Option Row)) → HaveNumbers (numbers_from k rows) ins → (n : ℕ) (r : Row) → row_at rows n ≡ Some r → number_of ins r.prefix ≡ Some (k + n)
numbered_from ins k [] h n r is = absurd (cc)
numbered_from ins k (None ∷ rows) h zero r is = absurd (cc)
numbered_from ins k (None ∷ rows) h (suc n) r is = subst (λ m. number_of ins r.prefix ≡ Some m) (let e : suc k + n ≡ k + suc n = omega arith in e) (numbered_from ins (suc k) rows h n r is)
numbered_from ins k (Some s ∷ rows) h zero r is = ap (λ (t : Row). number_of ins t.prefix) (sym (same_Some s r is)) ∙ h.0 ∙ ap (λ m. Some m) (let e : k ≡ k + 0 = omega arith in e)
numbered_from ins k (Some s ∷ rows) h (suc n) r is = subst (λ m. number_of ins r.prefix ≡ Some m) (let e : suc k + n ≡ k + suc n = omega arith in e) (numbered_from ins (suc k) rows h.1 n r is)

pub numbered : (ins : AdjIns) (rows : List (Option Row)) → HaveNumbers (numbers_from 0 rows) ins → Numbered rows ins
numbered ins rows h n r is = numbered_from ins 0 rows h n r is ∙ ap (λ m. Some m) (let e : 0 + n ≡ n = omega arith in e)

-- the value at a number
abbrev pub value_at : List (Option Row) → Option ℕ → Option (List Attribute)
value_at rows None = None
value_at rows (Some n) = shown (row_at rows n)

-- the first row with the prefix
abbrev table_of : List (Option Row) → Prefix → Option (List Attribute)
table_of [] p = None
table_of (None ∷ rows) p = table_of rows p
table_of (Some r ∷ rows) p = cond (same p r.prefix) (Some r.attributes) (table_of rows p)

loc_table : (rows : List (Option Row)) (q : Prefix) → fin.get (loc_of rows) q ≡ table_of rows q
loc_table [] q = fin.get-empty prefix_order q
loc_table (None ∷ rows) q = loc_table rows q
loc_table (Some r ∷ rows) q = fin.get-insert prefixes_total (loc_of rows) r.prefix r.attributes q ∙ ap (cond (same q r.prefix) (Some r.attributes)) (loc_table rows q)

at_first : (r : Row) (rows : List (Option Row)) (p : Prefix) (b : Bool) → same p r.prefix ≡ b → table_of (Some r ∷ rows) p ≡ cond b (Some r.attributes) (table_of rows p)
at_first r rows p b is = ap (λ t. cond t (Some r.attributes) (table_of rows p)) is

none_at : (x : Row) (rows : List (Option Row)) (p : Prefix) (b : Bool) → same p x.prefix ≡ b → x.prefix ≢ p → table_of rows p ≡ None → table_of (Some x ∷ rows) p ≡ None
none_at x rows p true is not rest = absurd (not (sym (same_is p x.prefix is)))
none_at x rows p false is not rest = at_first x rows p false is ∙ rest

find_none : (rows : List (Option Row)) (p : Prefix) → ((n : ℕ) (r : Row) → row_at rows n ≡ Some r → r.prefix ≢ p) → table_of rows p ≡ None
find_none [] p none = refl
find_none (None ∷ rows) p none = find_none rows p (λ n r is. none (suc n) r is)
find_none (Some x ∷ rows) p none = none_at x rows p (same p x.prefix) refl (none 0 x refl) (find_none rows p (λ n r is. none (suc n) r is))

one_at : (x : Row) (rows : List (Option Row)) (p : Prefix) (v : List Attribute) (b : Bool) → same p x.prefix ≡ b → (x.prefix ≢ p) → table_of rows p ≡ Some v → table_of (Some x ∷ rows) p ≡ Some v
one_at x rows p v true is not rest = absurd (not (sym (same_is p x.prefix is)))
one_at x rows p v false is not rest = at_first x rows p false is ∙ rest

find_one : (rows : List (Option Row)) (p : Prefix) (n : ℕ) (r : Row) → ((m : ℕ) (s : Row) → row_at rows m ≡ Some s → s.prefix ≡ p → m ≡ n) → row_at rows n ≡ Some r → r.prefix ≡ p → table_of rows p ≡ Some r.attributes
find_one [] p n r once is at = absurd (cc)
find_one (None ∷ rows) p zero r once is at = absurd (cc)
find_one (None ∷ rows) p (suc n) r once is at = find_one rows p n r (λ m s there same. let e : suc m ≡ suc n = once (suc m) s there same in omega (arith, e)) is at
find_one (Some x ∷ rows) p zero r once is at =
    let e : x ≡ r = same_Some x r is in
    let s : same p x.prefix ≡ true = ap (same p) (ap (λ (t : Row). t.prefix) e ∙ at) ∙ same_itself p in
    at_first x rows p true s ∙ ap (λ (t : Row). Some t.attributes) e
find_one (Some x ∷ rows) p (suc n) r once is at =
    one_at x rows p r.attributes (same p x.prefix) refl
    (λ s. let e : 0 ≡ suc n = once 0 x refl s in absurd (omega (arith, e)))
    (find_one rows p n r (λ m s there same. let e : suc m ≡ suc n = once (suc m) s there same in omega (arith, e)) is at)

module _ (ins : AdjIns) (rows : List (Option Row)) (are : Numbered rows ins) where
  by_row : (p : Prefix) (n : ℕ) → number_of ins p ≡ Some n → (o : Option Row) → row_at rows n ≡ o → table_of rows p ≡ shown o
  by_row p n at None is = find_none rows p (λ m r there same.
      let e : n ≡ m = same_Some n m (sym at ∙ (ap (number_of ins) (sym same) ∙ are m r there)) in
      none_some (row_at rows m) r (subst (λ k. row_at rows k ≡ None) e is) there)
  by_row p n at (Some r) is = find_one rows p n r (λ m s there same. same_Some m n (sym (are m s there) ∙ (ap (number_of ins) same ∙ at))) is (number_once ins r.prefix p n (are n r is) at)

  by_option : (p : Prefix) (o : Option ℕ) → number_of ins p ≡ o → table_of rows p ≡ value_at rows o
  by_option p None at = find_none rows p (λ m r there same. none_some (number_of ins p) m at (ap (number_of ins) (sym same) ∙ are m r there))
  by_option p (Some n) at = by_row p n at (row_at rows n) refl

  -- what is due by prefix is what stands at the prefix's number
  pub by_number : (p : Prefix) (o : Option ℕ) → number_of ins p ≡ o → fin.get (loc_of rows) p ≡ value_at rows o
  by_number p o at = loc_table rows p ∙ by_option p o at

-- ---- a row written

module _ (ins : AdjIns) (rows : List (Option Row)) (n : ℕ) (x : Option Row) (below : n < length rows) where
  here : slice_get (slice_set rows n x) n ≡ Some x
  here = let y = some_row rows n x below in set_here rows n x y.0 y.1

  pub set_numbered : Numbered rows ins → ((r : Row) → x ≡ Some r → number_of ins r.prefix ≡ Some n) → Numbered (slice_set rows n x) ins
  set_numbered are new m r is = elim (cases_eq m n) [
    | inl e ↦ new r (sym (ap joined here) ∙ subst (λ k. row_at (slice_set rows n x) k ≡ Some r) e is) ∙ ap (λ k. Some k) (sym e)
    | inr ne ↦ are m r (sym (ap joined (set_apart rows n x m ne)) ∙ is)
  ]

  value_apart : (p q : Prefix) → number_of ins p ≡ Some n → same q p ≡ false → (o : Option ℕ) → number_of ins q ≡ o → value_at (slice_set rows n x) o ≡ value_at rows o
  value_apart p q at other None is = refl
  value_apart p q at other (Some m) is = elim (cases_eq m n) [
    | inl e ↦ absurd (
        let s : q ≡ p = number_once ins q p n (is ∙ ap (λ k. Some k) e) at in
        let f : true ≡ false = sym (same_itself p) ∙ subst (λ t. same t p ≡ false) s other in (cc))
    | inr ne ↦ ap (λ o. shown (joined o)) (set_apart rows n x m ne)
  ]

  set_at : (p q : Prefix) → number_of ins p ≡ Some n → (b : Bool) → same q p ≡ b → value_at (slice_set rows n x) (number_of ins q) ≡ cond b (shown x) (value_at rows (number_of ins q))
  set_at p q at true s = ap (λ t. value_at (slice_set rows n x) (number_of ins t)) (same_is q p s) ∙ (ap (value_at (slice_set rows n x)) at ∙ ap (λ o. shown (joined o)) here)
  set_at p q at false other = value_apart p q at other (number_of ins q) refl

  pub loc_set : (p : Prefix) → Numbered rows ins → number_of ins p ≡ Some n → ((r : Row) → x ≡ Some r → number_of ins r.prefix ≡ Some n) → (q : Prefix) → fin.get (loc_of (slice_set rows n x)) q ≡ cond (same q p) (shown x) (fin.get (loc_of rows) q)
  loc_set p are at new q =
      by_number ins (slice_set rows n x) (set_numbered are new) q (number_of ins q) refl
      ∙ set_at p q at (same q p) refl
      ∙ ap (cond (same q p) (shown x)) (sym (by_number ins rows are q (number_of ins q) refl))

-- ---- how many routes there are

pub loc_len : (ins : AdjIns) (k : ℕ) (rows : List (Option Row)) → HaveNumbers (numbers_from k rows) ins → fin.len (loc_of rows) ≡ count_by is_some rows
loc_len ins k [] h = fin.len-empty prefix_order (List Attribute)
loc_len ins k (None ∷ rows) h = loc_len ins (suc k) rows h
loc_len ins k (Some r ∷ rows) h =
    let none = find_none rows r.prefix (λ n s is same.
    let e : suc k + n ≡ k = same_Some (suc k + n) k (sym (numbered_from ins (suc k) rows h.1 n s is) ∙ (ap (number_of ins) same ∙ h.0)) in
    omega (arith, e)) in
    let absent : is_some (fin.get (loc_of rows) r.prefix) ≡ false = ap is_some (loc_table rows r.prefix ∙ none) in
    let more = fin.len-insert prefixes_total (loc_of rows) r.prefix r.attributes ∙ ap (λ b. cond b (fin.len (loc_of rows)) (fin.len (loc_of rows) + 1)) absent in
    let one : count_by is_some (Some r ∷ rows) ≡ 1 + count_by is_some rows = sum_by-cons (λ (o : Option Row). cond (is_some o) 1 0) (Some r) rows in
    omega (arith, more, one, loc_len ins (suc k) rows h.1)
