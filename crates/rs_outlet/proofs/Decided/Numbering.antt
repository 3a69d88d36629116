-- Prefixes and the numbers that the Adj-RIBs-In gave to them.
use Rattle.std.proofs.Common.{◌≡◌, ℕ, zero, suc, ◌+◌, List, [], ◌∷◌, ◌++◌, get_or, length, replicate, Option, None, Some, slice_set, sym, ap, refl, ◌∙◌, subst, arith}
use Rattle.std.specs.Prelude.{◌<◌, ◌≤◌}
use Rattle.std.specs.FinMap as fin
use Rattle.rs_rows.specs.Rows.{IsPrepared, Listed, Row}
use Rattle.rs_rows.specs.Blocks.{IsGrown}
use Rattle.rs_outlet.specs.declared.changes.Change.{Change}
use Rattle.rs_outlet.specs.declared.outlet.Outlet.TheInside.{Inside}
use Rattle.rs_outlet.specs.Views.{Table, View, AreNumbered, HaveNumbers}
use Rattle.rs_outlet.specs.Inside.{row_at, loc_of, numbers_from, view_of, AreBelow, ArePlaced, HaveRows, IsNoNumberOf}
use Rattle.std.specs.List.{AllByRecursion}
use Rattle.std.proofs.lemmas.Option.{same_Some}
use Rattle.rs_octets.specs.Prefixes.{Prefix}
use Rattle.rs_adjin.specs.declared.adj_ins.AdjIns.{AdjIns}
use Rattle.rs_adjin.specs.AdjIns.{number_of, prefix_of}

-- the prefix of a number has that number
pub number_back : (ins : AdjIns) (p : Prefix) (n : ℕ) → prefix_of ins n ≡ Some p → number_of ins p ≡ Some n
unfolding number_of prefix_of
number_back ins p n h = ins.table.inverse.back p n h

-- a prefix is the one of its number
pub number_there : (ins : AdjIns) (p : Prefix) (n : ℕ) → number_of ins p ≡ Some n → prefix_of ins n ≡ Some p
unfolding number_of prefix_of
number_there ins p n h = ins.table.inverse.there p n h

pub all_behind : {X : Type 0} (P : X → Type 0) (xs ys : List X) → AllByRecursion P (xs ++ ys) → AllByRecursion P ys
all_behind P [] ys h = h
all_behind P (x ∷ xs) ys h = all_behind P xs ys h.1

pub all_front : {X : Type 0} (P : X → Type 0) (xs ys : List X) → AllByRecursion P (xs ++ ys) → AllByRecursion P xs
all_front P [] ys h = tt
all_front P (x ∷ xs) ys h = (h.0, all_front P xs ys h.1)

pub all_both : {X : Type 0} (P : X → Type 0) (xs ys : List X) → AllByRecursion P xs → AllByRecursion P ys → AllByRecursion P (xs ++ ys)
all_both P [] ys h k = k
all_both P (x ∷ xs) ys h k = (h.0, all_both P xs ys h.1 k)

-- the rows and the touched prefixes of an outlet whose prefixes have their numbers
module _ (ins : AdjIns) (a : Inside) (v : View) (is : view_of a ≡ v) (are : AreNumbered v ins) where
  both_numbered : HaveNumbers (numbers_from 0 a.rows.rows.items ++ a.touched.prefixes.items) ins
  both_numbered = subst (λ (v : View). AreNumbered v ins) (sym is) are

  pub rows_numbered : HaveNumbers (numbers_from 0 a.rows.rows.items) ins
  rows_numbered = all_front (λ (e : ℕ × Prefix). number_of ins e.1 ≡ Some e.0) (numbers_from 0 a.rows.rows.items) a.touched.prefixes.items both_numbered

  pub touched_numbered : HaveNumbers a.touched.prefixes.items ins
  touched_numbered = all_behind (λ (e : ℕ × Prefix). number_of ins e.1 ≡ Some e.0) (numbers_from 0 a.rows.rows.items) a.touched.prefixes.items both_numbered

pub all_nil : {X : Type 0} (xs : List X) → xs ++ [] ≡ xs
all_nil [] = refl
all_nil (x ∷ xs) = ap (λ ys. x ∷ ys) (all_nil xs)

pub no_elements : {X : Type 0} (xs : List X) → length xs ≡ 0 → [] ≡ xs
no_elements [] h = refl
no_elements (x ∷ xs) h = absurd (omega (arith, h))

-- two prefixes don't have one number
pub number_once : (ins : AdjIns) (p q : Prefix) (n : ℕ) → number_of ins p ≡ Some n → number_of ins q ≡ Some n → p ≡ q
unfolding number_of
number_once ins p q n a b = same_Some p q (sym (ins.table.inverse.there p n a) ∙ ins.table.inverse.there q n b)

-- ---- free rows more

free_at : (k m : ℕ) → row_at (replicate k None) m ≡ None
free_at zero zero = refl
free_at zero (suc m) = refl
free_at (suc k) zero = refl
free_at (suc k) (suc m) = free_at k m

grown_at : (k : ℕ) (rows : List (Option Row)) (m : ℕ) → row_at (rows ++ replicate k None) m ≡ row_at rows m
grown_at k [] zero = free_at k 0
grown_at k [] (suc m) = free_at k (suc m)
grown_at k (x ∷ rows) zero = refl
grown_at k (x ∷ rows) (suc m) = grown_at k rows m

free_loc : (k : ℕ) → loc_of (replicate k None) ≡ fin.empty
free_loc zero = refl
free_loc (suc k) = free_loc k

loc_behind : (k : ℕ) (rows : List (Option Row)) → loc_of (rows ++ replicate k None) ≡ loc_of rows
loc_behind k [] = free_loc k
loc_behind k (None ∷ rows) = loc_behind k rows
loc_behind k (Some r ∷ rows) = ap (λ (t : Table). fin.insert t r.prefix r.attributes) (loc_behind k rows)

free_numbers : (n k : ℕ) → numbers_from n (replicate k None) ≡ []
free_numbers n zero = refl
free_numbers n (suc k) = free_numbers (suc n) k

numbers_behind : (n k : ℕ) (rows : List (Option Row)) → numbers_from n (rows ++ replicate k None) ≡ numbers_from n rows
numbers_behind n k [] = free_numbers n k
numbers_behind n k (None ∷ rows) = numbers_behind (suc n) k rows
numbers_behind n k (Some r ∷ rows) = ap (λ es. (n, r.prefix) ∷ es) (numbers_behind (suc n) k rows)

pub grown_row : (old new : List (Option Row)) (m : ℕ) → IsGrown old new → row_at new m ≡ row_at old m
grown_row old new m (k, is) = ap (λ rows. row_at rows m) is ∙ grown_at k old m

pub grown_loc : (old new : List (Option Row)) → IsGrown old new → loc_of new ≡ loc_of old
grown_loc old new (k, is) = ap loc_of is ∙ loc_behind k old

pub grown_numbers : (old new : List (Option Row)) → IsGrown old new → numbers_from 0 new ≡ numbers_from 0 old
grown_numbers old new (k, is) = ap (numbers_from 0) is ∙ numbers_behind 0 k old

-- ---- a row written

pub numbers_set : (P : ℕ × Prefix → Type 0) (k : ℕ) (rows : List (Option Row)) (n : ℕ) (x : Option Row) → AllByRecursion P (numbers_from k rows) → ((r : Row) → x ≡ Some r → P (k + n, r.prefix)) → AllByRecursion P (numbers_from k (slice_set rows n x))
numbers_set P k [] n x h is = h
numbers_set P k (None ∷ rows) zero None h is = h
numbers_set P k (Some s ∷ rows) zero None h is = h.1
numbers_set P k (None ∷ rows) zero (Some r) h is = (subst (λ m. P (m, r.prefix)) (let e : k + 0 ≡ k = omega arith in e) (is r refl), h)
numbers_set P k (Some s ∷ rows) zero (Some r) h is = (subst (λ m. P (m, r.prefix)) (let e : k + 0 ≡ k = omega arith in e) (is r refl), h.1)
numbers_set P k (None ∷ rows) (suc n) x h is = numbers_set P (suc k) rows n x h (λ r e. subst (λ m. P (m, r.prefix)) (let e : k + suc n ≡ suc k + n = omega arith in e) (is r e))
numbers_set P k (Some s ∷ rows) (suc n) x h is = (h.0, numbers_set P (suc k) rows n x h.1 (λ r e. subst (λ m. P (m, r.prefix)) (let e : k + suc n ≡ suc k + n = omega arith in e) (is r e)))

-- the numbers from k on are k and above
later_from : (k : ℕ) (rows : List (Option Row)) (m : ℕ) → m < k → IsNoNumberOf m (numbers_from k rows)
later_from k [] m h = tt
later_from k (None ∷ rows) m h = later_from (suc k) rows m (omega (arith, h))
later_from k (Some r ∷ rows) m h = (λ e. absurd (omega (arith, h, e)), later_from (suc k) rows m (omega (arith, h)))

-- a row that is free has no number
free_from : (k : ℕ) (rows : List (Option Row)) (n m : ℕ) → row_at rows n ≡ None → m ≡ k + n → IsNoNumberOf m (numbers_from k rows)
free_from k [] n m free is = tt
free_from k (None ∷ rows) zero m free is = later_from (suc k) rows m (omega (arith, is))
free_from k (Some r ∷ rows) zero m free is = absurd (let f : Some r ≡ None = free in (cc))
free_from k (None ∷ rows) (suc n) m free is = free_from (suc k) rows n m free (omega (arith, is))
free_from k (Some r ∷ rows) (suc n) m free is = (λ e. absurd (omega (arith, is, e)), free_from (suc k) rows n m free (omega (arith, is)))

pub free_number : (rows : List (Option Row)) (n : ℕ) → row_at rows n ≡ None → IsNoNumberOf n (numbers_from 0 rows)
free_number rows n free = free_from 0 rows n n free (let e : n ≡ 0 + n = omega arith in e)

-- a row that has a route has its number
taken_from : (k : ℕ) (rows : List (Option Row)) (n m : ℕ) (r : Row) → row_at rows n ≡ Some r → m ≡ k + n → IsNoNumberOf m (numbers_from k rows) → ⊥
taken_from k [] n m r is e h = absurd (let f : ◌≡◌ {A = Option Row} None (Some r) = is in cc)
taken_from k (None ∷ rows) zero m r is e h = absurd (let f : ◌≡◌ {A = Option Row} None (Some r) = is in cc)
taken_from k (Some s ∷ rows) zero m r is e h = h.0 (omega (arith, e))
taken_from k (None ∷ rows) (suc n) m r is e h = taken_from (suc k) rows n m r is (omega (arith, e)) h
taken_from k (Some s ∷ rows) (suc n) m r is e h = taken_from (suc k) rows n m r is (omega (arith, e)) h.1

pub taken_number : (rows : List (Option Row)) (n : ℕ) (r : Row) → row_at rows n ≡ Some r → IsNoNumberOf n (numbers_from 0 rows) → ⊥
taken_number rows n r is h = taken_from 0 rows n n r is (let e : n ≡ 0 + n = omega arith in e) h

zero_plus : (n : ℕ) → 0 + n ≡ n
zero_plus n = omega arith

pub numbers_write : (ins : AdjIns) (rows : List (Option Row)) (n : ℕ) (r : Row) → HaveNumbers (numbers_from 0 rows) ins → number_of ins r.prefix ≡ Some n → HaveNumbers (numbers_from 0 (slice_set rows n (Some r))) ins
numbers_write ins rows n r h is =
    numbers_set (λ e. number_of ins e.1 ≡ Some e.0) 0 rows n (Some r) h (λ s e. ap (λ (t : Row). number_of ins t.prefix) (sym (same_Some r s e)) ∙ is ∙ ap (λ k. Some k) (sym (zero_plus n)))

pub numbers_erase : (ins : AdjIns) (rows : List (Option Row)) (n : ℕ) → HaveNumbers (numbers_from 0 rows) ins → HaveNumbers (numbers_from 0 (slice_set rows n None)) ins
numbers_erase ins rows n h = numbers_set (λ e. number_of ins e.1 ≡ Some e.0) 0 rows n None h (λ s e. cc e)

-- a change at a number that a prefix has is below all numbers
pub are_below : (cs : List Change) (ins : AdjIns) (most : ℕ) → ((p : Prefix) (n : ℕ) → number_of ins p ≡ Some n → n < most) → ArePlaced cs ins → AreBelow cs most
are_below [] ins most below h = tt
are_below (c ∷ cs) ins most below h = (below c.prefix c.number h.0, are_below cs ins most below h.1)

pub more_below : (cs : List Change) (most count : ℕ) → most ≤ count → AreBelow cs most → AreBelow cs count
more_below [] most count fits h = tt
more_below (c ∷ cs) most count fits h = (let l : c.number < most = h.0 in omega (arith, l, fits), more_below cs most count fits h.1)

-- ---- what is prepared

abbrev IsReady : Listed → Change → Type 0
IsReady rows c = (c.number < length rows.items) × IsPrepared rows.prepared c.number

kept_ready : (old new : Listed) (cs : List Change) → new.items ≡ old.items → ((n : ℕ) → IsPrepared old.prepared n → IsPrepared new.prepared n) → HaveRows cs old → HaveRows cs new
kept_ready old new [] same kept h = tt
kept_ready old new (c ∷ cs) same kept h = ((let l = h.0.0 in omega (arith, l, ap length same), kept c.number h.0.1), kept_ready old new cs same kept h.1)

-- a change more is prepared
pub one_more_ready : (old new : Listed) (cs : List Change) (c : Change) → new.items ≡ old.items → ((n : ℕ) → IsPrepared old.prepared n → IsPrepared new.prepared n)
    → c.number < length old.items → IsPrepared new.prepared c.number → HaveRows cs old → HaveRows (cs ++ c ∷ []) new
one_more_ready old new cs c same kept below is h =
    all_both (IsReady new) cs (c ∷ []) (kept_ready old new cs same kept h) ((omega (arith, below, ap length same), is), tt)

-- the change at a place
pub below_at : (cs : List Change) (most i : ℕ) (c : Change) → i < length cs → c ≡ get_or cs i c → AreBelow cs most → c.number < most
below_at [] most i c within is h = absurd (omega (arith, within))
below_at (d ∷ cs) most zero c within is h = subst (λ (e : Change). e.number < most) (sym is) h.0
below_at (d ∷ cs) most (suc i) c within is h = below_at cs most i c (omega (arith, within)) is h.1
