-- The rows of blocks, one after the other, as they are read and written.
use Rattle.std.proofs.Common.{◌≡◌, ◌≢◌, ◌<◌, ◌≤◌, ◌+◌, ◌-◌, ◌*◌, ◌/◌, ◌%◌, ℕ, zero, suc, Bool, true, Option, None, Some, List, [], ◌∷◌, ◌++◌, get_or, length, take, map, replicate, set, refl, sym, ap, subst, ◌∙◌, arith}
use Rattle.std.specs.Prelude.{slice_get}
use Rattle.std.specs.Arc.{arc_value}
use Rattle.std.specs.List.{flat_map}
use Rattle.std.proofs.lemmas.List.{append_assoc, append-nil, length-append, length-replicate, replicate-append-replicate, set-append_left, set-append_right}
use Rattle.std.proofs.lemmas.Option.{same_Some}
use Rattle.rs_rows.specs.Rows.{Row, IsPrepared, Listed, row_at, joined, written_from}
use Rattle.rs_rows.specs.Blocks.{IsGrown, free_rows, is_own, listed, rows_in}
use Rattle.rs_rows.specs.declared.part.Part.{Part}
use Rattle.rs_rows.specs.declared.part.Part.TheVariants as part

abbrev rows_of : List Part → List (Option Row)
rows_of ps = flat_map rows_in ps

-- ---- how many rows there are

pub sixteen : (p : Part) → length (rows_in p) ≡ 16
sixteen part.Free = let none : Option Row = None in length-replicate 16 none
sixteen (part.Own block) = block.value.full
sixteen (part.Over draft) = draft.value.full
sixteen (part.Shared block) = let b = arc_value block in b.full

pub rows_length : (ps : List Part) → length (rows_of ps) ≡ length ps * 16
rows_length [] = refl
rows_length (p ∷ ps) = omega (arith, length-append (rows_in p) (rows_of ps), sixteen p, rows_length ps)

-- the block of a number that has a row is there
pub block_below : (ps : List Part) (rows : Listed) (n : ℕ) → listed ps ≡ rows → n < length rows.items → n / 16 < length ps
block_below ps rows n is below = omega (arith, below, rows_length ps, ap (λ (v : Listed). length v.items) is)

-- ---- a row read

front_get : {X : Type 0} (xs ys : List X) (n : ℕ) → n < length xs → slice_get (xs ++ ys) n ≡ slice_get xs n
front_get [] ys n below = absurd (omega (arith, below))
front_get (x ∷ xs) ys zero below = refl
front_get (x ∷ xs) ys (suc n) below = front_get xs ys n (omega (arith, below))

behind_get : {X : Type 0} (xs ys : List X) (m n : ℕ) → n ≡ length xs + m → slice_get (xs ++ ys) n ≡ slice_get ys m
behind_get [] ys m n is = ap (slice_get ys) (let e : n ≡ m = omega (arith, is) in e)
behind_get (x ∷ xs) ys m zero is = absurd (omega (arith, is))
behind_get (x ∷ xs) ys m (suc n) is = behind_get xs ys m n (omega (arith, is))

pub row_within : (ps : List Part) (k j n : ℕ) (p : Part) → n ≡ k * 16 + j → slice_get ps k ≡ Some p → j < 16 → row_at (rows_of ps) n ≡ row_at (rows_in p) j
row_within [] k j n p at is below = absurd (let f : ◌≡◌ {A = Option Part} None (Some p) = is in cc)
row_within (o ∷ ps) zero j n p at is below =
    let here : n ≡ j = omega (arith, at) in
    ap joined (front_get (rows_in o) (rows_of ps) n (omega (arith, here, below, sixteen o)))
    ∙ ap (λ m. row_at (rows_in o) m) here ∙ ap (λ (q : Part). row_at (rows_in q) j) (same_Some o p is)
row_within (o ∷ ps) (suc k) j n p at is below =
    ap joined (behind_get (rows_in o) (rows_of ps) (n - 16) n (omega (arith, at, sixteen o))) ∙ row_within ps k j (n - 16) p (omega (arith, at)) is below

row_past : (ps : List Part) (k j n : ℕ) → n ≡ k * 16 + j → slice_get ps k ≡ None → row_at (rows_of ps) n ≡ None
row_past [] k j zero at is = refl
row_past [] k j (suc n) at is = refl
row_past (o ∷ ps) zero j n at is = absurd (let f : Some o ≡ None = is in cc)
row_past (o ∷ ps) (suc k) j n at is =
    ap joined (behind_get (rows_in o) (rows_of ps) (n - 16) n (omega (arith, at, sixteen o))) ∙ row_past ps k j (n - 16) (omega (arith, at)) is

parts_of : (n : ℕ) → n ≡ n / 16 * 16 + n % 16
parts_of n = omega arith

within : (n : ℕ) → n % 16 < 16
within n = omega arith

pub row_there : (ps : List Part) (n : ℕ) (p : Part) → slice_get ps (n / 16) ≡ Some p → row_at (rows_of ps) n ≡ row_at (rows_in p) (n % 16)
row_there ps n p is = row_within ps (n / 16) (n % 16) n p (parts_of n) is (within n)

pub row_nowhere : (ps : List Part) (n : ℕ) → slice_get ps (n / 16) ≡ None → row_at (rows_of ps) n ≡ None
row_nowhere ps n is = row_past ps (n / 16) (n % 16) n (parts_of n) is

-- what an index leads to
pub some_part : (ps : List Part) (k : ℕ) (p : Part) → k < length ps → p ≡ get_or ps k p → slice_get ps k ≡ Some p
some_part [] k p below is = absurd (omega (arith, below))
some_part (o ∷ ps) zero p below is = ap (λ (q : Part). Some q) (sym is)
some_part (o ∷ ps) (suc k) p below is = some_part ps k p (omega (arith, below)) is

pub no_part : (ps : List Part) (k : ℕ) → length ps ≤ k → slice_get ps k ≡ None
no_part [] zero past = refl
no_part [] (suc k) past = refl
no_part (o ∷ ps) zero past = absurd (omega (arith, past))
no_part (o ∷ ps) (suc k) past = no_part ps k (omega (arith, past))

-- one row more
taken_next : (xs : List (Option Row)) (n : ℕ) → n < length xs → take n xs ++ row_at xs n ∷ [] ≡ take (suc n) xs
taken_next [] n below = absurd (omega (arith, below))
taken_next (x ∷ xs) zero below = refl
taken_next (x ∷ xs) (suc n) below = ap (λ ys. x ∷ ys) (taken_next xs n (omega (arith, below)))

pub taken_more : (xs : List (Option Row)) (n : ℕ) → n < length xs → take n xs ++ row_at xs n ∷ [] ≡ take (n + 1) xs
taken_more xs n below = taken_next xs n below ∙ ap (λ m. take m xs) (let e : suc n ≡ n + 1 = omega arith in e)

-- ---- a row written

set_within : (ps : List Part) (k j n : ℕ) (p q : Part) (x : Option Row) → n ≡ k * 16 + j → slice_get ps k ≡ Some p → j < 16 → rows_in q ≡ set (rows_in p) j x → rows_of (set ps k q) ≡ set (rows_of ps) n x
set_within [] k j n p q x at is below new = absurd (let f : ◌≡◌ {A = Option Part} None (Some p) = is in cc)
set_within (o ∷ ps) zero j n p q x at is below new =
    let here : j ≡ n = omega (arith, at) in
    ap (λ xs. xs ++ rows_of ps) (new ∙ ap (λ (r : Part). set (rows_in r) j x) (sym (same_Some o p is)) ∙ ap (λ m. set (rows_in o) m x) here)
    ∙ sym (set-append_left (rows_in o) (rows_of ps) n x (omega (arith, here, below, sixteen o)))
set_within (o ∷ ps) (suc k) j n p q x at is below new =
    ap (λ xs. rows_in o ++ xs) (set_within ps k j (n - 16) p q x (omega (arith, at)) is below new)
    ∙ sym (set-append_right (rows_in o) (rows_of ps) 16 n x (sixteen o) (omega (arith, at)))

row_set : (ps : List Part) (n : ℕ) (p q : Part) (x : Option Row) → slice_get ps (n / 16) ≡ Some p → rows_in q ≡ set (rows_in p) (n % 16) x → rows_of (set ps (n / 16) q) ≡ set (rows_of ps) n x
row_set ps n p q x is new = set_within ps (n / 16) (n % 16) n p q x (parts_of n) is (within n) new

-- another block of the same rows
same_set : (ps : List Part) (k : ℕ) (p q : Part) → slice_get ps k ≡ Some p → rows_in q ≡ rows_in p → rows_of (set ps k q) ≡ rows_of ps
same_set [] k p q is same = refl
same_set (o ∷ ps) zero p q is same = ap (λ xs. xs ++ rows_of ps) (same ∙ ap rows_in (sym (same_Some o p is)))
same_set (o ∷ ps) (suc k) p q is same = ap (λ xs. rows_in o ++ xs) (same_set ps k p q is same)

-- ---- what is prepared

own_within : (ps : List Part) (k : ℕ) → slice_get (map is_own ps) k ≡ Some true → k < length ps
own_within [] k is = absurd (let f : ◌≡◌ {A = Option Bool} None (Some true) = is in cc)
own_within (p ∷ ps) zero is = omega arith
own_within (p ∷ ps) (suc k) is = let rest = own_within ps k is in omega (arith, rest)

own_same : (ps : List Part) (k : ℕ) (q : Part) → is_own q ≡ true → slice_get (map is_own ps) k ≡ Some true → map is_own (set ps k q) ≡ map is_own ps
own_same [] k q new own = refl
own_same (o ∷ ps) zero q new own = ap (λ b. b ∷ map is_own ps) (new ∙ sym (same_Some (is_own o) true own))
own_same (o ∷ ps) (suc k) q new own = ap (λ bs. is_own o ∷ bs) (own_same ps k q new own)

pub own_here : (ps : List Part) (k : ℕ) (q : Part) → is_own q ≡ true → k < length ps → slice_get (map is_own (set ps k q)) k ≡ Some true
own_here [] k q new below = absurd (omega (arith, below))
own_here (o ∷ ps) zero q new below = ap (λ b. Some b) new
own_here (o ∷ ps) (suc k) q new below = own_here ps k q new (omega (arith, below))

pub own_there : (ps : List Part) (k : ℕ) (p : Part) → k < length ps → p ≡ get_or ps k p → is_own p ≡ true → slice_get (map is_own ps) k ≡ Some true
own_there [] k p below at own = absurd (omega (arith, below))
own_there (o ∷ ps) zero p below at own = ap (λ b. Some b) (ap is_own (sym at) ∙ own)
own_there (o ∷ ps) (suc k) p below at own = own_there ps k p (omega (arith, below)) at own

-- a block that was prepared still is, where another takes the place of one
pub own_kept : (ps : List Part) (k m : ℕ) (p q : Part) → k < length ps → p ≡ get_or ps k p → (is_own p ≡ true → is_own q ≡ true) → slice_get (map is_own ps) m ≡ Some true → slice_get (map is_own (set ps k q)) m ≡ Some true
own_kept [] k m p q below at new own = own
own_kept (o ∷ ps) zero zero p q below at new own = ap (λ b. Some b) (new (ap is_own at ∙ same_Some (is_own o) true own))
own_kept (o ∷ ps) zero (suc m) p q below at new own = own
own_kept (o ∷ ps) (suc k) zero p q below at new own = own
own_kept (o ∷ ps) (suc k) (suc m) p q below at new own = own_kept ps k m p q (omega (arith, below)) at new own

-- ---- a block in place of another, as it is seen

abbrev PreparedAt : Listed → ℕ → Type 0
PreparedAt rows n = IsPrepared rows.prepared n

module _ (ps : List Part) (rows : Listed) (is : listed ps ≡ rows) where
  own_still : (n : ℕ) → PreparedAt rows n → slice_get (map is_own ps) (n / 16) ≡ Some true
  own_still n prepared = subst (λ (v : Listed). PreparedAt v n) (sym is) prepared

  -- what was prepared is there
  pub part_prepared : (n : ℕ) (p : Part) → PreparedAt rows n → p ≡ get_or ps (n / 16) p → slice_get ps (n / 16) ≡ Some p
  part_prepared n p prepared at = some_part ps (n / 16) p (own_within ps (n / 16) (own_still n prepared)) at

  -- one row is another
  pub row_written : (n : ℕ) (p q : Part) (x : Option Row) → PreparedAt rows n → p ≡ get_or ps (n / 16) p → rows_in q ≡ set (rows_in p) (n % 16) x → rows_of (set ps (n / 16) q) ≡ set rows.items n x
  row_written n p q x prepared at new =
      row_set ps n p q x (part_prepared n p prepared at) new ∙ ap (λ (v : Listed). set v.items n x) is

  -- the same blocks are prepared
  pub prepared_still : (n : ℕ) (q : Part) → PreparedAt rows n → is_own q ≡ true → map is_own (set ps (n / 16) q) ≡ rows.prepared
  prepared_still n q prepared own = own_same ps (n / 16) q own (own_still n prepared) ∙ ap (λ (v : Listed). v.prepared) is

  -- all rows are as they were
  pub rows_still : (k : ℕ) (p q : Part) → k < length ps → p ≡ get_or ps k p → rows_in q ≡ rows_in p → rows_of (set ps k q) ≡ rows.items
  rows_still k p q below at same = same_set ps k p q (some_part ps k p below at) same ∙ ap (λ (v : Listed). v.items) is

-- ---- a free block more

pub rows_more : (ps : List Part) → rows_of (ps ++ part.Free ∷ []) ≡ rows_of ps ++ free_rows
rows_more [] = append-nil free_rows
rows_more (p ∷ ps) = ap (λ xs. rows_in p ++ xs) (rows_more ps) ∙ sym (append_assoc (rows_in p) (rows_of ps) free_rows)

pub grown_more : (xs : List (Option Row)) (ps : List Part) → IsGrown xs (rows_of ps) → IsGrown xs (rows_of (ps ++ part.Free ∷ []))
grown_more xs ps (k, is) = (k + 16, rows_more ps ∙ ap (λ ys. ys ++ free_rows) is ∙ append_assoc xs (replicate k None) free_rows ∙ ap (λ ys. xs ++ ys) (replicate-append-replicate k 16 None))

-- ---- a block in place of the rows that were

written_past : (front : List (Option Row)) (n m : ℕ) (xs ys : List (Option Row)) → m ≡ length front + n → written_from m xs (front ++ ys) ≡ front ++ written_from n xs ys
written_past front n m [] ys is = refl
written_past front n m (x ∷ xs) ys is =
    ap (written_from (suc m) xs) (set-append_right front ys (length front) m x refl (omega (arith, is)) ∙ ap (λ k. front ++ set ys k x) (let e : m - length front ≡ n = omega (arith, is) in e))
    ∙ written_past front (suc n) (suc m) xs (set ys n x) (omega (arith, is))

written_front : (xs ys rest : List (Option Row)) → length ys ≡ length xs → written_from 0 xs (ys ++ rest) ≡ xs ++ rest
written_front [] [] rest is = refl
written_front [] (y ∷ ys) rest is = absurd (omega (arith, is))
written_front (x ∷ xs) [] rest is = absurd (omega (arith, is))
written_front (x ∷ xs) (y ∷ ys) rest is = written_past (x ∷ []) 0 1 xs (ys ++ rest) (omega arith) ∙ ap (λ zs. x ∷ zs) (written_front xs ys rest (omega (arith, is)))

pub block_written : (ps : List Part) (k n : ℕ) (q : Part) → n ≡ k * 16 → k < length ps → rows_of (set ps k q) ≡ written_from n (rows_in q) (rows_of ps)
block_written [] k n q at below = absurd (omega (arith, below))
block_written (o ∷ ps) zero n q at below =
    sym (ap (λ m. written_from m (rows_in q) (rows_in o ++ rows_of ps)) (let e : n ≡ 0 = omega (arith, at) in e) ∙ written_front (rows_in q) (rows_in o) (rows_of ps) (sixteen o ∙ sym (sixteen q)))
block_written (o ∷ ps) (suc k) n q at below =
    ap (λ xs. rows_in o ++ xs) (block_written ps k (n - 16) q (omega (arith, at)) (omega (arith, below)))
    ∙ sym (written_past (rows_in o) (n - 16) n (rows_in q) (rows_of ps) (omega (arith, at, sixteen o)))

-- the other blocks are prepared as they were
pub own_apart : (ps : List Part) (k m : ℕ) (q : Part) → m ≢ k → slice_get (map is_own ps) m ≡ Some true → slice_get (map is_own (set ps k q)) m ≡ Some true
own_apart [] k m q ne own = own
own_apart (o ∷ ps) zero zero q ne own = absurd (ne refl)
own_apart (o ∷ ps) zero (suc m) q ne own = own
own_apart (o ∷ ps) (suc k) zero q ne own = own
own_apart (o ∷ ps) (suc k) (suc m) q ne own = own_apart ps k m q (λ e. ne (ap suc e)) own
