-- The first spelling of each type, with a spelling more.
use Rattle.std.proofs.Common.{◌≡◌, ℕ, zero, suc, ◌+◌, ◌<◌, ◌≤◌, ◌&&◌, ◌||◌, Bool, true, false, cond, List, [], ◌∷◌, ◌++◌, Option, Some, None, refl, sym, ap, ◌∙◌, arith, nat_lt, nat_eq, ◌⊎◌, inl, inr}
use Rattle.std.specs.Prelude.{is_some, not, count_by, ◌==◌}
use Rattle.std.specs.List.{list_any, range_with_len}
use Rattle.std.proofs.lemmas.Bool.{cases_lt, eqb-true, eq-eqb, ne_eqb, lt-ltb}
use Rattle.std.proofs.lemmas.List.Sums.{sum_by-cons}
use Rattle.std.proofs.Math.Bool.{or_comm}
use Rattle.rs_attrs.specs.declared.mode.Mode.{Mode}
use Rattle.rs_attrs.specs.declared.table.Outcome.{Outcome}
use Rattle.rs_attrs.specs.Spellings.{Spelling}
use Rattle.rs_attrs.specs.Table.{outcome_of}
use Rattle.rs_attrs.specs.Meaning.{that_counts, stands_twice, comes_to, some_comes_to, all_types}

-- ---- one more spelling

abbrev pub or_else : Option Spelling → Option Spelling → Option Spelling
or_else None y = y
or_else (Some x) y = Some x

abbrev pub if_kind : ℕ → Spelling → Option Spelling
if_kind kind s = cond (nat_eq s.kind kind) (Some s) None

pub counts_more : (kind : ℕ) (done : List Spelling) (s : Spelling) → that_counts kind (done ++ s ∷ []) ≡ or_else (that_counts kind done) (if_kind kind s)
counts_more kind [] s = refl
counts_more kind (t ∷ done) s = by_test (nat_eq t.kind kind) _ _ _ (counts_more kind done s)
  where
    by_test : (b : Bool) (x y z : Option Spelling) → x ≡ or_else y z → cond b (Some t) x ≡ or_else (cond b (Some t) y) z
    by_test true x y z e = refl
    by_test false x y z e = e

pub or_none : (o : Option Spelling) → or_else o None ≡ o
or_none None = refl
or_none (Some s) = refl

abbrev count : ℕ → List Spelling → ℕ
count kind ss = count_by (λ s. s.kind == kind) ss

abbrev one_if : Bool → ℕ
one_if b = cond b 1 0

count_cons : (kind : ℕ) (s : Spelling) (ss : List Spelling) → count kind (s ∷ ss) ≡ one_if (nat_eq s.kind kind) + count kind ss
count_cons kind s ss = sum_by-cons (λ s. cond (s.kind == kind) 1 0) s ss

count_more : (kind : ℕ) (done : List Spelling) (s : Spelling) → count kind (done ++ s ∷ []) ≡ count kind done + one_if (nat_eq s.kind kind)
count_more kind [] s = let e = count_cons kind s [] in omega arith
count_more kind (t ∷ done) s =
    let a = count_cons kind t (done ++ s ∷ []) in
    let b = count_cons kind t done in
    let c = count_more kind done s in
    omega arith

some_counts : (kind : ℕ) (done : List Spelling) → is_some (that_counts kind done) ≡ nat_lt 0 (count kind done)
some_counts kind [] = refl
some_counts kind (t ∷ done) = by_test (nat_eq t.kind kind) _ (count kind done) (some_counts kind done) ∙ ap (λ n. nat_lt 0 n) (sym (count_cons kind t done))
  where
    by_test : (b : Bool) (o : Option Spelling) (n : ℕ) → is_some o ≡ nat_lt 0 n → is_some (cond b (Some t) o) ≡ nat_lt 0 (one_if b + n)
    by_test true o n e = sym (lt-ltb 0 (1 + n) (omega arith))
    by_test false o n e = let same : 0 + n ≡ n = omega arith in e ∙ ap (λ n. nat_lt 0 n) (sym same)

pub twice_more : (kind : ℕ) (done : List Spelling) (s : Spelling) → stands_twice kind (done ++ s ∷ []) ≡ (stands_twice kind done || (is_some (that_counts kind done) && nat_eq s.kind kind))
twice_more kind done s =
    ap (λ n. nat_lt 1 n) (count_more kind done s) ∙ by_test (nat_eq s.kind kind) (count kind done)
    ∙ ap (λ b. nat_lt 1 (count kind done) || (b && nat_eq s.kind kind)) (sym (some_counts kind done))
  where
    by_test : (b : Bool) (n : ℕ) → nat_lt 1 (n + one_if b) ≡ (nat_lt 1 n || (nat_lt 0 n && b))
    by_test true zero = refl
    by_test false zero = refl
    by_test true (suc zero) = refl
    by_test false (suc zero) = refl
    by_test true (suc (suc n)) = lt-ltb 1 (suc (suc n) + 1) (omega arith) ∙ ap (λ b. b || (nat_lt 0 (suc (suc n)) && true)) (sym (lt-ltb 1 (suc (suc n)) (omega arith)))
    by_test false (suc (suc n)) = lt-ltb 1 (suc (suc n) + 0) (omega arith) ∙ ap (λ b. b || (nat_lt 0 (suc (suc n)) && false)) (sym (lt-ltb 1 (suc (suc n)) (omega arith)))

abbrev pub mp_stands_twice : List Spelling → Bool
mp_stands_twice ss = stands_twice 14 ss || stands_twice 15 ss

-- the spelling that counts of each type stays where one of the type came before
pub counts_same : (kind : ℕ) (done : List Spelling) (s : Spelling) → is_some (that_counts s.kind done) ≡ true → that_counts kind (done ++ s ∷ []) ≡ that_counts kind done
counts_same kind done s some = counts_more kind done s ∙ by_kind (nat_eq s.kind kind) refl
  where
    or_some : (o y : Option Spelling) → is_some o ≡ true → or_else o y ≡ o
    or_some None y e = cc
    or_some (Some t) y e = refl

    by_kind : (b : Bool) → nat_eq s.kind kind ≡ b → or_else (that_counts kind done) (cond b (Some s) None) ≡ that_counts kind done
    by_kind true e = or_some (that_counts kind done) (Some s) (ap (λ k. is_some (that_counts k done)) (sym (eqb-true s.kind kind e)) ∙ some)
    by_kind false e = or_none (that_counts kind done)

-- and is this one where none did
pub counts_new : (kind : ℕ) (done : List Spelling) (s : Spelling) → is_some (that_counts s.kind done) ≡ false → that_counts kind (done ++ s ∷ []) ≡ cond (nat_eq s.kind kind) (Some s) (that_counts kind done)
counts_new kind done s none = counts_more kind done s ∙ by_kind (nat_eq s.kind kind) refl
  where
    empty : (o : Option Spelling) → is_some o ≡ false → or_else o (Some s) ≡ Some s
    empty None e = refl
    empty (Some t) e = cc

    by_kind : (b : Bool) → nat_eq s.kind kind ≡ b → or_else (that_counts kind done) (cond b (Some s) None) ≡ cond b (Some s) (that_counts kind done)
    by_kind true e = empty (that_counts kind done) (ap (λ k. is_some (that_counts k done)) (sym (eqb-true s.kind kind e)) ∙ none)
    by_kind false e = or_none (that_counts kind done)

-- ---- outcomes

pub types_all : all_types ≡ range_with_len 0 256
unfolding all_types
types_all = refl

-- a test that differs at one type alone
abbrev DiffersAt : (ℕ → Bool) → (ℕ → Bool) → ℕ → Bool → Type 0
DiffersAt f g k b = (kind : ℕ) → g kind ≡ cond (nat_eq k kind) b (f kind)

any_above : (f g : ℕ → Bool) (k : ℕ) (b : Bool) → DiffersAt f g k b → (a n : ℕ) → k < a → list_any g (range_with_len a n) ≡ list_any f (range_with_len a n)
any_above f g k b put a zero h = refl
any_above f g k b put a (suc n) h =
    λ i. (put a ∙ ap (λ c. cond c b (f a)) (ne_eqb k a (λ e. omega arith))) i || any_above f g k b put (a + 1) n (omega arith) i

any_put : (f g : ℕ → Bool) (k : ℕ) (b : Bool) → f k ≡ false → DiffersAt f g k b → (a n : ℕ) → a ≤ k → k < a + n → list_any g (range_with_len a n) ≡ (list_any f (range_with_len a n) || b)
any_put f g k b none put a zero low high = absurd (omega arith)
any_put f g k b none put a (suc n) low high = by_order (cases_lt a k) (λ h. any_put f g k b none put (a + 1) n (omega arith) (omega arith))
  where
    or_assoc : (x y z : Bool) → (x || (y || z)) ≡ (x || y || z)
    or_assoc true y z = refl
    or_assoc false y z = refl

    by_order : (a < k) ⊎ (k ≤ a) → (a < k → list_any g (range_with_len (a + 1) n) ≡ (list_any f (range_with_len (a + 1) n) || b))
        → list_any g (range_with_len a (suc n)) ≡ (list_any f (range_with_len a (suc n)) || b)
    by_order (inl h) later =
        (λ i. (put a ∙ ap (λ c. cond c b (f a)) (ne_eqb k a (λ e. omega arith))) i || later h i)
        ∙ or_assoc (f a) (list_any f (range_with_len (a + 1) n)) b
    by_order (inr h) later =
        let here : k ≡ a = omega arith in
        (λ i. (put a ∙ ap (λ c. cond c b (f a)) (eq-eqb k a here)) i || any_above f g k b put (a + 1) n (omega arith) i)
        ∙ or_comm b (list_any f (range_with_len (a + 1) n))
        ∙ ap (λ x. x || list_any f (range_with_len (a + 1) n) || b) (sym (ap f (sym here) ∙ none))

-- some type comes to an outcome, with a spelling more
pub comes_more : (is_it : Outcome → Bool) (mode : Mode) (done : List Spelling) (s : Spelling) → s.kind < 256
    → some_comes_to is_it mode (done ++ s ∷ []) ≡ (some_comes_to is_it mode done || (not (is_some (that_counts s.kind done)) && is_it (outcome_of mode s)))
comes_more is_it mode done s byte = by_test (is_some (that_counts s.kind done)) refl
  where
    or_false : (x : Bool) → x ≡ (x || false)
    or_false true = refl
    or_false false = refl

    none : (o : Option Spelling) → is_some o ≡ false → comes_to is_it mode o ≡ false
    none None e = refl
    none (Some t) e = cc

    put : is_some (that_counts s.kind done) ≡ false → (kind : ℕ) → comes_to is_it mode (that_counts kind (done ++ s ∷ [])) ≡ cond (nat_eq s.kind kind) (is_it (outcome_of mode s)) (comes_to is_it mode (that_counts kind done))
    put e kind = ap (comes_to is_it mode) (counts_new kind done s e) ∙ either (nat_eq s.kind kind)
      where
        either : (b : Bool) → comes_to is_it mode (cond b (Some s) (that_counts kind done)) ≡ cond b (is_it (outcome_of mode s)) (comes_to is_it mode (that_counts kind done))
        either true = refl
        either false = refl

    by_test : (b : Bool) → is_some (that_counts s.kind done) ≡ b → some_comes_to is_it mode (done ++ s ∷ []) ≡ (some_comes_to is_it mode done || (not b && is_it (outcome_of mode s)))
    by_test true e = (λ i. list_any (λ kind. comes_to is_it mode (counts_same kind done s e i)) all_types) ∙ or_false (some_comes_to is_it mode done)
    by_test false e =
        ap (list_any (λ kind. comes_to is_it mode (that_counts kind (done ++ s ∷ [])))) types_all
        ∙ any_put (λ kind. comes_to is_it mode (that_counts kind done)) (λ kind. comes_to is_it mode (that_counts kind (done ++ s ∷ []))) s.kind (is_it (outcome_of mode s)) (none (that_counts s.kind done) e) (put e) 0 256 (omega arith) byte
        ∙ ap (λ kinds. list_any (λ kind. comes_to is_it mode (that_counts kind done)) kinds || is_it (outcome_of mode s)) (sym types_all)
