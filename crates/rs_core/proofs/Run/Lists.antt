-- A value that was written, and tests of a client's number.
use Rattle.std.proofs.Common.{◌≡◌, ◌≢◌, ◌<◌, ℕ, zero, suc, [], ◌∷◌, ◌++◌, true, ◌==◌, List, length, refl, sym, ◌∙◌, ap, subst, arith}
use Rattle.std.specs.Prelude.{Option, Some, Result, Ok, Err, OnOk, OnErr, slice_get, slice_set, if◌then◌else◌}
use Rattle.std.proofs.lemmas.Bool.Decides.{nat_tests}
use Rattle.rs_core.specs.Run.Parts.{SetsAt}
use Rattle.rs_core.proofs.Run.Clients.{is_own, is_other}

pub some_is : {X : Type 0} (x y : X) → ◌≡◌ {A = Option X} (Some x) (Some y) → x ≡ y
some_is x y e = cc

pub get_set_same : {X : Type 0} (xs : List X) (i : ℕ) (v : X) → i < length xs → slice_get (slice_set xs i v) i ≡ Some v
get_set_same [] i v h = absurd (omega arith)
get_set_same (x ∷ xs) zero v h = refl
get_set_same (x ∷ xs) (suc i) v h = get_set_same xs i v (omega arith)

get_set_other : {X : Type 0} (xs : List X) (i j : ℕ) (v : X) → i ≢ j → slice_get (slice_set xs i v) j ≡ slice_get xs j
get_set_other [] i j v h = refl
get_set_other (x ∷ xs) zero zero v h = absurd (h refl)
get_set_other (x ∷ xs) zero (suc j) v h = refl
get_set_other (x ∷ xs) (suc i) zero v h = refl
get_set_other (x ∷ xs) (suc i) (suc j) v h = get_set_other xs i j v (λ e. h (ap (λ n. suc n) e))

pub set_same : {X : Type 0} (xs : List X) (i : ℕ) (v : X) → slice_get xs i ≡ Some v → slice_set xs i v ≡ xs
set_same [] i v e = refl
set_same (x ∷ xs) zero v e = ap (λ y. y ∷ xs) (sym (some_is x v e))
set_same (x ∷ xs) (suc i) v e = ap (λ l. x ∷ l) (set_same xs i v e)

-- one was written
pub set_at : {X : Type 0} (xs : List X) (c : ℕ) (v : X) → c < length xs → SetsAt c v xs (slice_set xs c v)
set_at xs c v lt = record {
  own = λ x e. sym (some_is v x (sym (get_set_same xs c v lt) ∙ e));
  others = λ d ne. get_set_other xs c d v (λ e. ne (sym e));
}

pub own : {A : Type 0} (c : ℕ) (x y : A) → (if c == c then x else y) ≡ x
own c x y = ap (λ b. if b then x else y) (is_own c)

pub other : {A : Type 0} (c d : ℕ) (x y : A) → d ≢ c → (if c == d then x else y) ≡ y
other c d x y ne = ap (λ b. if b then x else y) (is_other c d (λ e. ne (sym e)))

-- one was appended to the others
pub got_push : {X : Type 0} (P : ℕ → X → Type 0) (xs : List X) (v : X) → ((i : ℕ) (x : X) → slice_get xs i ≡ Some x → P i x) → P (length xs) v
    → (i : ℕ) (x : X) → slice_get (xs ++ v ∷ []) i ≡ Some x → P i x
got_push P [] v each own zero x e = subst (P 0) (some_is v x e) own
got_push P [] v each own (suc i) x e = absurd (cc)
got_push P (y ∷ ys) v each own zero x e = each zero x e
got_push P (y ∷ ys) v each own (suc i) x e = got_push (λ n. P (suc n)) ys v (λ j z f. each (suc j) z f) own i x e

pub on_err : {A E P : Type 0} (r : Result A E) → P → OnErr r P
on_err (Ok x) p = tt
on_err (Err e) p = p

pub map_ok : {A E P Q : Type 0} (r : Result A E) → OnOk r P → (P → Q) → OnOk r Q
map_ok (Ok x) p f = f p
map_ok (Err e) p f = tt

pub map_err : {A E P Q : Type 0} (r : Result A E) → OnErr r P → (P → Q) → OnErr r Q
map_err (Ok x) p f = tt
map_err (Err e) p f = f p

-- no octets, by how many there are
pub none_are : (octets : List ℕ) → (length octets == 0) ≡ true → octets ≡ []
none_are [] e = refl
none_are (x ∷ xs) e = absurd (grind (arith, nat_tests, e))
