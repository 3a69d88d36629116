-- Prefixes listed with their numbers.
use Rattle.std.proofs.Common.{◌≡◌, ◌≢◌, ◌<◌, ◌≤◌, ◌+◌, ℕ, zero, suc, List, [], ◌∷◌, length, refl, sym, ◌∙◌, ap, arith, inl, inr, ◌⊎◌}
use Rattle.std.specs.Prelude.{Option, Some, None}
use Rattle.std.specs.List.{AllByRecursion, AllPairs}
use Rattle.std.specs.Map.{keys_of}
use Rattle.std.proofs.lemmas.Bool.{cases_eq}
use Rattle.std.proofs.lemmas.List.Elements.{All-from_recursion}
use Rattle.rs_octets.specs.Prefixes.{Prefix}
use Rattle.rs_adjin.specs.Listing.{with_numbered, numbered_from}
use Rattle.rs_octets.proofs.Members.{Has, Apart}

-- ---- the next of a list

pub none_from : (f : ℕ → Option Prefix) (n k : ℕ) → ((m : ℕ) → n ≤ m → f m ≡ None) → numbered_from f n k ≡ []
none_from f n zero none = refl
none_from f n (suc k) none = ap (λ o. with_numbered n o (numbered_from f (suc n) k)) (none n (omega arith)) ∙ none_from f (suc n) k (λ m up. none m (omega (arith, up)))

next_at : (f : ℕ → Option Prefix) (first k n left : ℕ) (p : Prefix) → first ≤ n → first + suc k ≡ suc n + left → ((m : ℕ) → first ≤ m → m < n → f m ≡ None) → f n ≡ Some p
    → (suc first ≤ n → numbered_from f (suc first) k ≡ (p, n) ∷ numbered_from f (suc n) left) → (first ≡ n) ⊎ (first ≢ n) → numbered_from f first (suc k) ≡ (p, n) ∷ numbered_from f (suc n) left
next_at f first k n left p low room none is later (inl e) =
    let size : k ≡ left = omega (arith, room, e) in
    ap (λ o. with_numbered first o (numbered_from f (suc first) k)) (ap f e ∙ is) ∙ (ap (λ m. (p, m) ∷ numbered_from f (suc m) k) e ∙ ap (λ j. (p, n) ∷ numbered_from f (suc n) j) size)
next_at f first k n left p low room none is later (inr ne) =
    ap (λ o. with_numbered first o (numbered_from f (suc first) k)) (none first (omega arith) (omega (arith, low, ne))) ∙ later (omega (arith, low, ne))

pub next_from : (f : ℕ → Option Prefix) (first k n left : ℕ) (p : Prefix) → first ≤ n → first + k ≡ suc n + left → ((m : ℕ) → first ≤ m → m < n → f m ≡ None) → f n ≡ Some p → numbered_from f first k ≡ (p, n) ∷ numbered_from f (suc n) left
next_from f first zero n left p low room none is = absurd (omega (arith, low, room))
next_from f first (suc k) n left p low room none is =
    next_at f first k n left p low room none is (λ up. next_from f (suc first) k n left p up (omega (arith, room)) (λ m more below. none m (omega (arith, more)) below) is) (cases_eq first n)

-- ---- what the list has

abbrev Stands : (ℕ → Option Prefix) → ℕ → Prefix → Type 0
Stands f n p = (m : ℕ) × (n ≤ m) × (f m ≡ Some p)

member_at : (f : ℕ → Option Prefix) (n k : ℕ) (p : Prefix) → (Has (keys_of (numbered_from f (suc n) k)) p → Stands f (suc n) p) → (o : Option Prefix) → f n ≡ o → Has (keys_of (with_numbered n o (numbered_from f (suc n) k))) p → Stands f n p
member_at f n k p later None is h = let m = later h in (m.0, omega (arith, m.1), m.2)
member_at f n k p later (Some q) is (inl same) = (n, omega arith, is ∙ ap (λ x. Some x) same)
member_at f n k p later (Some q) is (inr h) = let m = later h in (m.0, omega (arith, m.1), m.2)

pub member_has : (f : ℕ → Option Prefix) (n k : ℕ) (p : Prefix) → Has (keys_of (numbered_from f n k)) p → Stands f n p
member_has f n zero p h = absurd h
member_has f n (suc k) p h = member_at f n k p (λ g. member_has f (suc n) k p g) (f n) refl h

has_at : (f : ℕ → Option Prefix) (n k m : ℕ) (p : Prefix) → f m ≡ Some p → (n ≡ m) ⊎ Has (keys_of (numbered_from f (suc n) k)) p → (o : Option Prefix) → f n ≡ o → Has (keys_of (with_numbered n o (numbered_from f (suc n) k))) p
has_at f n k m p is (inl e) None none = absurd (let bad : None ≡ Some p = sym none ∙ (ap f e ∙ is) in (cc))
has_at f n k m p is (inr h) None none = h
has_at f n k m p is (inl e) (Some q) some = let same : Some q ≡ Some p = sym some ∙ (ap f e ∙ is) in inl (cc)
has_at f n k m p is (inr h) (Some q) some = inr h

pub has_member : (f : ℕ → Option Prefix) (n k m : ℕ) (p : Prefix) → n ≤ m → m < n + k → f m ≡ Some p → Has (keys_of (numbered_from f n k)) p
has_member f n zero m p low high is = absurd (omega (arith, low, high))
has_member f n (suc k) m p low high is =
    has_at f n k m p is (elim (cases_eq n m) [ inl e ↦ inl e | inr ne ↦ inr (has_member f (suc n) k m p (omega (arith, low, ne)) (omega (arith, high)) is) ]) (f n) refl

are_at : (f : ℕ → Option Prefix) (n k : ℕ) → AllByRecursion (λ (e : Prefix × ℕ). f e.1 ≡ Some e.0) (numbered_from f (suc n) k) → (o : Option Prefix) → f n ≡ o → AllByRecursion (λ (e : Prefix × ℕ). f e.1 ≡ Some e.0) (with_numbered n o (numbered_from f (suc n) k))
are_at f n k later None is = later
are_at f n k later (Some p) is = (is, later)

pub all_are : (f : ℕ → Option Prefix) (n k : ℕ) → AllByRecursion (λ (e : Prefix × ℕ). f e.1 ≡ Some e.0) (numbered_from f n k)
all_are f n zero = tt
all_are f n (suc k) = are_at f n k (all_are f (suc n) k) (f n) refl

-- ---- each prefix once

apart_at : (f : ℕ → Option Prefix) (n k : ℕ) → ((a b : ℕ) (p : Prefix) → f a ≡ Some p → f b ≡ Some p → a ≡ b) → Apart (keys_of (numbered_from f (suc n) k)) → (o : Option Prefix) → f n ≡ o → Apart (keys_of (with_numbered n o (numbered_from f (suc n) k)))
apart_at f n k once later None is = later
apart_at f n k once later (Some p) is = (
  λ q h same.
      let m = member_has f (suc n) k q h in
      let e : m.0 ≡ n = once m.0 n p (m.2 ∙ ap (λ x. Some x) (sym same)) is in
      absurd (omega (arith, m.1, e)),
  later,
)

pub numbered_apart : (f : ℕ → Option Prefix) (n k : ℕ) → ((a b : ℕ) (p : Prefix) → f a ≡ Some p → f b ≡ Some p → a ≡ b) → Apart (keys_of (numbered_from f n k))
numbered_apart f n zero once = tt
numbered_apart f n (suc k) once = apart_at f n k once (numbered_apart f (suc n) k once) (f n) refl

len_at : (n k : ℕ) (p : Option Prefix) (es : List (Prefix × ℕ)) → length (keys_of es) ≤ k → length (keys_of (with_numbered n p es)) ≤ suc k
len_at n k None es small = omega (arith, small)
len_at n k (Some p) es small = omega (arith, small)

pub numbered_len : (f : ℕ → Option Prefix) (n k : ℕ) → length (keys_of (numbered_from f n k)) ≤ k
numbered_len f n zero = omega arith
numbered_len f n (suc k) = len_at n k (f n) (numbered_from f (suc n) k) (numbered_len f (suc n) k)

-- ---- rising numbers

low_at : (f : ℕ → Option Prefix) (m n k : ℕ) → m ≤ n → AllByRecursion (λ (e : Prefix × ℕ). m ≤ e.1) (numbered_from f (suc n) k) → (o : Option Prefix) → AllByRecursion (λ (e : Prefix × ℕ). m ≤ e.1) (with_numbered n o (numbered_from f (suc n) k))
low_at f m n k low later None = later
low_at f m n k low later (Some p) = (low, later)

all_low : (f : ℕ → Option Prefix) (m n k : ℕ) → m ≤ n → AllByRecursion (λ (e : Prefix × ℕ). m ≤ e.1) (numbered_from f n k)
all_low f m n zero low = tt
all_low f m n (suc k) low = low_at f m n k low (all_low f m (suc n) k (omega (arith, low))) (f n)

pairs_at : (f : ℕ → Option Prefix) (n k : ℕ) → AllPairs (λ (d e : Prefix × ℕ). d.1 < e.1) (numbered_from f (suc n) k) → (o : Option Prefix) → AllPairs (λ (d e : Prefix × ℕ). d.1 < e.1) (with_numbered n o (numbered_from f (suc n) k))
pairs_at f n k later None i j d before below = later i j d before below
pairs_at f n k later (Some p) zero zero d before below = absurd (omega (arith, before))
pairs_at f n k later (Some p) zero (suc j) d before below = All-from_recursion (λ (e : Prefix × ℕ). suc n ≤ e.1) (numbered_from f (suc n) k) (all_low f (suc n) (suc n) k (omega arith)) j d (omega (arith, below))
pairs_at f n k later (Some p) (suc i) zero d before below = absurd (omega (arith, before))
pairs_at f n k later (Some p) (suc i) (suc j) d before below = later i j d (omega (arith, before)) (omega (arith, below))

pub numbers_rise : (f : ℕ → Option Prefix) (n k : ℕ) → AllPairs (λ (d e : Prefix × ℕ). d.1 < e.1) (numbered_from f n k)
numbers_rise f n zero i j d before below = absurd (omega (arith, below))
numbers_rise f n (suc k) i j d before below = pairs_at f n k (numbers_rise f (suc n) k) (f n) i j d before below
