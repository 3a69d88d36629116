-- What one filter keeps.
use Rattle.std.proofs.Common.{Bool, true, false, not, ◌≡◌, ◌≤◌, ℕ, List, refl, ap, arith}
use Rattle.std.specs.Prelude.{nat_lt}
use Rattle.std.specs.List.{list_any}
use Rattle.std.proofs.lemmas.Bool.Decides.{nat_tests}
use Rattle.rs_decision.specs.declared.rank.Rank.{Rank}
use Rattle.rs_decision.specs.Choice.{unbeaten}
use Rattle.rs_octets.proofs.Members.{Has, kept, keeps, any_false, none_of, ApartBy, apart_kept_by}

pub not_below : (a b : ℕ) → b ≤ a → nat_lt a b ≡ false
not_below a b h = grind (arith, nat_tests)

pub at_most : (a b : ℕ) → nat_lt a b ≡ false → b ≤ a
at_most a b h = grind (arith, nat_tests)

not_false : (b : Bool) → not b ≡ true → b ≡ false
not_false true is = (cc)
not_false false is = refl

pub from_unbeaten : (better : Rank → Rank → Bool) (xs : List Rank) (x : Rank) → Has (unbeaten better xs) x → Has xs x × ((y : Rank) → Has xs y → better y x ≡ false)
unfolding unbeaten
from_unbeaten better xs x h =
    let both : Has xs x × (not (list_any (λ y. better y x) xs) ≡ true) = kept (λ r. not (list_any (λ y. better y r) xs)) xs x h in
    (both.0, none_of (λ y. better y x) xs (not_false _ both.1))

pub to_unbeaten : (better : Rank → Rank → Bool) (xs : List Rank) (x : Rank) → Has xs x → ((y : Rank) → Has xs y → better y x ≡ false) → Has (unbeaten better xs) x
unfolding unbeaten
to_unbeaten better xs x h none = keeps (λ r. not (list_any (λ y. better y r) xs)) xs x h (ap not (any_false (λ y. better y x) xs none))

pub unbeaten_apart : (key : Rank → ℕ) (better : Rank → Rank → Bool) (xs : List Rank) → ApartBy key xs → ApartBy key (unbeaten better xs)
unfolding unbeaten
unbeaten_apart key better xs all = apart_kept_by key (λ r. not (list_any (λ y. better y r) xs)) xs all

-- ---- a filter by the lowest key

abbrev pub lowest : (Rank → ℕ) → List Rank → List Rank
lowest key xs = unbeaten (λ a b. nat_lt (key a) (key b)) xs

pub lowest_is_least : (key : Rank → ℕ) (xs : List Rank) (x : Rank) → Has (lowest key xs) x → (y : Rank) → Has xs y → key x ≤ key y
lowest_is_least key xs x h y hy = at_most (key y) (key x) ((from_unbeaten (λ a b. nat_lt (key a) (key b)) xs x h).1 y hy)

pub least_is_lowest : (key : Rank → ℕ) (xs : List Rank) (x : Rank) → Has xs x → ((y : Rank) → Has xs y → key x ≤ key y) → Has (lowest key xs) x
least_is_lowest key xs x h least = to_unbeaten (λ a b. nat_lt (key a) (key b)) xs x h (λ y hy. not_below (key y) (key x) (least y hy))

pub lowest_in : (key : Rank → ℕ) (xs : List Rank) (x : Rank) → Has (lowest key xs) x → Has xs x
lowest_in key xs x h = (from_unbeaten (λ a b. nat_lt (key a) (key b)) xs x h).0

pub lowest_same : (key : Rank → ℕ) (xs : List Rank) (x y : Rank) → Has (lowest key xs) x → Has (lowest key xs) y → key y ≡ key x
lowest_same key xs x y hx hy =
    let down : key y ≤ key x = lowest_is_least key xs y hy x (lowest_in key xs x hx) in
    let up : key x ≤ key y = lowest_is_least key xs x hx y (lowest_in key xs y hy) in
    omega arith

pub lowest_joins : (key : Rank → ℕ) (xs : List Rank) (x y : Rank) → Has (lowest key xs) x → Has xs y → key y ≡ key x → Has (lowest key xs) y
lowest_joins key xs x y hx hy same = least_is_lowest key xs y hy (λ z hz. let least : key x ≤ key z = lowest_is_least key xs x hx z hz in omega arith)

-- ---- a filter by the highest key

abbrev pub highest : (Rank → ℕ) → List Rank → List Rank
highest key xs = unbeaten (λ a b. nat_lt (key b) (key a)) xs

pub highest_is_greatest : (key : Rank → ℕ) (xs : List Rank) (x : Rank) → Has (highest key xs) x → (y : Rank) → Has xs y → key y ≤ key x
highest_is_greatest key xs x h y hy = at_most (key x) (key y) ((from_unbeaten (λ a b. nat_lt (key b) (key a)) xs x h).1 y hy)

pub greatest_is_highest : (key : Rank → ℕ) (xs : List Rank) (x : Rank) → Has xs x → ((y : Rank) → Has xs y → key y ≤ key x) → Has (highest key xs) x
greatest_is_highest key xs x h greatest = to_unbeaten (λ a b. nat_lt (key b) (key a)) xs x h (λ y hy. not_below (key x) (key y) (greatest y hy))

pub highest_in : (key : Rank → ℕ) (xs : List Rank) (x : Rank) → Has (highest key xs) x → Has xs x
highest_in key xs x h = (from_unbeaten (λ a b. nat_lt (key b) (key a)) xs x h).0

pub highest_same : (key : Rank → ℕ) (xs : List Rank) (x y : Rank) → Has (highest key xs) x → Has (highest key xs) y → key y ≡ key x
highest_same key xs x y hx hy =
    let down : key x ≤ key y = highest_is_greatest key xs y hy x (highest_in key xs x hx) in
    let up : key y ≤ key x = highest_is_greatest key xs x hx y (highest_in key xs y hy) in
    omega arith

pub highest_joins : (key : Rank → ℕ) (xs : List Rank) (x y : Rank) → Has (highest key xs) x → Has xs y → key y ≡ key x → Has (highest key xs) y
highest_joins key xs x y hx hy same = greatest_is_highest key xs y hy (λ z hz. let greatest : key z ≤ key x = highest_is_greatest key xs x hx z hz in omega arith)
