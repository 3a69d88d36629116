-- Lists in which the same entries stand answer alike, whatever the order and repetition.
use Rattle.std.proofs.Common.{◌≡◌, ℕ, suc, ◌<◌, ◌||◌, Bool, true, false, List, [], ◌∷◌, length, refl, ap, ◌∙◌, arith, sym}
use Rattle.std.specs.Prelude.{◌↔◌}
use Rattle.std.specs.List.{list_any, Contains, HoldsAt}
use Rattle.std.proofs.lemmas.List.Elements.{Contains-from_at, at_from_Contains}
use Rattle.std.proofs.lemmas.List.Folds.{list_any_at}

one_behind : {A : Type 0} (x y : A) (xs : List A) → Contains xs y → Contains (x ∷ xs) y
one_behind x y xs c =
    let h : (k : ℕ) × (k < length xs) × HoldsAt (λ z. z ≡ y) xs k = at_from_Contains xs y c in
    Contains-from_at (x ∷ xs) y (suc h.0, omega (arith, h.1), λ d. h.2 d)

found_by : {A : Type 0} (p : A → Bool) (x : A) (xs : List A) (b : Bool) → p x ≡ b → ((list_any p xs ≡ true) → (y : A) × (Contains xs y × (p y ≡ true)))
    → (b || list_any p xs) ≡ true → (y : A) × (Contains (x ∷ xs) y × (p y ≡ true))
found_by p x xs true e more h = (x, (Contains-from_at (x ∷ xs) x (0, omega arith, λ d. refl), e))
found_by p x xs false e more h = let k = more h in (k.0, (one_behind x k.0 xs k.1.0, k.1.1))

found : {A : Type 0} (p : A → Bool) (xs : List A) → list_any p xs ≡ true → (y : A) × (Contains xs y × (p y ≡ true))
found p [] h = cc
found p (x ∷ xs) h = found_by p x xs (p x) refl (found p xs) h

settles : {A : Type 0} (p : A → Bool) (ys : List A) (x : A) → Contains ys x → p x ≡ true → list_any p ys ≡ true
settles p ys x c e =
    let h : (k : ℕ) × (k < length ys) × HoldsAt (λ z. z ≡ x) ys k = at_from_Contains ys x c in
    list_any_at p ys h.0 x h.1 (ap p (h.2 x) ∙ e)

alike : (a b : Bool) → (a ≡ true → b ≡ true) → (b ≡ true → a ≡ true) → a ≡ b
alike true b f g = sym (f refl)
alike false true f g = g refl
alike false false f g = refl

pub same_answer : {A : Type 0} (p : A → Bool) (xs ys : List A) → ((x : A) → Contains xs x ↔ Contains ys x) → list_any p xs ≡ list_any p ys
same_answer p xs ys same =
    alike (list_any p xs) (list_any p ys)
    (λ h. let k = found p xs h in settles p ys k.0 ((same k.0).0 k.1.0) k.1.1)
    (λ h. let k = found p ys h in settles p xs k.0 ((same k.0).1 k.1.0) k.1.1)
