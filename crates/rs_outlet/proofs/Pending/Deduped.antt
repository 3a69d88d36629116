-- What a `dedup` leaves of the keys of a list: each that was there.
use Rattle.std.proofs.Common.{◌≡◌, Bool, true, false, cond, ◌||◌, List, [], ◌∷◌, map, refl, sym, ap, ◌∙◌}
use Rattle.std.specs.List.{dedup, dedup_from, list_any}

or_twice : (a b : Bool) → (a || b) ≡ (a || (a || b))
or_twice true b = refl
or_twice false b = refl

module _ {X K : Type 0} (key : X → K) (same : X → X → Bool) (exact : (x y : X) → same x y ≡ true → key x ≡ key y) (p : K → Bool) where
  any_from : (k : X) (xs : List X) → list_any p (map key (dedup_from same k xs)) ≡ (p (key k) || list_any p (map key xs))
  any_from k [] = refl
  any_from k (x ∷ xs) =
      elim (same x k) as (λ b. same x k ≡ b → list_any p (map key (cond b (dedup_from same k xs) (k ∷ dedup_from same x xs))) ≡ (p (key k) || (p (key x) || list_any p (map key xs)))) [
        | true ↦ λ t.
            any_from k xs ∙ or_twice (p (key k)) (list_any p (map key xs))
            ∙ ap (λ m. p (key k) || (p m || list_any p (map key xs))) (sym (exact x k t))
        | false ↦ λ f. ap (λ b. p (key k) || b) (any_from x xs)
      ] refl

  -- whatever is asked of the keys, some of those that are left has it just where some had
  pub any_deduped : (xs : List X) → list_any p (map key (dedup same xs)) ≡ list_any p (map key xs)
  any_deduped [] = refl
  any_deduped (x ∷ xs) = any_from x xs
