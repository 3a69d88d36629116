-- Outlets in a list, by their places.
use Rattle.std.proofs.Common.{◌≡◌, ◌<◌, ◌≤◌, ◌+◌, ℕ, zero, suc, List, [], ◌∷◌, ◌++◌, length, sym, subst, arith, get_or, set, below_more, ◌∙◌, refl}
use Rattle.std.proofs.lemmas.List.{get_or-set_same, get_or-set_other}
use Rattle.std.specs.Prelude.{slice_index_or}
use Rattle.rs_policy.specs.Configuration.{Configuration}
use Rattle.rs_outlet.specs.Views.{View}
use Rattle.rs_workers.specs.Turned.{ArePlaced}

-- one more at the end
pub each_push : {X : Type 0} (P : ℕ → X → Type 0) (xs : List X) (v : X) → ((i : ℕ) (d : X) → i < length xs → P i (slice_index_or xs i d)) → P (length xs) v
    → (i : ℕ) (d : X) → i < length (xs ++ v ∷ []) → P i (slice_index_or (xs ++ v ∷ []) i d)
each_push P [] v each own zero d lt = own
each_push P [] v each own (suc i) d lt = absurd (omega arith)
each_push P (x ∷ xs) v each own zero d lt = each zero d (omega arith)
each_push P (x ∷ xs) v each own (suc i) d lt = each_push (λ n. P (suc n)) xs v (λ j e h. each (suc j) e (omega arith)) own i d (omega arith)

-- one outlet more, of a client that there is
pub push_placed : (config : Configuration) (xs ys : List View) (v : View) → ys ≡ xs ++ v ∷ [] → ArePlaced config xs → v.client < length config.clients → ArePlaced config ys
push_placed config xs ys v e placed own = subst (ArePlaced config) (sym e) (each_push (λ i o. o.client < length config.clients) xs v placed own)

-- what stands at a place within
within : {X : Type 0} (xs : List X) (k : ℕ) (d e : X) → k < length xs → get_or xs k d ≡ get_or xs k e
within [] k d e lt = absurd (omega (arith, lt))
within (x ∷ xs) zero d e lt = refl
within (x ∷ xs) (suc k) d e lt = within xs k d e (omega (arith, lt))

-- a walk over a list, which has come to k: what stands there becomes v
pub walked_on : {X : Type 0} (P : X → X → Type 0) (first items : List X) (k : ℕ) (e v : X) → k < length items → P (get_or items k e) v
    → ((j : ℕ) (d : X) → k ≤ j → get_or items j d ≡ get_or first j d) → ((j : ℕ) (d : X) → j < k → P (get_or first j d) (get_or items j d))
    → ((j : ℕ) (d : X) → k + 1 ≤ j → get_or (set items k v) j d ≡ get_or first j d) × ((j : ℕ) (d : X) → j < k + 1 → P (get_or first j d) (get_or (set items k v) j d))
walked_on P first items k e v lt turned behind before = (
  λ j d le. get_or-set_other items k j v d (λ e. let is = e in absurd (omega (arith, is, le))) ∙ behind j d (omega (arith, le)),
  λ j d below.
      below_more (λ i. P (get_or first i d) (get_or (set items k v) i d)) k
      (λ i less. subst (λ x. P (get_or first i d) x) (sym (get_or-set_other items k i v d (λ e. let is = e in absurd (omega (arith, is, less))))) (before i d less))
      (subst (λ x. P x (get_or (set items k v) k d)) (within items k e d lt ∙ behind k d (omega arith)) (subst (λ x. P (get_or items k e) x) (sym (get_or-set_same items k v d lt)) turned))
      j below,
)
