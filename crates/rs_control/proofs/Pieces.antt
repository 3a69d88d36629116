-- What is sent of a piece of a page.
use Rattle.std.proofs.Common.{◌≡◌, ℕ, Bool, List, [], ◌∷◌, ◌++◌, ap, ◌∙◌}
use Rattle.std.specs.Prelude.{if◌then◌else◌}

-- octets, and the end of a line where it is the last, were put into nothing
pub joined : (none one two octets mid piece end : List ℕ) (is_end : Bool) {is_last : Bool} → none ≡ [] → one ≡ none ++ octets → octets ≡ mid → mid ≡ piece → two ≡ one ++ end → end ≡ (if is_end then 10 ∷ [] else []) → is_end ≡ is_last → two ≡ piece ++ (if is_last then 10 ∷ [] else [])
joined none one two octets mid piece end is_end {is_last} n f g h e k l =
    let front : one ≡ piece = f ∙ (ap (λ w. w ++ octets) n ∙ (g ∙ h)) in
    e ∙ (ap (λ w. w ++ end) front ∙ ap (λ w. piece ++ w) (k ∙ ap (λ b. if b then 10 ∷ [] else []) l))
