-- Readers whose octets are known.
use Rattle.std.specs.Prelude.{◌≡◌, ℕ, List, [], ◌∷◌, ◌++◌, Option, Some, None, ⊤}
use Rattle.std.proofs.Common.{sym, ◌∙◌, refl}
use Rattle.std.specs.Io.KnownBytes.{Consumes, IsAtEnd}

abbrev pub IsKnown : Option (List ℕ) → Type 0
IsKnown None = ⊥
IsKnown (Some octets) = ⊤

no_front : (xs ys : List ℕ) → xs ++ ys ≡ [] → xs ≡ []
no_front [] ys h = refl
no_front (x ∷ xs) ys h = let bad : x ∷ (xs ++ ys) ≡ [] = h in cc

-- after the end nothing is taken
pub none_left : (a b : Option (List ℕ)) (xs : List ℕ) → IsKnown a → IsAtEnd a → Consumes a b xs → xs ≡ []
none_left None b xs known end taken = absurd known
none_left (Some octets) None xs known end taken = absurd taken
none_left (Some octets) (Some rest) xs known end taken = no_front xs rest (sym taken ∙ end)
