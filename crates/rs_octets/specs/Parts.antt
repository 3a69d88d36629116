-- Octets as parts, one after the other, and a rest: the messages of a connection (RFC 4271, 4.1), the prefixes of a field
-- (4.3), the parameters of an OPEN (4.2).
use Rattle.std.specs.Prelude.{◌≡◌, ℕ, List, ◌++◌}
use Rattle.std.specs.List.{flat_map, AllByRecursion}

-- octets of which no part is a front
abbrev pub BeginsNone : {A : Type 0} → (A → List ℕ) → (A → Type 0) → List ℕ → Type 0
BeginsNone {A} octets_of IsPart octets = (part : A) (after : List ℕ) → IsPart part → octets ≡ octets_of part ++ after → ⊥

-- octets, from left to right, are these parts and then this rest, which begins with no part
pub record Splits {A : Type 0} (octets_of : A → List ℕ) (IsPart : A → Type 0) (octets : List ℕ) (parts : List A) (rest : List ℕ) : Type 0 where
  pub whole : octets ≡ flat_map octets_of parts ++ rest
  pub each : AllByRecursion IsPart parts
  pub stops : BeginsNone octets_of IsPart rest

-- no part is a front of another: octets begin with one part at most, and what stands behind it is one thing
abbrev pub IsPrefixFree : {A : Type 0} → (A → List ℕ) → (A → Type 0) → Type 0
IsPrefixFree {A} octets_of IsPart =
    (a b : A) (x y : List ℕ) → IsPart a → IsPart b → octets_of a ++ x ≡ octets_of b ++ y → (a ≡ b) × (x ≡ y)
