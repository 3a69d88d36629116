-- Clients by their number.
use Rattle.std.proofs.Common.{◌≡◌, ◌≢◌, ◌⊎◌, inl, inr, ◌==◌, ℕ, Bool, true, false, refl, arith}
use Rattle.std.proofs.lemmas.Bool.Decides.{nat_tests}

pub equal_or : (a b : ℕ) → (a ≡ b) ⊎ (a ≢ b)
equal_or a b = by_test (a == b) refl where
  by_test : (t : Bool) → (a == b) ≡ t → (a ≡ b) ⊎ (a ≢ b)
  by_test true e = inl (grind (arith, nat_tests, e))
  by_test false e = inr (λ is. grind (arith, nat_tests, e, is))

pub is_own : (c : ℕ) → (c == c) ≡ true
is_own c = grind (arith, nat_tests)

pub is_other : (c d : ℕ) → c ≢ d → (c == d) ≡ false
is_other c d ne = grind (arith, nat_tests, ne)

pub same_client : (c d : ℕ) → (c == d) ≡ true → c ≡ d
same_client c d e = grind (arith, nat_tests, e)
