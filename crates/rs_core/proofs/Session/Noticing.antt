-- What is kept of a NOTIFICATION.
use Rattle.std.proofs.Common.{◌≡◌, ℕ, ◌-◌, List, ◌++◌, length, take, drop, ◌∙◌, ap, arith}
use Rattle.std.specs.Prelude.{min, replicate}
use Rattle.std.proofs.lemmas.List.{drop-replicate}
use Rattle.std.proofs.Math.Nat.{min-eq_left, min-eq_right}
use Rattle.rs_core.specs.Session.OperatorRecords.{notice_with}
use Rattle.rs_core.specs.declared.endings.Notice.{Notice}
use Rattle.rs_core.proofs.Drives.Continuing.{within_take}

-- the first octets of the data, and zeros behind them
data_is : (said : List ℕ) (n : ℕ) → n ≡ min (length said) 64 → take n said ++ drop n (replicate 64 0) ≡ take 64 said ++ replicate (64 - length said) 0
data_is said n is = ap (λ l. l ++ drop n (replicate 64 0)) first ∙ ap (λ l. take 64 said ++ l) (drop-replicate n 64 0 ∙ ap (λ k. replicate k 0) rest) where
  first : take n said ≡ take 64 said
  first = within_take said 64 n (λ le. is ∙ min-eq_right le) (λ le. is ∙ min-eq_left le)

  rest : 64 - n ≡ 64 - length said
  rest = omega (arith, is)

pub noticed : (code sub : ℕ) (said kept : List ℕ) (n : ℕ) → n ≡ min (length said) 64 → kept ≡ take n said
    → ◌≡◌ {A = Notice} (record { code = code; sub = sub; «data» = kept ++ drop n (replicate 64 0); count = n }) (notice_with code sub said)
noticed code sub said kept n is same = λ i. record { code = code; sub = sub; «data» = (ap (λ l. l ++ drop n (replicate 64 0)) same ∙ data_is said n is) i; count = is i }
