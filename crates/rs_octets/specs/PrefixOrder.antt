-- The order of prefixes is total, and tells them apart; and their code, for collections that contracts see as values.
use Rattle.std.proofs.Common.{◌≡◌, ℕ, refl, arith}
use Rattle.std.specs.Coded.{Coded, code_by, coded×, coded_ℕ}
use Rattle.std.specs.Cmp.{IsTotalOrder, nat_cmp_total, on_total, then_total}
use Rattle.std.specs.Ordering.{nat_cmp, ordering_then}
use Rattle.std.specs.declared.cmp.Ordering.{Ordering}
use Rattle.std.specs.declared.cmp.Ordering.TheVariants.{Less, Equal, Greater}
use Rattle.std.proofs.lemmas.Bool.Decides.{nat_tests}
use Rattle.std.proofs.lemmas.Grind.{common_steps}
use Rattle.std.proofs.lemmas.Map.Lookups.{CmpEqualImpliesEq}
use Rattle.rs_octets.specs.Prefixes.{Prefix, prefix_order}

pub prefix_order_total : IsTotalOrder prefix_order
prefix_order_total = then_total (on_total (λ p. p.bits) nat_cmp_total) (on_total (λ p. p.len) nat_cmp_total)

both_equal : (a b : Ordering) → ordering_then a b ≡ Equal → (a ≡ Equal) × (b ≡ Equal)
both_equal Less b e = absurd (cc e)
both_equal Equal b e = (refl, e)
both_equal Greater b e = absurd (cc e)

same_number : (a b : ℕ) → nat_cmp a b ≡ Equal → a ≡ b
same_number a b e = grind (arith, nat_tests, common_steps)

pub prefix_order_exact : CmpEqualImpliesEq prefix_order
prefix_order_exact p q e =
    let both = both_equal (nat_cmp p.bits q.bits) (nat_cmp p.len q.len) e in
    let bits = same_number p.bits q.bits both.0 in
    let len = same_number p.len q.len both.1 in
    λ i. record { bits = bits i; len = len i }

abbrev pub prefix_code : Coded Prefix
prefix_code = code_by (ℕ × ℕ) (coded× coded_ℕ coded_ℕ) (λ p. (p.bits, p.len)) (λ c. record { bits = c.0; len = c.1 }) (λ _. refl)
