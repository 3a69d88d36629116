use Rattle.std.proofs.Common.{◌≡◌, ◌∙◌, false, List, length, ap, refl, subst, sym, arith}
use Rattle.std.specs.Prelude.{drop, take}
use Rattle.std.specs.List.{AllWithin}
use Rattle.std.specs.List.Sorted.{IsStrictlySortedBy}
use Rattle.rs_octets.specs.Prefixes.{prefix_order}
use Rattle.rs_outlet.specs.declared.waiting.Wait.{Wait}
use Rattle.rs_outlet.specs.Pending.Slots.{AreApart, is_announced, is_withdrawn, open_count, prefixes_at}
use Rattle.rs_outlet.proofs.Pending.Chains.{same_by_hash}
use Rattle.rs_outlet.proofs.waiting.Waits.reserve.Goals as goal

pub invariant_of-self-in-Break-branch-2 : goal.invariant_of-self-in-Break-branch-2
invariant_of-self-in-Break-branch-2 c =
    let old = c.args.self.now in
    record {
      counted = old.counted;
      withdrawn = old.withdrawn;
      announced = old.announced;
      within = old.within;
      first = old.first;
      late = old.late;
      apart = old.apart;
      by_hash = λ is. same_by_hash (take old.sorted old.slots.items) (take old.sorted old.slots.items) old.chains.items _ refl c.reserve-2.ensures.items (old.by_hash is);
    }

pub invariant_of-self-2 : goal.invariant_of-self-2
invariant_of-self-2 c =
    let old = c.args.self.now in
    let slots = c.reserve-3.new.self in
    let same : slots.items ≡ old.slots.items = c.reserve-3.ensures.items in
    record {
      counted = ap open_count same ∙ old.counted;
      withdrawn = subst (λ (ws : List Wait). AllWithin (λ (w : Wait). is_withdrawn w ≡ false) (take old.sorted ws) 0 old.gone) (sym same) old.withdrawn;
      announced = subst (λ (ws : List Wait). AllWithin (λ (w : Wait). is_announced w ≡ false) (take old.sorted ws) 0 old.news) (sym same) old.announced;
      within = omega (arith, old.within, ap length same, old.slots.ok, slots.ok);
      first = subst (λ (ws : List Wait). IsStrictlySortedBy prefix_order (take old.sorted (prefixes_at ws))) (sym same) old.first;
      late = subst (λ (ws : List Wait). IsStrictlySortedBy prefix_order (drop old.sorted (prefixes_at ws))) (sym same) old.late;
      apart = subst AreApart (sym same) old.apart;
      by_hash = λ is. same_by_hash (take old.sorted old.slots.items) (take old.sorted slots.items) old.chains.items _ (ap (take old.sorted) same) c.reserve-2.ensures.items (old.by_hash is);
    }
