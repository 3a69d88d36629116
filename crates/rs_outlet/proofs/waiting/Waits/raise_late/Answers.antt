use Rattle.std.proofs.Common.{arith, drop, subst}
use Rattle.std.specs.List.Sorted.{IsStrictlySortedBy}
use Rattle.rs_octets.specs.Prefixes.{prefix_order}
use Rattle.rs_outlet.specs.Pending.Slots.{prefixes_at}
use Rattle.rs_outlet.proofs.Pending.TwoParts.{whole_first, whole_late}
use Rattle.rs_outlet.proofs.waiting.Waits.raise_late.Goals as goal

pub invariant_of-self-clause-first : goal.invariant_of-self-clause-first
invariant_of-self-clause-first c =
    let now = c.args.self.now in
    whole_first c.len-self.result now.slots.items (omega (arith, c.len-self.ensures, now.slots.ok)) (subst (λ n. IsStrictlySortedBy prefix_order (drop n (prefixes_at now.slots.items))) c.requires now.late)

pub invariant_of-self-clause-late : goal.invariant_of-self-clause-late
invariant_of-self-clause-late c = whole_late c.len-self.result c.args.self.now.slots.items (omega (arith, c.len-self.ensures, c.args.self.now.slots.ok))

pub returns-clause-rises : goal.returns-clause-rises
returns-clause-rises c = subst (λ n. IsStrictlySortedBy prefix_order (drop n (prefixes_at c.args.self.now.slots.items))) c.requires c.args.self.now.late
