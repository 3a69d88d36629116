use Rattle.std.proofs.Common.{arith}
use Rattle.std.proofs.lemmas.Map.Keys.{IsDistinct-from_sorted}
use Rattle.rs_octets.specs.Prefixes.{prefix_order}
use Rattle.rs_outlet.specs.Pending.Slots.{prefixes_at}
use Rattle.rs_outlet.proofs.Pending.Apart.{distinct_apart}
use Rattle.rs_outlet.proofs.Pending.TwoParts.{whole_first, whole_late}
use Rattle.rs_outlet.proofs.waiting.Waits.mark_rows.Goals as goal

pub invariant_of-self-clause-first : goal.invariant_of-self-clause-first
invariant_of-self-clause-first c = whole_first c.len-self.result c.add_rows.new.slots.items (omega (arith, c.len-self.ensures, c.add_rows.new.slots.ok)) c.add_rows.ensures.rises

pub invariant_of-self-clause-late : goal.invariant_of-self-clause-late
invariant_of-self-clause-late c = whole_late c.len-self.result c.add_rows.new.slots.items (omega (arith, c.len-self.ensures, c.add_rows.new.slots.ok))

pub invariant_of-self-clause-apart : goal.invariant_of-self-clause-apart
invariant_of-self-clause-apart c = distinct_apart c.add_rows.new.slots.items (IsDistinct-from_sorted prefix_order (prefixes_at c.add_rows.new.slots.items) c.add_rows.ensures.rises)
