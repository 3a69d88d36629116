use Rattle.rs_outlet.specs.Pending.Chains.{AreLinked, AreInOrder, due_by}
use Rattle.rs_outlet.proofs.waiting.chains.chain_all.Given as goal

abbrev pub invariant-loop : goal.invariant-loop
invariant-loop l = AreLinked (due_by l.exact l.rows.rows.items l.slots) l.order l.chains.items

abbrev pub invariant-loop-place : goal.invariant-loop-place
invariant-loop-place l = record {
  rise : AreInOrder (due_by l.exact l.rows.rows.items l.slots) l.order l.place;
  linked : AreLinked (due_by l.exact l.rows.rows.items l.slots) l.order l.chains.items;
}
