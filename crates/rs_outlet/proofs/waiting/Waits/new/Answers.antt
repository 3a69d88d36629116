use Rattle.std.proofs.Common.{rules}
use Rattle.rs_outlet.proofs.Pending.Slots.{no_part, none_rise}
use Rattle.rs_outlet.proofs.waiting.Waits.new.Goals as goal

pub invariant_of-result-clause-first : goal.invariant_of-result-clause-first
invariant_of-result-clause-first c = no_part

pub invariant_of-result-clause-late : goal.invariant_of-result-clause-late
invariant_of-result-clause-late c = search (rules, none_rise)
