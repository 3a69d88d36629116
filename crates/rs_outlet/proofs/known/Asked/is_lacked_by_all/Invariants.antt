use Rattle.std.proofs.Common.{All}
use Rattle.rs_outlet.specs.Decided.Precedents.{IsPlainForBoth}
use Rattle.rs_outlet.proofs.known.Asked.is_lacked_by_all.Given as goal

abbrev pub invariant-loop-holder : goal.invariant-loop-holder
invariant-loop-holder l = All (IsPlainForBoth l.self) l.holder-iterator → All (IsPlainForBoth l.self) l.fn.holders
