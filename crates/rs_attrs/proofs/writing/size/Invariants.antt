use Rattle.rs_attrs.specs.Writing.{in_mode}
use Rattle.rs_attrs.proofs.Written.Parts.{Counted}
use Rattle.rs_attrs.proofs.writing.size.Given as goal

abbrev pub invariant-loop-part : goal.invariant-loop-part
invariant-loop-part l = Counted (in_mode l.fn.mode l.attrs) l.part-iterator l.size
