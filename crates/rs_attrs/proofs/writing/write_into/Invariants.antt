use Rattle.std.proofs.Common.{length, ◌<◌}
use Rattle.std.specs.List.{AllByRecursion}
use Rattle.rs_attrs.specs.Writing.{attribute_octets, in_mode}
use Rattle.rs_attrs.proofs.Written.LeftToWrite.{LeftToWrite}
use Rattle.rs_attrs.proofs.writing.write_into.Given as goal

abbrev pub invariant-loop-part : goal.invariant-loop-part
invariant-loop-part l =
    AllByRecursion (λ a. length a.value < 65536) l.part-iterator
    × LeftToWrite attribute_octets (in_mode l.fn.mode l.attrs) 0 l.fn.out l.part-iterator l.at l.out
