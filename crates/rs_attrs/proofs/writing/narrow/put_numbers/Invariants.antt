use Rattle.rs_attrs.specs.Paths.{two_octets, number_octets}
use Rattle.rs_attrs.specs.Writing.{as_trans_or}
use Rattle.rs_attrs.proofs.Written.LeftToWrite.{LeftToWrite}
use Rattle.rs_attrs.proofs.writing.narrow.put_numbers.Given as goal

abbrev pub invariant-loop-number : goal.invariant-loop-number
invariant-loop-number l = LeftToWrite (λ n. number_octets two_octets (as_trans_or n)) l.fn.numbers l.fn.at l.fn.out l.number-iterator l.at l.out
