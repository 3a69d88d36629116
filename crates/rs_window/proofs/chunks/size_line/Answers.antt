use Rattle.std.proofs.Common.{◌/◌, ◌%◌, arith}
use Rattle.rs_window.proofs.Sizes.{line_of}
use Rattle.rs_window.proofs.chunks.size_line.Goals as goal

pub returns : goal.returns
returns c = line_of c.args.size (c.args.size / 256) (c.args.size % 256) _ _ _ _ (omega arith) (omega arith) (omega arith) c.hex_digit.ensures c.hex_digit-2.ensures c.hex_digit-3.ensures c.hex_digit-4.ensures
