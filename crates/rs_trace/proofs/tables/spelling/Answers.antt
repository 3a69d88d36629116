use Rattle.std.proofs.Common.{arith}
use Rattle.rs_attrs.specs.Writing.{in_mode}
use Rattle.rs_attrs.proofs.HeldLemmas.{short_values}
use Rattle.rs_trace.proofs.tables.spelling.Goals as goal

pub write_into-requires-clause-spelling : goal.write_into-requires-clause-spelling
write_into-requires-clause-spelling c = short_values (in_mode c.args.mode c.args.attrs.now) (omega (arith, c.size-size.ensures, c.if-size-gt-LONGEST_SPELLING.false))
