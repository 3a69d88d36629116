use Rattle.std.proofs.Common.{vec_len, arith}
use Rattle.rs_outlet.proofs.Decided.TouchedList.{no_entries}
use Rattle.rs_outlet.proofs.touched.Touched.lists_none.Goals as goal

pub returns : goal.returns
returns c = no_entries c.args.self.now.prefixes.items (vec_len c.args.self.now.prefixes) c.is_empty.result (omega arith) c.is_empty.ensures
