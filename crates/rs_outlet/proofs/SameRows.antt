-- An outlet whose rows lie elsewhere keeps what its fields keep.
use Rattle.std.proofs.Common.{◌≡◌, List, Option, sym, subst, take, arith}
use Rattle.rs_rows.specs.Rows.{Row}
use Rattle.rs_outlet.specs.declared.outlet.Outlet.TheInside.{Inside}
use Rattle.rs_outlet.specs.declared.table.Rows.{Rows}
use Rattle.rs_outlet.specs.Inside.{AreBacked, AreChained, IsAskedAgain, IsKept, RowsFit, loc_of}

pub same_rows_kept : (a : Inside) (rows : Rows) → rows.rows.items ≡ a.rows.rows.items → rows.used ≡ a.rows.used → IsKept a → IsKept (record a { rows = rows })
same_rows_kept a rows same used kept = record {
  octets = kept.octets;
  started = kept.started;
  ended = kept.ended;
  slots = omega (arith, kept.slots, used);
  extended = kept.extended;
  backed = subst (λ (rs : List (Option Row)). AreBacked rs a.waits.slots.items) (sym same) kept.backed;
  chained = subst (λ (rs : List (Option Row)). AreChained rs (take a.waits.sorted a.waits.slots.items) a.waits.chains.items) (sym same) kept.chained;
  fit = λ speech is. subst (RowsFit speech) (sym same) (kept.fit speech is);
  asked = λ is. subst (λ (rs : List (Option Row)). IsAskedAgain (loc_of rs) a.waits.slots.items) (sym same) (kept.asked is);
}
