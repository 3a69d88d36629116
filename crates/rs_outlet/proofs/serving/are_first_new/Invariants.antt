use Rattle.std.proofs.Common.{◌≡◌, ◌<◌, ◌+◌, ◌*◌, ℕ, Some, None}
use Rattle.std.specs.Prelude.{slice_get}
use Rattle.rs_octets.specs.Prefixes.{Prefix}
use Rattle.rs_adjin.specs.AdjIns.{number_of}
use Rattle.rs_rows.specs.Rows.{row_at}
use Rattle.rs_outlet.specs.Decided.HeldBy.{held_by}
use Rattle.rs_outlet.proofs.serving.are_first_new.Given as goal

abbrev pub invariant-loop-index : goal.invariant-loop-index
invariant-loop-index l = record {
  first : (j : ℕ) → j < l.index → (t : ℕ × Prefix) → slice_get l.touched j ≡ Some t → t.0 ≡ l.whole.place * 16 + j;
  free : (j : ℕ) → j < l.index → row_at l.rows.rows.items (l.whole.place * 16 + j) ≡ None;
  unheld : (j : ℕ) → j < l.index → (p : Prefix) → number_of l.sources.ins.now p ≡ Some (l.whole.place * 16 + j) → (held_by l.sources).held l.sources.client p ≡ None;
}
