use Rattle.std.proofs.Common.{◌≡◌, ◌≤◌, ◌<◌, ℕ, length}
use Rattle.std.specs.Prelude.{slice_index}
use Rattle.rs_texts.proofs.joined.Joined.place.Given as goal

-- the last text so far that begins at or before it, or the first
abbrev pub invariant-loop-index : goal.invariant-loop-index
invariant-loop-index l = record {
  bound : 0 < l.index → l.place < l.index;
  first : l.index ≡ 0 → l.place ≡ 0;
  begun : slice_index l.self.starts.items 0 ≤ l.at → slice_index l.self.starts.items l.place ≤ l.at;
  last : (k : ℕ) → l.place < k → k < l.index → l.at < slice_index l.self.starts.items k;
}
