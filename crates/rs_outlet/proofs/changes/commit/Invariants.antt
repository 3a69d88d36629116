use Rattle.std.proofs.Common.{◌≡◌, ◌≤◌, ◌+◌, false, nat_eq, cond, Option, List, length, take, vec_len, ◌++◌}
use Rattle.std.specs.FinMap as fin
use Rattle.std.specs.List.{AllByRecursion, IsDistinct, list_any}
use Rattle.std.specs.Vec.{vec_capacity}
use Rattle.std.specs.Vec.Iter.{into_iter_items}
use Rattle.rs_octets.specs.Prefixes.{Prefix}
use Rattle.rs_attrs.specs.Meaning.{Attribute}
use Rattle.rs_adjin.specs.declared.adj_ins.AdjIns.{AdjIns}
use Rattle.rs_outlet.specs.Views.{HaveNumbers}
use Rattle.rs_outlet.specs.Pending.Slots.{AreFresh, open_at, open_count, prefixes_at, withdrawn_count}
use Rattle.rs_outlet.specs.Pending.Owed.{Keeps, prefixes_of}
use Rattle.rs_outlet.specs.declared.answers.Speech.{Speech}
use Rattle.rs_outlet.specs.Inside.{AreBacked, AreChained, AreDue, AreOwn, ArePlaced, ChangesFit, HaveRows, RowsFit, is_changed, numbers_from, numbers_of, loc_of}
use Rattle.rs_outlet.proofs.Decided.LocByNumber.{same}
use Rattle.rs_outlet.proofs.changes.commit.Given as goal

abbrev pub invariant-loop-change : goal.invariant-loop-change
invariant-loop-change l = record {
  room : length l.rows.rows.items ≡ length l.fn.rows.rows.items;
  prepared : l.rows.rows.prepared ≡ l.fn.rows.rows.prepared;
  rows : HaveRows (into_iter_items l.change-iterator) l.fn.rows.rows;
  placed : (ins : AdjIns) → ArePlaced l.fn.changes.items ins → ArePlaced (into_iter_items l.change-iterator) ins;
  due : (due : Prefix → Option (List Attribute)) → AreDue due l.fn.changes.items → AreDue due (into_iter_items l.change-iterator);
  loc : (ins : AdjIns) (due : Prefix → Option (List Attribute)) → ArePlaced l.fn.changes.items ins → AreDue due l.fn.changes.items → HaveNumbers (numbers_from 0 l.fn.rows.rows.items) ins → (q : Prefix)
      → cond (is_changed (into_iter_items l.change-iterator) q) (due q) (fin.get (loc_of l.rows.rows.items) q) ≡ cond (is_changed l.fn.changes.items q) (due q) (fin.get (loc_of l.fn.rows.rows.items) q);
  numbered : (ins : AdjIns) → ArePlaced l.fn.changes.items ins → HaveNumbers (numbers_from 0 l.fn.rows.rows.items) ins → HaveNumbers (numbers_from 0 l.rows.rows.items) ins;
  more : vec_len l.fresh + length (into_iter_items l.change-iterator) ≤ vec_len l.fn.changes;
  spare : vec_len l.fn.changes ≤ vec_capacity l.fresh;
  count : open_count l.waits.slots.items ≤ open_count l.fn.waits.slots.items;
  all : l.rows.used + (withdrawn_count l.waits.slots.items + withdrawn_count l.fresh.items) + length (into_iter_items l.change-iterator) ≤ vec_capacity l.fn.waits.slots;
  capacity : vec_capacity l.waits.slots ≡ vec_capacity l.fn.waits.slots;
  fresh : AreFresh l.waits.slots.items l.fresh.items;
  once : IsDistinct same (prefixes_of (into_iter_items l.change-iterator));
  numbers : IsDistinct nat_eq (numbers_of (into_iter_items l.change-iterator));
  own : AreOwn (into_iter_items l.change-iterator) l.rows.rows.items;
  backed : AreBacked l.fn.rows.rows.items l.fn.waits.slots.items → AreBacked l.rows.rows.items (l.waits.slots.items ++ l.fresh.items);
  chained : AreBacked l.fn.rows.rows.items l.fn.waits.slots.items → AreChained l.fn.rows.rows.items (take l.fn.waits.sorted l.fn.waits.slots.items) l.fn.waits.chains.items → AreChained l.rows.rows.items (take l.waits.sorted l.waits.slots.items) l.waits.chains.items;
  fits : (speech : Speech) → ChangesFit speech l.fn.changes.items → ChangesFit speech (into_iter_items l.change-iterator);
  fit : (speech : Speech) → ChangesFit speech l.fn.changes.items → RowsFit speech l.fn.rows.rows.items → RowsFit speech l.rows.rows.items;
  unlisted : AllByRecursion (λ q. list_any (same q) (prefixes_at l.fresh.items) ≡ false) (prefixes_of (into_iter_items l.change-iterator));
  keeps : (ins : AdjIns) → ArePlaced l.fn.changes.items ins → HaveNumbers (numbers_from 0 l.fn.rows.rows.items) ins → (q : Prefix)
      → Keeps (open_at q l.fn.waits.slots.items) (fin.get (loc_of l.fn.rows.rows.items) q) (open_at q (l.waits.slots.items ++ l.fresh.items)) (fin.get (loc_of l.rows.rows.items) q);
}
