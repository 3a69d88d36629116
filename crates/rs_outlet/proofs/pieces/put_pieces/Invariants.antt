use Rattle.std.proofs.Common.{◌≡◌, ◌≤◌, ◌+◌, ◌++◌, nat_eq, length, map}
use Rattle.std.specs.List.{AllByRecursion, IsDistinct}
use Rattle.std.specs.Vec.{vec_capacity}
use Rattle.std.specs.Prelude.{vec_len}
use Rattle.std.specs.Vec.Iter.{into_iter_items}
use Rattle.rs_outlet.specs.Decided.News.{AreFree, slot_of, written}
use Rattle.rs_outlet.specs.Decided.Plans.{HasRows, changes_in, news_in}
use Rattle.rs_outlet.specs.Inside.{numbers_of}
use Rattle.rs_outlet.proofs.pieces.put_pieces.Given as goal

abbrev pub invariant-loop-piece : goal.invariant-loop-piece
invariant-loop-piece l = record {
  written : written (news_in (into_iter_items l.piece-iterator)) l.rows.rows.items ≡ written (news_in l.fn.pieces.items) l.fn.rows.rows.items;
  listed : l.fresh.items ++ map slot_of (news_in (into_iter_items l.piece-iterator)) ≡ l.fn.fresh.items ++ map slot_of (news_in l.fn.pieces.items);
  used : l.rows.used + length (news_in (into_iter_items l.piece-iterator)) ≡ l.fn.rows.used + length (news_in l.fn.pieces.items);
  room : length l.rows.rows.items ≡ length l.fn.rows.rows.items;
  rows : AllByRecursion (HasRows l.rows.rows) (into_iter_items l.piece-iterator);
  free : AreFree l.rows.rows.items (news_in (into_iter_items l.piece-iterator));
  numbers : IsDistinct nat_eq (numbers_of (changes_in (into_iter_items l.piece-iterator)));
  spare : vec_len l.fresh + length (news_in (into_iter_items l.piece-iterator)) ≤ vec_capacity l.fresh;
}
