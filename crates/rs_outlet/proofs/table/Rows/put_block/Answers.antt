use Rattle.std.proofs.Common.{◌≡◌, ◌<◌, ◌+◌, ◌*◌, ◌∙◌, Option, ap, arith, length}
use Rattle.std.specs.Prelude.{List, count_by, is_some}
use Rattle.std.specs.Arc.{arc_value}
use Rattle.rs_rows.specs.Rows.{Row, written_from}
use Rattle.rs_outlet.specs.Decided.News.{AreFree, written}
use Rattle.rs_outlet.specs.declared.filled.Whole.{Whole}
use Rattle.rs_outlet.specs.Decided.Plans.{news_within}
use Rattle.rs_outlet.proofs.Pending.News.{length_written, used_written}
use Rattle.rs_outlet.proofs.Pending.Pieces.{from_below, from_once, from_written, rise_within, rows_from, sixteen}
use Rattle.rs_outlet.proofs.Pending.Withdrawals.{rows_at_most}
use Rattle.rs_outlet.proofs.table.Rows.put_block.Goals as goal

module _ (w : Whole) (rows : List (Option Row)) where
  -- the rows as they are written
  rows_are : written_from (w.place * 16) (arc_value w.block).rows.items rows ≡ written (news_within w) rows
  rows_are =
      ap (λ xs. written_from (w.place * 16) xs rows) (rows_from (w.place * 16) (arc_value w.block).rows.items w.full) ∙ from_written (w.place * 16) (news_within w) rows (rise_within w)

  more_used : w.place * 16 + 15 < length rows → AreFree rows (news_within w) → count_by is_some (written (news_within w) rows) ≡ count_by is_some rows + length (news_within w)
  more_used below free =
      used_written (news_within w) rows (from_below (w.place * 16) (news_within w) rows (rise_within w) (omega (arith, below, sixteen w))) (from_once (w.place * 16) (news_within w) (rise_within w)) free

pub overflow_add-self : goal.overflow_add-self
overflow_add-self c =
    let rows = c.args.self.now.rows.items in
    omega (arith, rows_at_most rows, c.args.self.now.counted, c.count-count.ensures.rows, c.count-count.ensures.most)

pub invariant_of-self : goal.invariant_of-self
invariant_of-self c =
    let rows = c.args.self.now.rows.items in
    let w = c.args.whole in
    let more = more_used w rows c.requires.row c.requires.free in
    record {
      counted =
          ap (λ (xs : List (Option Row)). count_by is_some xs) (c.put_block.ensures.rows ∙ rows_are w rows)
          ∙ omega (arith, more, c.args.self.now.counted, sixteen w);
    }

pub returns-clause-rows : goal.returns-clause-rows
returns-clause-rows c = c.put_block.ensures.rows ∙ rows_are c.args.whole c.args.self.now.rows.items

pub returns-clause-room : goal.returns-clause-room
returns-clause-room c =
    ap length (c.put_block.ensures.rows ∙ rows_are c.args.whole c.args.self.now.rows.items)
    ∙ length_written (news_within c.args.whole) c.args.self.now.rows.items

pub returns-clause-used : goal.returns-clause-used
returns-clause-used c = let many = sixteen c.args.whole in omega (arith, many)
