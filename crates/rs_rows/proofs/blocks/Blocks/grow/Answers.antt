use Rattle.std.proofs.Common.{subst, sym, arith}
use Rattle.rs_rows.specs.Blocks.{IsGrown, listed}
use Rattle.rs_rows.proofs.Listing.{grown_more, rows_length}
use Rattle.rs_rows.specs.declared.part.Part.{Part}
use Rattle.std.specs.Prelude.{List}
use Rattle.rs_rows.proofs.blocks.Blocks.grow.Goals as goal

pub loop-preserved : goal.loop-preserved
loop-preserved c = record {
  grown = subst (λ (ps : List Part). IsGrown c.args.self.now.items (listed ps).items) (sym c.push_reserved.ensures.items) (grown_more c.args.self.now.items c.loop.self-inside.parts.items c.loop.invariant.grown);
  len = omega (arith, c.push_reserved.ensures.len, c.loop.invariant.len);
  room = omega (arith, c.push_reserved.ensures.capacity, c.loop.invariant.room);
}

pub returns-clause-room : goal.returns-clause-room
returns-clause-room c =
    let count = rows_length c.loop.self-inside.parts.items in
    omega (arith, count, c.loop.self-inside.parts.ok, c.loop.invariant.len, c.loop-test.false, c.saturating_sub-more.ensures, c.div_ceil-wanted.ensures, c.in_ok-reserve.ensures.len)
