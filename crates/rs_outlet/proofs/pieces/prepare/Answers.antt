use Rattle.std.proofs.Common.{◌∙◌, length, take, arith, ap, sym, subst}
use Rattle.rs_outlet.specs.Decided.Plans.{changes_in}
use Rattle.rs_outlet.specs.Inside.{AreBelow}
use Rattle.rs_outlet.proofs.Pending.Pieces.{below_at, has_next, have_still}
use Rattle.rs_outlet.proofs.pieces.prepare.Goals as goal

pub prepare_one-requires : goal.prepare_one-requires
prepare_one-requires c =
    let ps = c.args.pieces.now in
    below_at (length c.loop-piece.rows.rows.items) ps c.loop-piece.piece-index c.piece-item.result (omega arith) c.piece-item.is (subst (λ xs. AreBelow (changes_in ps) (length xs)) (sym c.loop-piece.invariant.rows) c.requires)

pub loop-piece-preserved : goal.loop-piece-preserved
loop-piece-preserved c =
    let ps = c.args.pieces.now in
    let i = c.loop-piece.piece-index in
    let inv = c.loop-piece.invariant in
    let done = c.in_ok-prepare_one.ensures in
    record {
      rows = done.rows ∙ inv.rows;
      used = done.used ∙ inv.used;
      prepared = has_next c.prepare_one.new.rows.rows ps i c.piece-item.result (omega arith) c.piece-item.is (have_still c.loop-piece.rows.rows c.prepare_one.new.rows.rows (ap length done.rows) done.kept (take i ps) inv.prepared) done.prepared;
    }
