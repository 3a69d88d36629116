use Rattle.std.proofs.Common.{arith, sym}
use Rattle.std.proofs.lemmas.Bool.{and_parts}
use Rattle.rs_outlet.specs.Inside.{row_by, shown}
use Rattle.rs_outlet.specs.Message.Next.{has_attributes}
use Rattle.rs_outlet.proofs.Message.AllWaiting.{not_hashed}
use Rattle.rs_outlet.proofs.Message.Rising.{waits_shares}
use Rattle.rs_outlet.proofs.waiting.choosing.waits_for.Goals as goal

pub returns-then-is_known-clause-just : goal.returns-then-is_known-clause-just
returns-then-is_known-clause-just c =
    let rows = c.args.rows.now.rows.items in
    let w = c.args.wait.now in
    let m = c.args.attrs.now in
    sym (and_parts w.open (has_attributes (shown (row_by rows w.due)) m) (waits_shares rows m w (c.requires.known c.if-is_known.true))).1

pub returns-then-own-hash-clause-just : goal.returns-then-own-hash-clause-just
returns-then-own-hash-clause-just c =
    not_hashed c.args.rows.now.rows.items c.args.wait.now.prefix c.args.wait.now.due c.args.attrs.now c.in-Announced.number c.in-Announced.own (sym c.in-Announced.is)
    (λ e. omega (arith, c.if-own-hash.true, c.requires.hash, e)) c.requires.backed
