use Rattle.std.proofs.Common.{◌≡◌, ◌∙◌, ◌+◌, ℕ, List, ◌++◌, length, take, drop, refl, ap, subst, sym, arith}
use Rattle.std.specs.Prelude.{Option, Ok, None}
use Rattle.std.proofs.Math.Seq.{take-append_seam}
use Rattle.rs_core.specs.declared.route_server.Core.{Core}
use Rattle.rs_trace.specs.Lines.{Reading}
use Rattle.rs_trace.specs.Replays.{place_in}
use Rattle.rs_replay.specs.declared.connection.Connection.{Connection}
use Rattle.rs_replay.specs.Sent.{account}
use Rattle.rs_replay.specs.SentLines.{Said}
use Rattle.rs_replay.specs.Taking.{HaveTaken, Reads, ReadsUpTo, TakesLine}
use Rattle.rs_replay.proofs.SentReading.{reads_first}
use Rattle.rs_replay.proofs.sent.read_sent.Goals as goal

-- a list that was lent whole, and is as long as it was
whole_again : (new old : List Connection) (n : ℕ) → n ≡ length new → take n (new ++ drop (length new) old) ≡ new
whole_again new old n e = ap (λ k. take k (new ++ drop (length new) old)) e ∙ take-append_seam new (drop (length new) old)

-- what was read up to a line, with the connections as they are lent to the next
lent : {R : Type 0} (takes : R → List ℕ → R → Type 0) (at_end : R → Type 0) (core : Core) (place : List ℕ → Option ℕ) (until : ℕ) (first reader : R) (n : ℕ) (r : Reading) (lends connections : List Connection)
    → lends ≡ connections → ReadsUpTo takes at_end core place until first reader n r connections → ReadsUpTo takes at_end core place until first reader n r lends
lent takes at_end core place until first reader n r lends connections e h = subst (λ xs. ReadsUpTo takes at_end core place until first reader n r xs) (sym e) h

pub loop-number-init : goal.loop-number-init
loop-number-init g c = record {
  count = c.in-Ok.ensures.count;
  failed = refl;
  reads = reads_first g.R.TextIn.takes g.met.R.TextIn.takes_none g.R.TextIn.at_end c.args.core.now (place_in c.args.names.now) c.args.until c.args.reader.now c.in-Ok-new.lines c.in-Ok.connections.items
      c.in-Ok-new.ensures c.in-Ok.ensures.none_taken;
}

pub loop-number-preserved : goal.loop-number-preserved
loop-number-preserved g c =
    let place = place_in c.args.names.now in
    let new = c.take_line.new.connections in
    let size : c.loop-number.connections.len ≡ length new = omega (arith, c.take_line.auto.connections, c.loop-number.connections.ok.0, ap length c.deref_mut.ensures.value) in
    let line = c.in_ok-take_line.ensures.on c.args.reader.now c.loop-number.invariant.failed (lent g.R.TextIn.takes g.R.TextIn.at_end c.args.core.now place c.args.until c.args.reader.now c.loop-number.reader c.loop-number.number c.loop-number.lines _ _ c.deref_mut.ensures.value c.loop-number.invariant.reads) in
    let on : ReadsUpTo g.R.TextIn.takes g.R.TextIn.at_end c.args.core.now place c.args.until c.args.reader.now c.take_line.new.reader (c.loop-number.number + 1) c.take_line.new.lines new =
    subst (λ b. TakesLine g.R.TextIn.takes g.R.TextIn.at_end g.R.TextIn.failures c.args.core.now place c.args.until c.args.reader.now c.take_line.new.reader c.loop-number.number c.take_line.new.lines new (Ok b))
    c.if-not-branch.false line in
    record {
      count = c.loop-number.invariant.count;
      failed = c.in_ok-take_line.ensures.reads ∙ c.loop-number.invariant.failed;
      reads = subst (λ xs. ReadsUpTo g.R.TextIn.takes g.R.TextIn.at_end c.args.core.now place c.args.until c.args.reader.now c.take_line.new.reader (c.loop-number.number + 1) c.take_line.new.lines xs)
          (sym (whole_again new c.loop-number.connections.items c.loop-number.connections.len size)) on;
    }

pub returns-then-not-branch-clause-sent : goal.returns-then-not-branch-clause-sent
returns-then-not-branch-clause-sent g c =
    let place = place_in c.args.names.now in
    let new = c.take_line.new.connections in
    let size : c.loop-number.connections.len ≡ length new = omega (arith, c.take_line.auto.connections, c.loop-number.connections.ok.0, ap length c.deref_mut.ensures.value) in
    let line = c.in_ok-take_line.ensures.on c.args.reader.now c.loop-number.invariant.failed (lent g.R.TextIn.takes g.R.TextIn.at_end c.args.core.now place c.args.until c.args.reader.now c.loop-number.reader c.loop-number.number c.loop-number.lines _ _ c.deref_mut.ensures.value c.loop-number.invariant.reads) in
    let over : (entries : List Said) × Reads g.R.TextIn.takes g.R.TextIn.at_end place c.args.until c.args.reader.now c.take_line.new.reader (account entries None) × HaveTaken c.args.core.now entries new =
    subst (λ b. TakesLine g.R.TextIn.takes g.R.TextIn.at_end g.R.TextIn.failures c.args.core.now place c.args.until c.args.reader.now c.take_line.new.reader c.loop-number.number c.take_line.new.lines new (Ok b))
    c.if-not-branch.true line in
    (over.0, over.1, subst (λ xs. HaveTaken c.args.core.now over.0 xs) (sym (whole_again new c.loop-number.connections.items c.loop-number.connections.len size)) over.2)
