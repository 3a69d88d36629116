use Rattle.std.proofs.Common.{◌≡◌, ◌*◌, ℕ, None, Some, arith}
use Rattle.rs_octets.specs.Prefixes.{Prefix}
use Rattle.rs_adjin.specs.AdjIns.{number_of}
use Rattle.rs_rows.specs.Rows.{row_at}
use Rattle.rs_outlet.specs.Decided.HeldBy.{held_by}
use Rattle.rs_outlet.specs.Decided.Plans.{news_within}
use Rattle.rs_outlet.proofs.Pending.Pieces.{all_numbers, all_rise, keys_rise, rise_within, sixteen}
use Rattle.rs_outlet.proofs.serving.are_first_new.Goals as goal

pub returns-clause-many : goal.returns-clause-many
returns-clause-many c = λ so. omega (arith, sixteen c.args.whole.now, c.if-touched-lt-ROWS.false)

pub returns-clause-first : goal.returns-clause-first
returns-clause-first c = λ so.
    let w = c.args.whole.now in
    keys_rise (w.place * 16) (news_within w) c.args.touched.now (rise_within w) (omega (arith, sixteen w, c.if-touched-lt-ROWS.false))
    (λ j less. c.loop-index.invariant.first j (omega (arith, less, sixteen w, c.loop-index-test.false)))

pub returns-clause-free : goal.returns-clause-free
returns-clause-free c = λ so.
    let w = c.args.whole.now in
    all_rise (λ m. row_at c.args.rows.now.rows.items m ≡ None) (w.place * 16) (news_within w) (rise_within w)
    (λ j less. c.loop-index.invariant.free j (omega (arith, less, sixteen w, c.loop-index-test.false)))

pub returns-clause-unheld : goal.returns-clause-unheld
returns-clause-unheld c = λ so.
    let w = c.args.whole.now in
    let s = c.args.sources.now in
    let Q = λ (m : ℕ). (p : Prefix) → number_of s.ins.now p ≡ Some m → (held_by s).held s.client p ≡ None in
    all_numbers Q (news_within w)
    (all_rise Q (w.place * 16) (news_within w) (rise_within w) (λ j less. c.loop-index.invariant.unheld j (omega (arith, less, sixteen w, c.loop-index-test.false))))
