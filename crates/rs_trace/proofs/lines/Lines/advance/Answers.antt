use Rattle.std.proofs.Common.{List, ℕ, [], ap, ◌∙◌, subst}
use Rattle.std.proofs.lemmas.List.{append-nil}
use Rattle.rs_trace.proofs.OutputLemmas.{on_err}
use Rattle.rs_trace.proofs.lines.Lines.advance.Goals as goal

pub returns-in_err-read_more-clause-kept : goal.returns-in_err-read_more-clause-kept
returns-in_err-read_more-clause-kept g c =
    let before = c.loop-self.invariant in
    let kept = c.in_err-read_more.ensures.kept in
    let P : List ℕ → Type 0 = λ xs. g.R.TextIn.takes c.args.reader.now xs c.read_more.new.reader in
    let taken = subst P (append-nil before.0) (g.met.R.TextIn.takes_on c.args.reader.now c.loop-self.reader c.read_more.new.reader before.0 [] before.1 kept.1) in
    let same = c.loop-self-test.ensures.none in
    on_err c.from_residual.result (before.0, taken, kept.0 ∙ ap (λ l. l.rest) same ∙ before.2, before.4)
