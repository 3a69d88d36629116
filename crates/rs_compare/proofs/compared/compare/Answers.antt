use Rattle.std.proofs.Common.{[], refl, subst, sym}
use Rattle.std.proofs.lemmas.List.{append-nil}
use Rattle.rs_compare.specs.Differences.{entries_of, reports_of}
use Rattle.rs_compare.specs.Merging.{Merges, Over}
use Rattle.rs_compare.proofs.Merged.{merged}
use Rattle.rs_compare.proofs.compared.compare.Goals as goal

pub returns : goal.returns
returns c =
    let left = c.in_default.ensures.none refl in
    let due = entries_of c.args.due.now in
    let sent = entries_of c.args.sent.now in
    let found = reports_of c.loop-step.found.items in
    let over : Merges (entries_of c.loop-step.due.now) (entries_of c.loop-step.sent.now) [] =
    subst (λ ds. Merges (entries_of ds) (entries_of c.loop-step.sent.now) []) (sym left.0) (subst (λ ss. Merges [] (entries_of ss) []) (sym left.1) Over) in
    merged due sent found c.requires.due c.requires.sent (subst (Merges due sent) (append-nil found) (c.loop-step.invariant [] over))
