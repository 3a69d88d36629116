use Rattle.std.proofs.Common.{◌∙◌, refl}
use Rattle.rs_adjin.proofs.Noted.{keeps_notes}
use Rattle.rs_adjin.proofs.Ties.{tied_same}
use Rattle.rs_adjin.proofs.adj_ins.AdjIns.share.Goals as goal

pub invariant_of-self : goal.invariant_of-self
invariant_of-self c =
    let old = c.args.self.now in (
      (old.table.inverse, (old.table.vacant, (old.table.counted, (λ s. c.share.ensures.counts s ∙ old.table.shared s, tt)))),
      (old.sets, (record { rising = old.whole.rising }, (old.known, (old.mandatory, (tied_same old.held.items old.table _ old.tied (λ p n is. is) (λ d p. refl), tt))))),
    )

pub returns-clause-noted : goal.returns-clause-noted
returns-clause-noted c = keeps_notes c.args.self.now _ (λ f notes. notes)
