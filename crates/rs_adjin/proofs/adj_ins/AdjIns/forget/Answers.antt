use Rattle.std.proofs.Common.{◌∙◌, refl}
use Rattle.rs_adjin.specs.AdjIns.{set_of}
use Rattle.rs_adjin.proofs.Noted.{keeps_notes}
use Rattle.rs_adjin.proofs.SetsListed.{count_unused, count_used}
use Rattle.rs_adjin.proofs.TableRows.{none_some}
use Rattle.rs_adjin.proofs.Ties.{tied_same}
use Rattle.rs_adjin.proofs.adj_ins.AdjIns.forget.Goals as goal

pub invariant_of-self : goal.invariant_of-self
invariant_of-self c =
    let old = c.args.self.now in (
      (old.table.inverse, (old.table.vacant, (old.table.counted, (λ s. c.forget.ensures.counts s ∙ old.table.shared s, tt)))),
      (old.sets, (record { rising = old.whole.rising }, (old.known, (old.mandatory, (tied_same old.held.items old.table _ old.tied (λ p n is. is) (λ d p. refl), tt))))),
    )

pub returns-clause-gone : goal.returns-clause-gone
unfolding set_of
returns-clause-gone c unused m is = none_some _ m (c.forget.ensures.gone (count_unused c.args.self.now c.args.set unused)) (c.forget.new.self.inverse.there m c.args.set is)

pub returns-clause-used : goal.returns-clause-used
unfolding set_of
returns-clause-used c used = c.forget.ensures.used (count_used c.args.self.now c.args.set used)

pub returns-clause-noted : goal.returns-clause-noted
returns-clause-noted c = keeps_notes c.args.self.now _ (λ f notes. notes)
