use Rattle.rs_core.proofs.ribs.Ribs.sweep_next.Goals as goal

pub returns-clause-kept : goal.returns-clause-kept
returns-clause-kept c = record {
  numbered = λ h. c.give_up.ensures.kept.numbered (record { each = h.each });
  fresh = λ h f. c.give_up.ensures.kept.fresh (record { each = h.each }) (record { each = f.each });
}
