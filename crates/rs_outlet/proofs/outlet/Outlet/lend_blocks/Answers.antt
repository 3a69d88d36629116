use Rattle.rs_outlet.proofs.outlet.Outlet.lend_blocks.Goals as goal

pub returns-in-Ok : goal.returns-in-Ok
returns-in-Ok c = λ t ins h. let kept = c.take_back.ensures t ins h in record { choices = kept.choices; precedent = kept.precedent }
