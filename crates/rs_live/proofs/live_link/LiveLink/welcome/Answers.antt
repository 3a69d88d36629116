use Rattle.std.proofs.Common.{ap, refl, sym, ◌∙◌}
use Rattle.rs_live.specs.declared.live_link.Stage.{Stage}
use Rattle.rs_live.specs.declared.live_link.Stage.TheVariants as stages
use Rattle.rs_live.specs.Calls.{IsAccept}
use Rattle.rs_live.specs.Handled.{Has, AreEndedBy, AreKept}
use Rattle.rs_live.specs.Keeping.{at, held_of}
use Rattle.rs_live.proofs.Handling.Calls.{ended_at, keeps_at}
use Rattle.rs_live.proofs.Handling.Connections.{keeps_out, refuses}
use Rattle.rs_live.proofs.live_link.LiveLink.welcome.Goals as goal

pub returns-in_default-clause-closed : goal.returns-in_default-clause-closed
returns-in_default-clause-closed g c none p h =
    let w = c.args.self.now.phase in
    keeps_at g.P.Ports.asked c.refuse.new.self _ (at stages.Accept w) _ c.refuse.ensures.leaves.held (c.refuse.ensures.leaves.phase ∙ ap (λ (s : Stage). at s w) p) refl
    (refuses g.P.Ports.asked _ w c.args.incoming.now _ _ c.refuse.ensures.asked (ended_at g.P.Ports.asked (IsAccept c.args.incoming.now) c.args.self.now stages.Accept p h))

pub returns-then-is_down-clause-closed : goal.returns-then-is_down-clause-closed
returns-then-is_down-clause-closed g c none p h =
    keeps_at g.P.Ports.asked c.keep_out.new.self _ _ _ c.keep_out.ensures.leaves.held c.keep_out.ensures.leaves.phase refl
    (keeps_out g.P.Ports.asked _ _ _ c.args.incoming.now _ _ (sym c.is_down.ensures ∙ c.if-is_down.true) c.keep_out.ensures.asked h)
