use Rattle.std.proofs.Common.{◌≡◌, ap, sym, ◌∙◌}
use Rattle.rs_core.specs.Drives.Steps.{stops}
use Rattle.rs_core.specs.declared.driving.Todo.TheVariants as todos
use Rattle.rs_core.proofs.Drives.Continuing.{driven_on, driven_to_stop, not_driven, turned_then}
use Rattle.rs_core.proofs.driving.drive_by.Goals as goal

pub loop-init : goal.loop-init
loop-init g c = record { driven = not_driven g.L.Link.happens _ _ _ c.all-closing.ensures }

pub loop-preserved-in-Nothing : goal.loop-preserved-in-Nothing
loop-preserved-in-Nothing g c = record {
  driven = driven_on g.L.Link.happens _ _ _ _ _ _ _ _ _ c.next-event.result _ _ _ _ (c.answer.ensures.goes_on c.in-Nothing.is) c.next-event.ensures c.note.ensures c.loop.invariant.driven
      (record { count = c.answer.ensures.count; led = c.answer.ensures.led; continues = c.answer.ensures.answers c.in-Nothing.is })
      (record { count = c.end_closed.ensures.count; led = c.end_closed.ensures.led; continues = c.end_closed.ensures.ends });
}

pub loop-preserved : goal.loop-preserved
loop-preserved g c =
    let turn = c.answer.ensures.turn c.in-Turn.is in
    let same = c.answer.ensures.unchanged (λ e. let f : todos.Turn ≡ todos.Nothing = sym c.in-Turn.is ∙ e in cc) in
    record {
      driven = driven_on g.L.Link.happens _ _ _ _ _ _ _ _ _ c.next-event.result _ _ _ _ (ap stops turn) c.next-event.ensures c.note.ensures c.loop.invariant.driven
          (turned_then g.L.Link.happens _ _ _ _ _ _ c.next-event.result c.next-event.new.piece (g.L.Link.text c.next-event.new.self) turn same
          (c.requires.turns _ _ _ _ c.do_turn.ensures))
          (record { count = c.end_closed-in-Turn.ensures.count; led = c.end_closed-in-Turn.ensures.led; continues = c.end_closed-in-Turn.ensures.ends });
    }

pub returns-in-Stop : goal.returns-in-Stop
returns-in-Stop g c =
    let stop = ap stops (c.answer.ensures.stop c.in-Stop.is) in
    let same = c.answer.ensures.unchanged (λ e. let f : todos.Stop ≡ todos.Nothing = sym c.in-Stop.is ∙ e in cc) in
    let driven = driven_to_stop g.L.Link.happens _ _ _ _ _ c.answer.new.core c.answer.new.link c.next-event.result _ _ stop c.next-event.ensures c.loop.invariant.driven same in
    record { count = driven.count; led = driven.led; drives = driven.drives }
