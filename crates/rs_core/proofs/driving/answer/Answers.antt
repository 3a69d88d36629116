use Rattle.std.proofs.Common.{◌≡◌, ◌∷◌, refl, ap}
use Rattle.rs_core.specs.Drives.Steps.{stops}
use Rattle.rs_core.specs.Run.Moves.{Saw}
use Rattle.rs_core.specs.Drives.Courses.{course}
use Rattle.rs_core.specs.Drives.Answers.{Answers, Sees}
use Rattle.rs_core.specs.declared.driving.Todo.TheVariants as todos
use Rattle.rs_core.specs.declared.links.Event.TheVariants as events
use Rattle.rs_core.proofs.Drives.Leading.{led_same}
use Rattle.rs_core.proofs.Drives.Continuing.{goes, as_event}
use Rattle.rs_core.proofs.driving.answer.Goals as goal

pub returns-in-Opened : goal.returns-in-Opened
returns-in-Opened g c = record {
  stop = λ e. absurd (let f : todos.Nothing ≡ todos.Stop = e in cc);
  turn = λ e. absurd (let f : todos.Nothing ≡ todos.Turn = e in cc);
  goes_on = λ e. ap stops c.in-Opened.is;
  count = c.open.ensures.count;
  led = c.open.ensures.led;
  unchanged = λ ne. absurd (ne refl);
  answers = λ e. as_event g.L.Link.happens _ _ _ _ c.args.event _ c.args.piece.now (g.L.Link.text c.args.link.now) c.in-Opened.is c.open.ensures.answers;
}

pub returns-in-Octets : goal.returns-in-Octets
returns-in-Octets g c = record {
  stop = λ e. absurd (let f : todos.Nothing ≡ todos.Stop = e in cc);
  turn = λ e. absurd (let f : todos.Nothing ≡ todos.Turn = e in cc);
  goes_on = λ e. ap stops c.in-Octets.is;
  count = c.hear.ensures.count;
  led = c.hear.ensures.led;
  unchanged = λ ne. absurd (ne refl);
  answers = λ e. as_event g.L.Link.happens _ _ _ _ c.args.event _ c.args.piece.now (g.L.Link.text c.args.link.now) c.in-Octets.is c.hear.ensures.answers;
}

pub returns-in-Moment : goal.returns-in-Moment
returns-in-Moment g c = record {
  stop = λ e. absurd (let f : todos.Nothing ≡ todos.Stop = e in cc);
  turn = λ e. absurd (let f : todos.Nothing ≡ todos.Turn = e in cc);
  goes_on = λ e. ap stops c.in-Moment.is;
  count = c.moment.ensures.count;
  led = led_same g.L.Link.happens _;
  unchanged = λ ne. absurd (ne refl);
  answers = λ e. as_event g.L.Link.happens _ _ _ _ c.args.event (events.Moment c.in-Moment.t) c.args.piece.now (g.L.Link.text c.args.link.now) c.in-Moment.is
      (goes g.L.Link.happens _ _ _ _ (Answers _ (events.Moment c.in-Moment.t)) (λ s. s) (λ r. Saw c.in-Moment.t ∷ r) (λ first s l. l) (λ run h. c.moment.ensures.saw run h)
      (λ s run h. Sees c.in-Moment.t (course _ s run h) _ (record { count = c.moment.ensures.count; agrees = c.moment.ensures.saw run h })));
}

pub returns-in-Commanded : goal.returns-in-Commanded
returns-in-Commanded g c = record {
  stop = λ e. absurd (let f : todos.Nothing ≡ todos.Stop = e in cc);
  turn = λ e. absurd (let f : todos.Nothing ≡ todos.Turn = e in cc);
  goes_on = λ e. ap stops c.in-Commanded.is;
  count = c.obey.ensures.count;
  led = c.obey.ensures.led;
  unchanged = λ ne. absurd (ne refl);
  answers = λ e. as_event g.L.Link.happens _ _ _ _ c.args.event _ c.args.piece.now (g.L.Link.text c.args.link.now) c.in-Commanded.is c.obey.ensures.answers;
}

pub returns-in-Turn : goal.returns-in-Turn
returns-in-Turn g c = record {
  stop = λ e. absurd (let f : todos.Turn ≡ todos.Stop = e in cc);
  turn = λ e. c.in-Turn.is;
  goes_on = λ e. absurd (let f : todos.Turn ≡ todos.Nothing = e in cc);
  count = refl;
  led = led_same g.L.Link.happens _;
  unchanged = λ ne. (refl, refl);
  answers = λ e. absurd (let f : todos.Turn ≡ todos.Nothing = e in cc);
}

pub returns-in-Room : goal.returns-in-Room
returns-in-Room g c = record {
  stop = λ e. absurd (let f : todos.Nothing ≡ todos.Stop = e in cc);
  turn = λ e. absurd (let f : todos.Nothing ≡ todos.Turn = e in cc);
  goes_on = λ e. ap stops c.in-Room.is;
  count = c.use_room.ensures.count;
  led = c.use_room.ensures.led;
  unchanged = λ ne. absurd (ne refl);
  answers = λ e. as_event g.L.Link.happens _ _ _ _ c.args.event _ c.args.piece.now (g.L.Link.text c.args.link.now) c.in-Room.is c.use_room.ensures.answers;
}

pub returns-in-Lost : goal.returns-in-Lost
returns-in-Lost g c = record {
  stop = λ e. absurd (let f : todos.Nothing ≡ todos.Stop = e in cc);
  turn = λ e. absurd (let f : todos.Nothing ≡ todos.Turn = e in cc);
  goes_on = λ e. ap stops c.in-Lost.is;
  count = c.lose.ensures.count;
  led = c.lose.ensures.led;
  unchanged = λ ne. absurd (ne refl);
  answers = λ e. as_event g.L.Link.happens _ _ _ _ c.args.event _ c.args.piece.now (g.L.Link.text c.args.link.now) c.in-Lost.is c.lose.ensures.answers;
}

pub returns-in-Rules : goal.returns-in-Rules
returns-in-Rules g c = record {
  stop = λ e. absurd (let f : todos.Nothing ≡ todos.Stop = e in cc);
  turn = λ e. absurd (let f : todos.Nothing ≡ todos.Turn = e in cc);
  goes_on = λ e. ap stops c.in-Rules.is;
  count = c.rule.ensures.count;
  led = c.rule.ensures.led;
  unchanged = λ ne. absurd (ne refl);
  answers = λ e. as_event g.L.Link.happens _ _ _ _ c.args.event _ c.args.piece.now (g.L.Link.text c.args.link.now) c.in-Rules.is c.rule.ensures.answers;
}

pub returns-in-Stop : goal.returns-in-Stop
returns-in-Stop g c = record {
  stop = λ e. c.in-Stop.is;
  turn = λ e. absurd (let f : todos.Stop ≡ todos.Turn = e in cc);
  goes_on = λ e. absurd (let f : todos.Stop ≡ todos.Nothing = e in cc);
  count = refl;
  led = led_same g.L.Link.happens _;
  unchanged = λ ne. (refl, refl);
  answers = λ e. absurd (let f : todos.Stop ≡ todos.Nothing = e in cc);
}
