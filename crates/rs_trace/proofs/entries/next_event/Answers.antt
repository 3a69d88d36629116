use Rattle.std.proofs.Common.{◌≡◌, [], ◌++◌, ◌∙◌, Option, Some, None, subst}
use Rattle.std.specs.Prelude.{Result, Ok}
use Rattle.rs_core.specs.declared.links.Event.{Event}
use Rattle.rs_trace.specs.declared.fault.Stop.{Stop}
use Rattle.rs_core.specs.Drives.Steps as links
use Rattle.rs_trace.specs.Played.{failures_read, meaning_of_event}
use Rattle.rs_trace.specs.Replays.{place_in, stop_of, meanings_in, ReadsOn}
use Rattle.rs_trace.proofs.PlayLemmas.{reads_twice, stands_first}
use Rattle.rs_trace.proofs.entries.next_event.Goals as goal

pub returns-in-Ok-Some-clause-on : goal.returns-in-Ok-Some-clause-on
returns-in-Ok-Some-clause-on g c =
    reads_twice g.R.TextIn.takes g.R.TextIn.at_end (place_in c.args.names.now) g.met.R.TextIn.takes_on c.args.reader.now c.loop.reader c.read_event.new.reader c.args.number.now c.loop.number c.read_event.new.number c.args.lines.now c.loop.lines c.read_event.new.self (meaning_of_event c.in-Ok-Some.event (links.octets_of c.in-Ok-Some.event c.read_event.new.piece c.read_event.new.self.rules.items)) None c.loop.invariant.0
    (subst (λ (x : Option Event). ReadsOn g.R.TextIn.takes g.R.TextIn.at_end (place_in c.args.names.now) c.loop.reader c.loop.number c.loop.lines c.read_event.new.reader c.read_event.new.number c.read_event.new.self (meanings_in c.read_event.new.piece c.read_event.new.self.rules.items (Ok x)) None) c.in-Ok-Some.field-0-is
    (subst (λ (x : Result (Option Event) Stop). ReadsOn g.R.TextIn.takes g.R.TextIn.at_end (place_in c.args.names.now) c.loop.reader c.loop.number c.loop.lines c.read_event.new.reader c.read_event.new.number c.read_event.new.self (meanings_in c.read_event.new.piece c.read_event.new.self.rules.items x) (stop_of x)) c.in-Ok-Some.is c.read_event.ensures.on))

pub returns-in-Err-clause-on : goal.returns-in-Err-clause-on
returns-in-Err-clause-on g c =
    reads_twice g.R.TextIn.takes g.R.TextIn.at_end (place_in c.args.names.now) g.met.R.TextIn.takes_on c.args.reader.now c.loop.reader c.read_event.new.reader c.args.number.now c.loop.number c.read_event.new.number c.args.lines.now c.loop.lines c.read_event.new.self [] (Some c.in-Err.stop) c.loop.invariant.0
    (subst (λ (x : Result (Option Event) Stop). ReadsOn g.R.TextIn.takes g.R.TextIn.at_end (place_in c.args.names.now) c.loop.reader c.loop.number c.loop.lines c.read_event.new.reader c.read_event.new.number c.read_event.new.self (meanings_in c.read_event.new.piece c.read_event.new.self.rules.items x) (stop_of x)) c.in-Err.is c.read_event.ensures.on)

pub loop-preserved : goal.loop-preserved
loop-preserved g c = (
  reads_twice g.R.TextIn.takes g.R.TextIn.at_end (place_in c.args.names.now) g.met.R.TextIn.takes_on c.args.reader.now c.loop.reader c.read_event.new.reader c.args.number.now c.loop.number c.read_event.new.number c.args.lines.now c.loop.lines c.read_event.new.self [] None c.loop.invariant.0
      (subst (λ (x : Option Event). ReadsOn g.R.TextIn.takes g.R.TextIn.at_end (place_in c.args.names.now) c.loop.reader c.loop.number c.loop.lines c.read_event.new.reader c.read_event.new.number c.read_event.new.self (meanings_in c.read_event.new.piece c.read_event.new.self.rules.items (Ok x)) None) c.in-Ok-None.field-0-is
      (subst (λ (x : Result (Option Event) Stop). ReadsOn g.R.TextIn.takes g.R.TextIn.at_end (place_in c.args.names.now) c.loop.reader c.loop.number c.loop.lines c.read_event.new.reader c.read_event.new.number c.read_event.new.self (meanings_in c.read_event.new.piece c.read_event.new.self.rules.items x) (stop_of x)) c.in-Ok-None.is c.read_event.ensures.on)),
  subst (λ (x : Result (Option Event) Stop). g.R.TextIn.failures c.read_event.new.reader ≡ failures_read (stop_of x) (g.R.TextIn.failures c.loop.reader)) c.in-Ok-None.is c.read_event.ensures.reads ∙ c.loop.invariant.1,
)

pub returns-clause-on : goal.returns-clause-on
returns-clause-on g c text s goes =
    let a = c.loop.invariant.0 text s goes in
    (a.0, a.1, stands_first (place_in c.args.names.now) (text ++ a.0) (g.R.TextIn.at_end c.loop.reader) (s ++ []) c.loop.number c.loop.lines None a.2)
