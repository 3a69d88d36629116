use Rattle.std.proofs.Common.{◌≡◌, ◌∙◌, ◌++◌, ap, subst, sym}
use Rattle.std.specs.Prelude.{Ok, Err, Some, None}
use Rattle.rs_trace.specs.Replays.{place_in}
use Rattle.rs_replay.specs.SentLines.{said_in, said_of}
use Rattle.rs_replay.specs.Taking.{ReadsNext}
use Rattle.rs_replay.proofs.SentText.{has_fault, has_said, has_said_nothing, reads_said_next, says_fault, stands_passed}
use Rattle.rs_replay.proofs.sent.next_line.Goals as goal

pub returns-in-Ok-Some-clause-on : goal.returns-in-Ok-Some-clause-on
returns-in-Ok-Some-clause-on g c text entries stands =
    let place = place_in c.args.names.now in
    let step = rw c.in-Ok-true.field-0-test at c.in-Ok-true.ensures.step in
    let piece = c.read_sent_line.new.piece in
    let entry = c.in-Ok-Some.entry in
    let said = has_said piece entry c.read_sent_line.result (said_of place c.line.result.now) (c.in-Ok-Some.is ∙ ap Ok c.in-Ok-Some.field-0-is) c.read_sent_line.ensures in
    let says : said_of place c.advance.new.self.line ≡ Ok (Some (said_in piece entry)) = ap (said_of place) (sym c.line.ensures) ∙ said in (
      step.0,
      step.1,
      subst (λ next. ReadsNext place c.args.until (text ++ step.0) (g.R.TextIn.at_end c.advance.new.reader) entries c.args.number c.advance.new.self piece (Ok next)) (sym (c.next_of.ensures piece))
          (reads_said_next place c.args.until text step.0 (g.R.TextIn.at_end c.args.reader.now) (g.R.TextIn.at_end c.advance.new.reader) entries c.args.number c.args.lines.now c.advance.new.self stands
          c.in-Ok-true.ensures.ended piece entry step.2 says),
    )

pub returns-in-Ok-None-clause-on : goal.returns-in-Ok-None-clause-on
returns-in-Ok-None-clause-on g c text entries stands =
    let place = place_in c.args.names.now in
    let step = rw c.in-Ok-true.field-0-test at c.in-Ok-true.ensures.step in
    let said = has_said_nothing c.read_sent_line.new.piece c.read_sent_line.result (said_of place c.line.result.now) (c.in-Ok-None.is ∙ ap Ok c.in-Ok-None.field-0-is) c.read_sent_line.ensures in
    let says : said_of place c.advance.new.self.line ≡ Ok None = ap (said_of place) (sym c.line.ensures) ∙ said in (
      step.0,
      step.1,
      stands_passed place c.args.until text step.0 (g.R.TextIn.at_end c.args.reader.now) (g.R.TextIn.at_end c.advance.new.reader) entries c.args.number c.args.lines.now c.advance.new.self stands
          c.in-Ok-true.ensures.ended step.2 says,
    )

pub returns-in-Err-read_sent_line-clause-on : goal.returns-in-Err-read_sent_line-clause-on
returns-in-Err-read_sent_line-clause-on g c text entries stands =
    let place = place_in c.args.names.now in
    let step = rw c.in-Ok-true.field-0-test at c.in-Ok-true.ensures.step in
    let fault = c.in-Err-read_sent_line.fault in
    let said = has_fault c.read_sent_line.new.piece fault c.read_sent_line.result (said_of place c.line.result.now) c.in-Err-read_sent_line.is c.read_sent_line.ensures in
    let says : said_of place c.advance.new.self.line ≡ Err fault = ap (said_of place) (sym c.line.ensures) ∙ said in (
      step.0,
      step.1,
      says_fault place c.args.until text step.0 (g.R.TextIn.at_end c.args.reader.now) (g.R.TextIn.at_end c.advance.new.reader) entries c.args.number c.args.lines.now c.advance.new.self stands
          c.in-Ok-true.ensures.ended fault step.2 says,
    )
