use Rattle.std.proofs.Common.{◌≡◌, [], ◌++◌, ◌∙◌, true, ap, sym, refl, subst}
use Rattle.std.specs.Prelude.{Ok, Err}
use Rattle.rs_trace.specs.declared.trace_lines.TraceLines.{TraceLines}
use Rattle.rs_trace.specs.Entries.{line_meant}
use Rattle.rs_trace.specs.Lines.{IsStep, Reading}
use Rattle.rs_trace.specs.Text.{said}
use Rattle.rs_trace.specs.Trace.{line_of}
use Rattle.rs_trace.specs.Replays.{place_in}
use Rattle.rs_trace.proofs.ReplayLemmas.{means_first, stands_at_fault, taken_up, line_has_meant, line_is_faulty}
use Rattle.rs_trace.proofs.PlayLemmas.{still_first}
use Rattle.rs_trace.proofs.trace_lines.TraceLines.read_event.Goals as goal

pub returns-then-number-clause-on : goal.returns-then-number-clause-on
returns-then-number-clause-on g c text s goes = (
  [],
  g.met.R.TextIn.takes_none c.args.reader.now,
  still_first (place_in c.args.names.now) (text ++ []) s (means_first (place_in c.args.names.now) text [] s c.args.number.now c.args.self.now goes.0 (λ over. refl)),
)

pub returns-in-Err-clause-on : goal.returns-in-Err-clause-on
returns-in-Err-clause-on g c text s goes =
    let kept = c.in-Err.ensures.kept in
    (kept.0, kept.1, still_first (place_in c.args.names.now) (text ++ kept.0) s (means_first (place_in c.args.names.now) text kept.0 s c.args.number.now c.args.self.now goes.0 kept.3))

pub returns-in-Ok-clause-on : goal.returns-in-Ok-clause-on
returns-in-Ok-clause-on g c text s goes =
    let place = place_in c.args.names.now in
    let step = rw c.in-Ok-true.field-0-test at c.in-Ok-true.ensures.step in
    let old = c.args.self.now in
    let new = c.event_of.new.self in
    let same : new.lines ≡ c.advance.new.self = c.event_of.ensures.lines in
    let before = g.R.TextIn.at_end c.args.reader.now in
    let over = g.R.TextIn.at_end c.advance.new.reader in
    let steps : IsStep true old.lines new.lines step.0 = subst (λ (r : Reading). IsStep true old.lines r step.0) (sym same) step.2 in
    let ended : (old.lines.is_over ≡ true → before) → new.lines.is_over ≡ true → over = subst (λ (r : Reading). (old.lines.is_over ≡ true → before) → r.is_over ≡ true → over) (sym same) c.in-Ok-true.ensures.ended in
    let meant = line_has_meant c.read_line.new.piece c.in-Ok.entry c.read_line.result (line_of place c.line.result.now) c.in-Ok.is c.read_line.ensures.meaning in
    let says : line_of place new.lines.line ≡ Ok (line_meant c.read_line.new.piece c.in-Ok.entry) = ap (λ (r : Reading). line_of place r.line) same ∙ ap (line_of place) (sym c.line.ensures) ∙ meant in
    (step.0, step.1, taken_up place text step.0 before over s c.args.number.now (line_meant c.read_line.new.piece c.in-Ok.entry) c.read_line.new.piece c.event_of.result old new goes steps ended says c.event_of.ensures.takes_up)

pub returns-in-Err-read_line-clause-on : goal.returns-in-Err-read_line-clause-on
returns-in-Err-read_line-clause-on g c text s goes =
    let place = place_in c.args.names.now in
    let step = rw c.in-Ok-true.field-0-test at c.in-Ok-true.ensures.step in
    let old = c.args.self.now in
    let new : TraceLines = record old { lines = c.advance.new.self } in
    let fault = line_is_faulty c.read_line.new.piece c.in-Err-read_line.fault c.read_line.result (line_of place c.line.result.now) c.in-Err-read_line.is c.read_line.ensures.meaning in
    let says : said old.text.items (line_of place c.advance.new.self.line) ≡ Err c.in-Err-read_line.fault = ap (λ l. said old.text.items (line_of place l)) (sym c.line.ensures) ∙ ap (said old.text.items) fault in
    (step.0, step.1, stands_at_fault place text step.0 (g.R.TextIn.at_end c.args.reader.now) (g.R.TextIn.at_end c.advance.new.reader) s c.args.number.now c.in-Err-read_line.fault old new goes step.2 c.in-Ok-true.ensures.ended says)
