use Rattle.std.proofs.Common.{◌≡◌, arith, ◌+◌, ◌-◌, ap, sym, ◌∙◌, length}
use Rattle.std.specs.Prelude.{◌==◌}
use Rattle.std.specs.List.{slice_range}
use Rattle.std.proofs.lemmas.List.{with_items_is}
use Rattle.rs_trace.proofs.LineLemmas.{rest_read, length_read}
use Rattle.rs_trace.proofs.lines.Lines.read_more.Goals as goal

pub returns-clause-ok : goal.returns-clause-ok
returns-clause-ok g c =
    let start = c.self.inside.rest_start in
    let end = c.self.inside.rest_end in
    let size = end - start in
    let taken = c.in_ok-taken.taken in
    let new = c.read_behind.new.octets in
    let room : length new ≡ c.self.inside.buffer.len = omega (arith, c.read_behind.auto.octets, c.move_to_front.auto.octets, c.as_mut_slice-octets.ensures.len) in
    let held = with_items_is c.self.inside.buffer new room in
    let waits = ap (λ xs. slice_range xs start end) c.as_mut_slice-octets.ensures.value ∙ ap (λ l. l.rest) c.self.view_is in
    let read = rest_read c.as_mut_slice-octets.result.now c.move_to_front.new.octets new c.args.self.now.rest start end taken waits c.move_to_front.ensures c.in_ok-taken.ensures.kept in
    let count = length_read new size taken (omega (arith, c.in_ok-taken.ensures.within, c.read_behind.auto.octets)) in
    (slice_range new size (size + taken), c.in_ok-taken.ensures.ok, record { rest = ap (λ xs. slice_range xs 0 (size + taken)) held ∙ read; over = ap (λ n. n == 0) (sym count) })
