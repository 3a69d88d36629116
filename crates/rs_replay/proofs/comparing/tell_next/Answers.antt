use Rattle.std.proofs.Common.{◌≡◌, ◌∙◌, Option, Some, ap, sym, subst}
use Rattle.std.specs.Prelude.{slice_get}
use Rattle.std.proofs.lemmas.Option.{slice_get_read}
use Rattle.rs_core.specs.Run.Meaning.{dues}
use Rattle.rs_core.specs.Told.Points.{latest}
use Rattle.rs_trace.specs.Replays.{name_in}
use Rattle.rs_replay.specs.Findings.{IsFinding, Table, finding_lines}
use Rattle.rs_replay.specs.Telling.{sent_if}
use Rattle.rs_replay.proofs.Telling.{told_down, told_up}
use Rattle.rs_replay.proofs.comparing.tell_next.Goals as goal

pub returns-then-not-is_established : goal.returns-then-not-is_established
returns-then-not-is_established g c to before =
    told_down g.W.TextOut.puts g.met.W.TextOut.puts_on c.args.core.now c.args.names.now c.args.connections.now to c.args.c _ _ _
    (λ run agrees. sym (c.is_established.ensures run agrees) ∙ c.if-not-is_established.true) before

pub returns-in-Ok : goal.returns-in-Ok
returns-in-Ok g c to before =
    let told = c.in_ok-counts.ensures in
    let connection = c.index-connections-c.result in
    let here : slice_get c.args.connections.now c.args.c ≡ Some connection =
    slice_get_read c.args.connections.now _ c.args.c connection (sym c.requires.connections) c.requires.client c.index-connections-c.is in
    told_up g.W.TextOut.puts g.met.W.TextOut.puts_on c.args.core.now c.args.names.now c.args.connections.now to c.args.c c.args.told.now.rows.items c.note.new.self.rows.items
    c.args.told.now.is_same c.note.new.self.is_same c.args.writer.now c.tell_client.new.writer told.0 c.in_ok-counts.counts
    (λ run agrees. sym (c.is_established.ensures run agrees) ∙ c.if-not-is_established.false)
    (λ run agrees up. subst (λ (o : Option Table). IsFinding (λ p. latest (dues run c.args.c p)) o told.0) (sym (ap sent_if here)) (told.3 run agrees up))
    (subst (λ name. g.W.TextOut.puts c.args.writer.now (finding_lines name told.0) c.tell_client.new.writer) c.name.ensures told.1) told.2
    (c.in-Ok.ensures.rows (name_in c.args.names.now)) c.in-Ok.ensures.same before
