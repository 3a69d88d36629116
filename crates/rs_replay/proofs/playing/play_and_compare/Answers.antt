use Rattle.std.proofs.Common.{◌≡◌, List, length, refl, subst, sym, ap, arith}
use Rattle.rs_core.specs.Core.{client_count}
use Rattle.rs_trace.specs.Replays.{place_in}
use Rattle.rs_replay.specs.Comparing.{ComparesBy, HasCompared}
use Rattle.rs_replay.specs.Taking.{HaveTaken}
use Rattle.rs_replay.proofs.Compared.{compares_by, is_bad, of_bad, tells_sent}
use Rattle.rs_replay.proofs.playing.play_and_compare.Goals as goal

pub returns-in-Err : goal.returns-in-Err
returns-in-Err g c =
    let played = c.in_ok-played.played in
    of_bad c.bad_file.result c.in-Err.fault c.bad_file.ensures
    (λ outcome. HasCompared c.args.config g.R.TextIn.takes g.R.TextIn.at_end g.W.TextOut.puts g.S.TextIn.takes g.S.TextIn.at_end g.S.TextIn.failures c.args.until c.args.reader.now c.args.writer.now
    c.args.sent.now c.play_through.new.reader c.play_through.new.writer c.read_sent.new.reader outcome)
    (λ not_memory. record {
      played = played;
      before = c.play_through.new.writer;
      through = c.in_ok-played.ensures.through;
      compares = (
        refl,
        is_bad g.S.TextIn.takes g.S.TextIn.at_end g.S.TextIn.failures played.core (place_in played.names) c.args.until c.args.sent.now c.read_sent.new.reader c.in-Err.fault not_memory
            c.in-Err.ensures.sent,
      );
    })

pub returns : goal.returns
returns g c =
    let played = c.in_ok-played.played in
    let before = c.play_through.new.writer in
    let connections = c.deref.result.now in
    let sent = c.in-Ok.ensures.sent in
    let have : HaveTaken played.core sent.0 connections = subst (λ xs. HaveTaken played.core sent.0 xs) (sym c.deref.ensures.value) sent.2 in
    let count : length connections ≡ client_count played.core = omega (arith, ap length c.deref.ensures.value, c.in-Ok.ensures.count, c.in-Ok.connections.ok.0) in
    record {
      played = played;
      before = before;
      through = c.in_ok-played.ensures.through;
      compares = subst (λ outcome. ComparesBy g.W.TextOut.puts g.S.TextIn.takes g.S.TextIn.at_end g.S.TextIn.failures c.args.until played c.args.sent.now c.read_sent.new.reader before outcome c.tell.new.writer)
          (sym c.outcome_of.ensures)
          (compares_by g.W.TextOut.puts g.S.TextIn.takes g.S.TextIn.at_end g.S.TextIn.failures c.args.until played c.args.sent.now c.read_sent.new.reader before _ c.tell.new.writer (record {
            entries = sent.0;
            reads = sent.1;
            tells = tells_sent g.W.TextOut.puts played.core played.names connections sent.0 before _ c.tell.new.writer count have c.in_ok-is_same.ensures;
          }));
    }
