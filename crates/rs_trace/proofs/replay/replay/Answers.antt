use Rattle.std.proofs.Common.{◌≡◌, ◌∙◌, sym, ap, subst}
use Rattle.rs_trace.specs.Replays.{HasPlayed}
use Rattle.rs_trace.specs.Through.{answer_of}
use Rattle.rs_trace.proofs.replay.replay.Goals.{in-Ok, in-Err}
use Rattle.rs_trace.proofs.replay.replay.Goals as goal

pub returns-clause-played : goal.returns-clause-played
returns-clause-played g c =
    let same : answer_of c.play_through.result ≡ c.match-play_through.result = elim c.match-play_through.branch [
      | in-Ok w ↦ ap answer_of w.in-Ok.is ∙ sym w.result-is
      | in-Err w ↦ ap answer_of w.in-Err.is ∙ sym w.result-is
    ] in
    let last = c.play_through.new.reader in
    let wrote = c.play_through.new.writer in
    subst (λ r. HasPlayed c.args.config (λ text. g.R.TextIn.takes c.args.reader.now text last) (g.R.TextIn.at_end last) (λ octets. g.W.TextOut.puts c.args.writer.now octets wrote) r) same c.play_through.ensures.played
