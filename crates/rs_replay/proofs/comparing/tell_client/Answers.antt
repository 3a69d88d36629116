use Rattle.std.proofs.Common.{◌∙◌, ap, subst, sym}
use Rattle.std.specs.Prelude.{option_map}
use Rattle.std.specs.List.{flat_map}
use Rattle.rs_compare.specs.Differences.{reports_of}
use Rattle.rs_compare.specs.Heard.{table_in}
use Rattle.rs_replay.specs.Findings.{Compared, difference_line}
use Rattle.rs_replay.proofs.Telling.{found_compared}
use Rattle.rs_replay.proofs.comparing.tell_client.Goals as goal

pub returns : goal.returns
returns g c =
    let counts = c.in-Ok.found.counts in
    let found = reports_of c.in-Ok.found.differences.items in (
      Compared counts.due counts.sent found,
      subst (λ ds. g.W.TextOut.puts c.args.writer.now (flat_map (difference_line c.args.name.now) (reports_of ds)) c.tell_differences.new.writer) c.deref.ensures.value
          c.in_ok-tell_differences.ensures,
      c.in-Ok.ensures.counted,
      λ run agrees up. found_compared _ (table_in c.in-Some.sent.now) _ _ _ _ (sym (ap (option_map (λ sent. table_in sent.now)) c.in-Some.is) ∙ c.sent.ensures)
          (c.in-Ok.ensures.compared run agrees up),
    )
