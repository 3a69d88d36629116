use Rattle.std.proofs.Common.{sym, subst}
use Rattle.std.specs.Prelude.{OnOk}
use Rattle.std.specs.List.{flat_map}
use Rattle.std.proofs.lemmas.List.Folds.{flat_map-map}
use Rattle.rs_replay.specs.Findings.{difference_line}
use Rattle.rs_replay.proofs.Lines.{put_all, put_more}
use Rattle.rs_replay.proofs.findings.tell_differences.Goals as goal

pub loop-difference-preserved : goal.loop-difference-preserved
loop-difference-preserved g c =
    let line = difference_line c.args.name.now (c.difference-item.result.prefix, c.difference-item.result.kind) in
    put_more g.W.TextOut.puts g.met.W.TextOut.puts_on (λ d. difference_line c.args.name.now (d.prefix, d.kind)) c.args.writer.now c.args.differences.now c.loop-difference.difference-index
    c.difference-item.result c.loop-difference.writer c.write.new.writer c.loop-difference-test.true c.difference-item.is c.loop-difference.invariant
    (subst (λ r. OnOk r (g.W.TextOut.puts c.loop-difference.writer line c.write.new.writer)) c.in_ok-write.was (c.write.ensures line c.difference_line.ensures))

pub returns : goal.returns
returns g c =
    let name = c.args.name.now in
    subst (λ ys. g.W.TextOut.puts c.args.writer.now ys c.loop-difference.writer) (sym (flat_map-map (difference_line name) (λ d. (d.prefix, d.kind)) c.args.differences.now))
    (put_all g.W.TextOut.puts g.met.W.TextOut.puts_on (λ d. difference_line name (d.prefix, d.kind)) c.args.writer.now c.args.differences.now c.loop-difference.difference-index
    c.loop-difference.writer c.loop-difference-test.false c.loop-difference.invariant)
