use Rattle.std.proofs.Common.{◌++◌, [], take, true, ◌∙◌, refl}
use Rattle.rs_trace.proofs.OutputLemmas.{on_err, front_put, more_put}
use Rattle.rs_trace.proofs.output.put.Goals as goal

pub returns-in_err-size-clause-front : goal.returns-in_err-size-clause-front
returns-in_err-size-clause-front g c =
    let before = c.loop-rest.invariant in
    let none = c.in_err-size.ensures.none_put (refl {a = true}) in
    on_err c.from_residual.result (front_put c.args.octets.now before.0 c.loop-rest.rest.now before.1 (λ xs. g.W.TextOut.puts c.args.writer.now xs c.write.new.self)
    (g.met.W.TextOut.puts_on c.args.writer.now c.loop-rest.writer c.write.new.self before.0 [] before.2 none))

pub loop-rest-preserved : goal.loop-rest-preserved
loop-rest-preserved g c =
    let before = c.loop-rest.invariant in
    let some = c.in_ok-size.ensures in (
      before.0 ++ take c.in_ok-size.size c.loop-rest.rest.now,
      more_put c.args.octets.now before.0 c.loop-rest.rest.now c.in_ok-size.size before.1,
      g.met.W.TextOut.puts_on c.args.writer.now c.loop-rest.writer c.write.new.self before.0 (take c.in_ok-size.size c.loop-rest.rest.now) before.2 some.octets,
      some.ok (refl {a = true}) ∙ before.3,
    )
