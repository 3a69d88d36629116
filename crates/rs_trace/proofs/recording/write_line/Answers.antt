use Rattle.std.proofs.Common.{ℕ, List, ◌++◌, take, rules, sym, ◌∙◌, subst}
use Rattle.rs_trace.proofs.PlayLemmas.{puts_no_more, puts_all, front_of_part, made_so}
use Rattle.rs_trace.proofs.recording.write_line.Goals as goal

pub returns-then-has_failed-clause-put : goal.returns-then-has_failed-clause-put
returns-then-has_failed-clause-put g c to octets wanted made p = puts_no_more (λ xs. g.W.TextOut.puts to xs c.args.writer.now) octets wanted c.args.stop (sym c.has_failed.ensures ∙ c.if-has_failed.true) p

pub returns-in-Err-clause-put : goal.returns-in-Err-clause-put
returns-in-Err-clause-put g c to octets wanted made p =
    let goes = sym c.has_failed.ensures ∙ c.if-has_failed.false in
    let all = puts_all (λ xs. g.W.TextOut.puts to xs c.args.writer.now) octets c.args.stop goes p in
    let front = c.in-Err.ensures.front in
    let same = made_so c.args.made (search rules) made in
    let put = g.met.W.TextOut.puts_on to c.args.writer.now c.put.new.writer octets (take front.0 c.args.line.now) all front.2 in
    front_of_part (λ xs. g.W.TextOut.puts to xs c.put.new.writer) octets wanted front.0 (subst (λ (ys : List ℕ). g.W.TextOut.puts to (octets ++ take front.0 ys) c.put.new.writer) same put)
