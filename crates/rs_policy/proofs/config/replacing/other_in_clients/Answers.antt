use Rattle.std.proofs.Common.{◌+◌, ◌∙◌, sym, ap, drop, arith}
use Rattle.rs_policy.specs.Documents.{client_place}
use Rattle.rs_policy.specs.Replacing.{place_or, other_in_clients}
use Rattle.rs_policy.proofs.Replacing.Others.{other_in_clients-next, other_in_clients-end, other_in_all-same}
use Rattle.rs_policy.proofs.config.replacing.other_in_clients.Goals as goal

pub returns-in-Some : goal.returns-in-Some
returns-in-Some c =
    sym
    (other_in_all-same c.args.a.now c.args.b.now (omega arith)
    ∙ c.loop-index.invariant
    ∙ other_in_clients-next (c.loop-index.index + 1) c.loop-index.index c.args.a.now c.args.b.now c.index-a-index.result c.index-b-index.result (omega arith) (omega arith) c.index-a-index.is c.index-b-index.is
    ∙ ap (λ k. place_or (client_place (c.loop-index.index + 1)) k (other_in_clients (c.loop-index.index + 1 + 1) (drop (c.loop-index.index + 1) c.args.a.now) (drop (c.loop-index.index + 1) c.args.b.now))) (sym c.in-Some.ensures))

pub loop-index-preserved : goal.loop-index-preserved
loop-index-preserved c =
    c.loop-index.invariant
    ∙ other_in_clients-next (c.loop-index.index + 1) c.loop-index.index c.args.a.now c.args.b.now c.index-a-index.result c.index-b-index.result (omega arith) (omega arith) c.index-a-index.is c.index-b-index.is
    ∙ ap (λ k. place_or (client_place (c.loop-index.index + 1)) k (other_in_clients (c.loop-index.index + 1 + 1) (drop (c.loop-index.index + 1) c.args.a.now) (drop (c.loop-index.index + 1) c.args.b.now))) (sym c.in_default.ensures)

pub returns : goal.returns
returns c =
    sym
    (other_in_all-same c.args.a.now c.args.b.now (omega arith)
    ∙ c.loop-index.invariant
    ∙ other_in_clients-end (c.loop-index.index + 1) c.loop-index.index c.args.a.now c.args.b.now (omega arith))
