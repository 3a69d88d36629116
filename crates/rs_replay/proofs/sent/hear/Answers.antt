use Rattle.std.proofs.Common.{◌≡◌, ◌∙◌, ◌++◌, [], ◌∷◌, ℕ, length, min, take, ap, subst, sym, arith}
use Rattle.std.proofs.lemmas.List.{take_min}
use Rattle.rs_core.proofs.Run.Lists.{map_ok}
use Rattle.rs_replay.specs.SentLines.{Gave, said_in}
use Rattle.rs_replay.specs.Taking.{HaveTaken}
use Rattle.rs_replay.proofs.SentTo.{have_behind}
use Rattle.rs_replay.proofs.sent.hear.Goals as goal

pub returns-in-Open : goal.returns-in-Open
returns-in-Open c = λ entries have.
    subst (λ e. HaveTaken c.args.core.now (entries ++ said_in c.args.piece.now e ∷ []) c.begin.new.connections) (sym c.in-Open.is) (c.begin.ensures entries have)

pub returns-in-Sent : goal.returns-in-Sent
returns-in-Sent c =
    let piece = c.args.piece.now in
    let size : c.min.result ≡ min c.in-Sent.size (length piece) = c.min.ensures ∙ ap (λ n. min c.in-Sent.size n) (sym c.told-piece) in
    let same : take c.min.result piece ≡ take c.in-Sent.size piece = ap (λ n. take n piece) size ∙ take_min c.in-Sent.size piece in
    map_ok c.take.result c.take.ensures (λ takes entries have.
    subst (λ e. HaveTaken c.args.core.now (entries ++ said_in piece e ∷ []) c.take.new.connections) (sym c.in-Sent.is)
    (subst (λ xs. HaveTaken c.args.core.now (entries ++ Gave c.in-Sent.c xs ∷ []) c.take.new.connections) same (takes entries have)))

pub returns-in-After : goal.returns-in-After
returns-in-After c = λ entries have.
    subst (λ e. HaveTaken c.args.core.now (entries ++ said_in c.args.piece.now e ∷ []) c.args.connections.now) (sym c.in-After.is) (have_behind c.args.core.now entries c.in-After.field-0 c.args.connections.now have)
