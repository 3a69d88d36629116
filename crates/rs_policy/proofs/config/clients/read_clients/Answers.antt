use Rattle.std.proofs.Common.{◌≡◌, ◌+◌, ◌-◌, ◌++◌, ◌∷◌, [], take, ◌∙◌, arith, length-append}
use Rattle.rs_policy.specs.Seen.{data_of}
use Rattle.rs_policy.specs.Documents.{client_checks, client_from, clients_from}
use Rattle.rs_policy.proofs.Reading.Checks.{passed_on_items, answer-value, each-next, walk-next, walk-fails, walk-end}
use Rattle.rs_policy.proofs.Reading.Documents.{data_of-drop, data_of-end}
use Rattle.rs_policy.proofs.Reading.Wholes.{earlier as those_earlier}
use Rattle.rs_policy.proofs.config.clients.read_clients.Goals as goal

pub returns-in_err-client-clause-answers : goal.returns-in_err-client-clause-answers
returns-in_err-client-clause-answers c =
    let earlier : c.deref.result.now ≡ take (c.loop-index.index + 1 - 1) (clients_from (data_of c.args.tables.now)) =
    c.deref.ensures.value ∙ those_earlier _ _ _ _ c.loop-index.invariant.clients c.loop-index.invariant.count in
    passed_on_items _ _ _ c.from_residual-in_err-client.ensures.1
    (λ other. c.loop-index.invariant.answer
    ∙ walk-fails client_from (λ n d. client_checks n (take (n - 1) (clients_from (data_of c.args.tables.now))) d) _ _ _ _ _ _
    (data_of-drop c.args.tables.now c.loop-index.index c.index-tables-index.result (omega arith) c.index-tables-index.is)
    (rw (← earlier) (c.in_err-client.ensures.1 other)))

pub loop-index-preserved : goal.loop-index-preserved
loop-index-preserved c =
    let earlier : c.deref.result.now ≡ take (c.loop-index.index + 1 - 1) (clients_from (data_of c.args.tables.now)) =
    c.deref.ensures.value ∙ those_earlier _ _ _ _ c.loop-index.invariant.clients c.loop-index.invariant.count in
    let grown : c.push.new.self.items ≡ c.loop-index.clients.items ++ c.in_ok-client.client ∷ [] = c.in_ok-push.ensures.items in
    let first = data_of-drop c.args.tables.now c.loop-index.index c.index-tables-index.result (omega arith) c.index-tables-index.is in
    record {
      answer = rw grown
          (c.loop-index.invariant.answer
          ∙ walk-next client_from (λ n d. client_checks n (take (n - 1) (clients_from (data_of c.args.tables.now))) d) _ _ _ _ _ _
          first (rw (← earlier) c.in_ok-client.ensures.0));
      clients = rw grown
          (c.loop-index.invariant.clients
          ∙ each-next client_from _ _ _ _ _ _ first (answer-value _ _ _ c.in_ok-client.ensures.0));
      count = rw grown (omega (arith, c.loop-index.invariant.count, length-append c.loop-index.clients.items (c.in_ok-client.client ∷ [])));
    }

pub returns-clause-answers : goal.returns-clause-answers
returns-clause-answers c = (
  c.loop-index.invariant.answer
      ∙ walk-end client_from (λ n d. client_checks n (take (n - 1) (clients_from (data_of c.args.tables.now))) d) _ _ _
      (data_of-end c.args.tables.now c.loop-index.index (omega arith)),
  tt,
)
