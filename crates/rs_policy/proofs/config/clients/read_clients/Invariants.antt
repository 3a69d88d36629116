use Rattle.std.proofs.Common.{◌≡◌, ◌+◌, ◌-◌, ◌++◌, drop, take, length}
use Rattle.rs_policy.specs.Seen.{data_of}
use Rattle.rs_policy.specs.Values.{answer, each_from, checks_from}
use Rattle.rs_policy.specs.Documents.{client_checks, client_from, clients_checks, clients_from}
use Rattle.rs_policy.proofs.config.clients.read_clients.Given as goal

abbrev pub invariant-loop-index : goal.invariant-loop-index
invariant-loop-index l = record {
  answer :
      answer (clients_checks (data_of l.tables)) (clients_from (data_of l.tables))
      ≡ answer (checks_from (λ n d. client_checks n (take (n - 1) (clients_from (data_of l.tables))) d) (l.index + 1) (data_of (drop l.index l.tables)))
      (l.clients.items ++ each_from client_from (l.index + 1) (data_of (drop l.index l.tables)));
  clients : clients_from (data_of l.tables) ≡ l.clients.items ++ each_from client_from (l.index + 1) (data_of (drop l.index l.tables));
  count : length l.clients.items ≡ l.index;
}
