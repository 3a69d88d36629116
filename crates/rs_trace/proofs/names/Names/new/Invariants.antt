use Rattle.std.proofs.Common.{◌≡◌, map, take}
use Rattle.rs_trace.proofs.names.Names.new.Given as goal

abbrev pub invariant-loop-c : goal.invariant-loop-c
invariant-loop-c l = map (λ name. name.items) l.names.items ≡ map (λ client. client.name) (take l.c l.config.clients)
