use Rattle.rs_record.proofs.Found.{are_found}
use Rattle.rs_record.proofs.client_names.ClientNames.new.Goals as goal

pub invariant_of-result : goal.invariant_of-result
invariant_of-result c = record { found = are_found c.in_ok-names.names c.args.config.now c.clients-clients.ensures.sound c.in_ok-names.ensures }
