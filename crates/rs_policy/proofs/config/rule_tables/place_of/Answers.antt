use Rattle.std.proofs.Common.{sym}
use Rattle.std.specs.Prelude.{bytes_eq}
use Rattle.std.proofs.lemmas.Iterator.Adapters.{position_from-zero}
use Rattle.rs_policy.specs.Configuration.{Client}
use Rattle.rs_policy.proofs.config.rule_tables.place_of.Goals as goal

pub loop-index-init : goal.loop-index-init
loop-index-init c = sym (position_from-zero (λ (client : Client). bytes_eq client.name c.args.name.now) c.args.clients.now)
