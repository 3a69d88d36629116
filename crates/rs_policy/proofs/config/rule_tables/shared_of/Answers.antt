use Rattle.std.proofs.Common.{sym}
use Rattle.std.specs.Prelude.{bytes_eq, ◌&&◌}
use Rattle.std.proofs.lemmas.Iterator.Adapters.{position_from-zero}
use Rattle.rs_policy.specs.Configuration.{SharedRules}
use Rattle.rs_policy.specs.Documents.{may_stand}
use Rattle.rs_policy.proofs.config.rule_tables.shared_of.Goals as goal

pub loop-index-init : goal.loop-index-init
loop-index-init c = sym (position_from-zero (λ (used : SharedRules). bytes_eq used.name c.args.name.now && may_stand c.args.receiver used.rules) c.args.shared.now)
