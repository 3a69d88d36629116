use Rattle.std.proofs.Common.{sym}
use Rattle.std.specs.Prelude.{bytes_eq, ◌&&◌, is_some}
use Rattle.std.proofs.lemmas.Iterator.Adapters.{position_from-zero}
use Rattle.rs_policy.specs.Configuration.{NamedList}
use Rattle.rs_policy.proofs.config.rule_tables.prefix_list_of.Goals as goal

pub loop-index-init : goal.loop-index-init
loop-index-init c = sym (position_from-zero (λ (list : NamedList). bytes_eq list.name c.args.name.now && is_some list.prefixes) c.args.lists.now)
