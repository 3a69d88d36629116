use Rattle.std.proofs.Common.{◌∙◌}
use Rattle.rs_update.proofs.PrefixSets.{searched}
use Rattle.rs_update.proofs.prefixes.stands_in.Goals as goal

pub returns : goal.returns
returns c =
    c.is_ok.ensures.value ∙ searched c.args.prefix.now c.args.prefixes.now c.binary_search.result c.requires c.binary_search.ensures.bound c.binary_search.ensures.position
