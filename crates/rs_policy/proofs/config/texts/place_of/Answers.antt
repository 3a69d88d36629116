use Rattle.std.proofs.Common.{sym, ℕ}
use Rattle.std.specs.Prelude.{◌==◌}
use Rattle.std.proofs.lemmas.Iterator.Adapters.{position_from-zero}
use Rattle.rs_policy.proofs.config.texts.place_of.Goals as goal

pub loop-index-init : goal.loop-index-init
loop-index-init c = sym (position_from-zero (λ (octet : ℕ). octet == c.args.mark) c.args.text.now)
