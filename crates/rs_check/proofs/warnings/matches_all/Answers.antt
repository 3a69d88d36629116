use Rattle.toml.specs.View.{view}
use Rattle.rs_check.proofs.Untested.{untested}
use Rattle.rs_check.proofs.warnings.matches_all.Goals as goal

pub returns-then-not-has : goal.returns-then-not-has
returns-then-not-has c = λ yes p. untested (view c.args.rule.now) (cc) p
