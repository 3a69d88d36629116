use Rattle.std.proofs.Common.{rules, tests}
use Rattle.std.proofs.lemmas.Iterator.{YieldsList-from_slice}
use Rattle.std.proofs.lemmas.Iterator.Search.{any_from_yields_List}
use Rattle.rs_attrs.specs.Patterns.{is_like_large}
use Rattle.rs_attrs.proofs.patterns.large_fits_any.Goals as goal

pub returns : goal.returns
returns c = any_from_yields_List (λ p. is_like_large p c.args.community) _ _ _ c.any.ensures.ran (YieldsList-from_slice c.args.patterns.now cc) (λ x b q k. search (rules, tests))
