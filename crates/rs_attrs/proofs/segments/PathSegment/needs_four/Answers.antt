use Rattle.std.proofs.Common.{ap, ◌∙◌, rules, tests}
use Rattle.std.proofs.lemmas.Iterator.Consumers.{YieldsList-from_first}
use Rattle.std.proofs.lemmas.Iterator.Search.{any_from_yields_List}
use Rattle.rs_attrs.specs.Writing.{needs_four_octets}
use Rattle.rs_attrs.proofs.segments.PathSegment.needs_four.Goals as goal

pub returns : goal.returns
returns c =
    any_from_yields_List needs_four_octets _ _ _ c.any.ensures.ran
    (YieldsList-from_first (λ n. n) (λ numbers. numbers) c.args.self.now.numbers (c.of.ensures.numbers ∙ ap (λ s. s.numbers) c.self.view_is)) (λ x b q k. search (rules, tests))
