use Rattle.std.proofs.Common.{rules, tests}
use Rattle.std.specs.List.{list_any}
use Rattle.std.proofs.lemmas.Iterator.Consumers.{YieldsList-from_first}
use Rattle.std.proofs.lemmas.Iterator.Search.{any_from_yields_List}
use Rattle.rs_attrs.specs.Paths.{Segment}
use Rattle.rs_attrs.specs.Writing.{needs_four_octets, path_in}
use Rattle.rs_attrs.proofs.writing.narrow.needs_four.Goals as goal

pub returns : goal.returns
returns c =
    any_from_yields_List (λ (s : Segment). list_any needs_four_octets s.numbers) _ _ _ c.any.ensures.ran
    (YieldsList-from_first (λ s. s) (λ segments. segments) (path_in c.args.path.now) c.of.ensures.segments) (λ x b q k. search (rules, tests))
