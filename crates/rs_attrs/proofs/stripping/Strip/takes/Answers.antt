use Rattle.std.proofs.Common.{◌||◌, sym, ap, ◌∙◌, map, rules, tests}
use Rattle.std.specs.List.{list_any}
use Rattle.std.proofs.lemmas.Iterator.{YieldsList-from_slice}
use Rattle.std.proofs.lemmas.Iterator.Search.{any_from_yields_List}
use Rattle.rs_attrs.specs.Patterns.{is_like}
use Rattle.rs_attrs.proofs.Strips.Communities.{list_any-map}
use Rattle.rs_attrs.proofs.stripping.Strip.takes.Goals as goal

pub returns-else-self : goal.returns-else-self
returns-else-self c =
    any_from_yields_List (λ patterns. list_any (λ p. is_like p c.args.community) patterns.now) _ _ _ c.any.ensures.ran (YieldsList-from_slice c.args.self.now.communities cc) (λ x b q k. search (rules, tests))
    ∙ list_any-map (λ patterns. patterns.now) (λ patterns. list_any (λ p. is_like p c.args.community) patterns) c.args.self.now.communities
    ∙ ap (λ all. all || list_any (λ patterns. list_any (λ p. is_like p c.args.community) patterns) (map (λ patterns. patterns.now) c.args.self.now.communities)) (sym c.if-self.false)
