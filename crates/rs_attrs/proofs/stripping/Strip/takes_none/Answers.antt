use Rattle.std.proofs.Common.{◌≡◌, ◌==◌, ◌||◌, ◌∙◌, true, length, map, sym, rules, tests}
use Rattle.std.specs.List.{list_all}
use Rattle.std.proofs.lemmas.Iterator.{YieldsList-from_slice}
use Rattle.std.proofs.lemmas.Iterator.Search.{all_from_yields_List}
use Rattle.std.proofs.lemmas.List.Folds.{list_all-map}
use Rattle.rs_attrs.specs.Patterns.{is_like}
use Rattle.rs_attrs.proofs.Strips.Communities.{none_named}
use Rattle.rs_attrs.proofs.stripping.Strip.takes_none.Goals as goal

pub returns-then-not-self : goal.returns-then-not-self
returns-then-not-self c empty community =
    let patterns = map (λ patterns. patterns.now) c.args.self.now.communities in
    let each = all_from_yields_List (λ patterns. length patterns.now == 0) _ _ _ c.all.ensures.ran (YieldsList-from_slice c.args.self.now.communities cc) (λ x b q k. search (rules, tests)) in
    let all : list_all (λ list. length list == 0) patterns ≡ true = list_all-map (λ list. length list == 0) (λ list. list.now) c.args.self.now.communities ∙ sym each ∙ empty in
    λ i. c.if-not-self.true i || none_named (λ p. is_like p community) patterns all i
