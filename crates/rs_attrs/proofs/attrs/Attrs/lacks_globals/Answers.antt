use Rattle.std.proofs.Common.{sym, ap, ◌∙◌}
use Rattle.std.specs.List.{list_any}
use Rattle.rs_attrs.specs.Getters.{large_communities_of}
use Rattle.rs_attrs.specs.Patterns.{is_like_large}
use Rattle.rs_attrs.proofs.Unmarked.{denied, none_asked_large, none_like_large}
use Rattle.rs_attrs.proofs.attrs.Attrs.lacks_globals.Goals as goal

pub returns-then-self-asked-eq0 : goal.returns-then-self-asked-eq0
returns-then-self-asked-eq0 c is p asks = ap (λ m. list_any (is_like_large p) (large_communities_of m)) (sym c.self.view_is) ∙ none_like_large p c.self.inside.tag_marks.large c.args.asked.now.marks.large _ c.if-self-asked-eq0.true c.self.invariant.tagged.1 asks.0

pub returns : goal.returns
returns c is p asks = none_asked_large c.args.asked.now.globals p (large_communities_of c.args.self.now) c.if-asked.false asks.1 (sym c.has_global_of.ensures ∙ denied c.has_global_of.result is)
