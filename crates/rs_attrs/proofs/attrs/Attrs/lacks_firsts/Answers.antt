use Rattle.std.proofs.Common.{sym, ap, ◌∙◌}
use Rattle.std.specs.List.{list_any}
use Rattle.rs_attrs.specs.Getters.{communities_of}
use Rattle.rs_attrs.specs.Patterns.{is_like}
use Rattle.rs_attrs.proofs.Unmarked.{denied, none_asked, none_like}
use Rattle.rs_attrs.proofs.attrs.Attrs.lacks_firsts.Goals as goal

pub returns-then-self-asked-eq0 : goal.returns-then-self-asked-eq0
returns-then-self-asked-eq0 c is p asks = ap (λ m. list_any (is_like p) (communities_of m)) (sym c.self.view_is) ∙ none_like p c.self.inside.tag_marks.communities c.args.asked.now.marks.communities _ c.if-self-asked-eq0.true c.self.invariant.tagged.0 asks.0

pub returns : goal.returns
returns c is p asks = none_asked c.args.asked.now.firsts p (communities_of c.args.self.now) c.if-asked.false asks.1 (sym c.has_first_of.ensures ∙ denied c.has_first_of.result is)
