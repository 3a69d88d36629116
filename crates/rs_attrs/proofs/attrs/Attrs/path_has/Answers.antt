use Rattle.std.proofs.Common.{◌≡◌, ◌==◌, ◌∙◌, false, sym, ap, rules, tests, nat_lt, bit_and}
use Rattle.std.specs.List.{list_any}
use Rattle.std.proofs.lemmas.Iterator.Consumers.{YieldsList-from_first}
use Rattle.std.proofs.lemmas.Iterator.Search.{any_from_yields_List}
use Rattle.rs_attrs.specs.Getters.{path_of, path_has_of}
use Rattle.rs_attrs.specs.Marks.{mark_of}
use Rattle.rs_attrs.specs.Spellings.{has_flag}
use Rattle.rs_attrs.proofs.Unmarked.{path_lacks}
use Rattle.rs_attrs.proofs.attrs.Attrs.path_has.Goals as goal

pub returns-then-self-mark_of-eq0 : goal.returns-then-self-mark_of-eq0
returns-then-self-mark_of-eq0 c =
    let marks = c.self.inside.path_marks in
    let none : has_flag (mark_of c.args.number) marks ≡ false = ap (λ mark. nat_lt 0 (bit_and marks mark)) (sym c.mark_of.ensures) ∙ ap (nat_lt 0) c.if-self-mark_of-eq0.true in
    sym (ap (path_has_of c.args.number) (sym c.self.view_is) ∙ path_lacks marks c.args.number _ none c.self.invariant.marked)

pub returns : goal.returns
returns c =
    any_from_yields_List (λ s. list_any (λ n. n == c.args.number) s.numbers) _ _ _ c.any.ensures.ran
    (YieldsList-from_first (λ s. s) (λ segments. segments) (path_of c.args.self.now) c.path.ensures.segments) (λ x b q k. search (rules, tests))
