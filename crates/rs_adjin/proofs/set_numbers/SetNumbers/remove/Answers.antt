use Rattle.std.proofs.Common.{◌≡◌, ◌∙◌, ◌%◌, sym, ap, refl, arith, rules, Some, None}
use Rattle.std.specs.Prelude.{slice_get}
use Rattle.std.specs.Arc.{arc_value}
use Rattle.std.proofs.lemmas.Bool.Decides.{nat_tests}
use Rattle.std.proofs.lemmas.Option.{slice_get_past}
use Rattle.rs_adjin.specs.declared.set_numbers.TheConstants.{TREES}
use Rattle.rs_adjin.proofs.TableRows.{shown}
use Rattle.rs_adjin.proofs.SetTrees.{place_for, writes_among, none_among}
use Rattle.rs_adjin.proofs.set_numbers.SetNumbers.remove.Goals as goal

pub returns-in-Some : goal.returns-in-Some
returns-in-Some c =
    let place : c.place_of.result ≡ place_for (arc_value c.args.attrs) = c.place_of.ensures.place ∙ ap (λ h. h % TREES) c.key_of-key.ensures.hash in
    let read : slice_get c.args.self.now.trees.items c.place_of.result ≡ Some c.in-Some.tree.now = shown c.args.self.now.trees.items _ _ _ refl (search (rules, arith)) (search rules) in
    writes_among c.args.self.now.trees.items c.place_of.result c.in-Some.tree.now c.remove.new.self (arc_value c.args.attrs) c.key_of-key.result c.key_of-key.ensures.hash (ap arc_value c.key_of-key.ensures.attrs) place read None c.remove.ensures.updates.0

pub returns : goal.returns
returns c =
    let place : c.place_of.result ≡ place_for (arc_value c.args.attrs) = c.place_of.ensures.place ∙ ap (λ h. h % TREES) c.key_of-key.ensures.hash in
    let none : slice_get c.args.self.now.trees.items c.place_of.result ≡ None = slice_get_past c.args.self.now.trees.items _ (grind (arith, nat_tests, c.in_default.ensures.variant)) in
    none_among c.args.self.now.trees.items (arc_value c.args.attrs) (ap (slice_get c.args.self.now.trees.items) (sym place) ∙ none)
