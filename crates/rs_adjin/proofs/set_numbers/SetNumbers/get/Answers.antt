use Rattle.std.proofs.Common.{◌≡◌, ◌∙◌, ◌%◌, sym, ap, refl, arith, rules, Some, None}
use Rattle.std.specs.Prelude.{slice_get}
use Rattle.std.specs.Arc.{arc_value}
use Rattle.std.proofs.lemmas.Bool.Decides.{nat_tests}
use Rattle.std.proofs.lemmas.Option.{slice_get_past}
use Rattle.rs_attrs.specs.Comparing.{attributes_hash}
use Rattle.rs_adjin.specs.SetNumbering.{number_within}
use Rattle.rs_adjin.specs.declared.set_numbers.TheConstants.{TREES}
use Rattle.rs_adjin.proofs.TableRows.{shown}
use Rattle.rs_adjin.proofs.SetTrees.{place_for, found_among}
use Rattle.rs_adjin.proofs.set_numbers.SetNumbers.get.Goals as goal

pub returns-in-Some : goal.returns-in-Some
returns-in-Some c =
    let cloned : arc_value c.key_of-key.result.1 ≡ arc_value c.args.attrs.now = search rules in
    let hashed : c.key_of-key.result.0 ≡ attributes_hash (arc_value c.args.attrs.now) = search rules in
    let place : c.place_of.result ≡ place_for (arc_value c.args.attrs.now) = c.place_of.ensures.place ∙ ap (λ h. h % TREES) hashed in
    let read : slice_get c.args.self.now.trees.items c.place_of.result ≡ Some c.in-Some.tree.now = shown c.args.self.now.trees.items _ _ _ refl (search (rules, arith)) (search rules) in
    c.copied.ensures ∙ (c.get-in-Some.ensures.value ∙ found_among c.args.self.now.trees.items c.place_of.result c.in-Some.tree.now c.in-Some.tree.now (arc_value c.args.attrs.now) c.key_of-key.result hashed cloned place read)

pub returns : goal.returns
returns c =
    let hashed : c.key_of-key.result.0 ≡ attributes_hash (arc_value c.args.attrs.now) = search rules in
    let place : c.place_of.result ≡ place_for (arc_value c.args.attrs.now) = c.place_of.ensures.place ∙ ap (λ h. h % TREES) hashed in
    let none : slice_get c.args.self.now.trees.items c.place_of.result ≡ None = slice_get_past c.args.self.now.trees.items _ (grind (arith, nat_tests, c.in-None.ensures.lookup.0)) in
    sym (ap (λ t. number_within t (arc_value c.args.attrs.now)) (ap (slice_get c.args.self.now.trees.items) (sym place) ∙ none))
