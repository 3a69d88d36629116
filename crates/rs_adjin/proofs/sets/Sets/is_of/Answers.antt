use Rattle.std.proofs.Common.{◌∙◌, ap, sym, Some}
use Rattle.std.specs.Prelude.{option_map}
use Rattle.std.specs.Arc.{arc_value}
use Rattle.rs_attrs.specs.ComparisonLaws.{attributes_decides}
use Rattle.rs_adjin.proofs.sets.Sets.is_of.Goals as goal

pub returns-in-Some : goal.returns-in-Some
returns-in-Some c same =
    c.args.self.now.inverse.back (arc_value c.args.attrs.now) c.args.set
    (sym c.attrs.ensures ∙ ap (option_map (λ attrs. arc_value attrs.now)) c.in-Some.is ∙ ap (λ m. Some m) ((attributes_decides (arc_value c.in-Some.kept.now) (arc_value c.args.attrs.now)).0 (sym c.eq.ensures ∙ same)))
