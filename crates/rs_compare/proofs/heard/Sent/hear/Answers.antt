use Rattle.std.proofs.Common.{◌≡◌, ◌∙◌, cond, sym, ap, subst}
use Rattle.std.specs.Prelude.{Some, None, is_none, option_map}
use Rattle.std.specs.Arc.{arc_value}
use Rattle.rs_octets.specs.Prefixes.{Prefix}
use Rattle.rs_attrs.specs.Effects.{Change, HasEffect, has_prefix}
use Rattle.rs_update.specs.Outcomes.{effect_seen, HasItsAttributes}
use Rattle.rs_compare.specs.Heard.{table_in}
use Rattle.rs_compare.proofs.Hearing.{laid_over, means_more, none_laid}
use Rattle.rs_compare.proofs.heard.Sent.hear.Goals.{in-Some+in_ok-announce-in-Change, in_default}
use Rattle.rs_compare.proofs.heard.Sent.hear.Goals as goal

pub returns-after-attrs-clause-table : goal.returns-after-attrs-clause-table
returns-after-attrs-clause-table c bodies means =
    let body = c.args.body.now in
    let mode = c.args.mode in
    let announced = c.in-Change.announced.items in
    let change : Change = record { withdrawn = c.in-Change.withdrawn.items; announced = announced; attributes = option_map arc_value c.in-Change.attrs } in
    let old = table_in c.args.self.now in
    let mid = table_in c.withdraw.new.self in
    let new = table_in c.match-attrs.self in
    let effect = subst (λ o. HasEffect body mode (effect_seen o)) c.in-Change.is c.in_ok-effect.ensures.effect in
    let without : (p : Prefix) → mid p ≡ cond (has_prefix p change.withdrawn) None (old p) = λ p. c.withdraw.ensures p ∙ ap (λ ps. cond (has_prefix p ps) None (old p)) c.deref.ensures.value in
    let with : (p : Prefix) → new p ≡ cond (has_prefix p announced) change.attributes (mid p) =
    elim c.match-attrs.branch [
      | in-Some+in_ok-announce-in-Change w ↦ λ p.
          ap (λ s. table_in s p) w.self-is ∙ w.in_ok-announce-in-Change.ensures p
          ∙ ap (λ ps. cond (has_prefix p ps) (Some (arc_value w.in-Some.attrs)) (mid p)) w.deref-in-Some.ensures.value
          ∙ ap (λ m. cond (has_prefix p announced) (option_map arc_value m) (mid p)) (sym w.in-Some.is)
      | in_default w ↦ λ p.
          ap (λ s. table_in s p) w.self-is
          ∙ none_laid announced (sym (subst HasItsAttributes c.in-Change.is c.in_ok-effect.ensures.attributes) ∙ ap is_none w.in_default.is) change.attributes mid p
    ] in
    means_more bodies body mode change old new means effect (laid_over change old mid new without with)
