use Rattle.std.proofs.Common.{◌≡◌, List, ◌∷◌, sym, ap, ◌∙◌}
use Rattle.rs_attrs.specs.Meaning.{Attribute}
use Rattle.rs_attrs.specs.Parts.{parts_left}
use Rattle.rs_attrs.proofs.Written.Parts.{beside_step, last_step, four_step}
use Rattle.rs_attrs.proofs.writing.parts.PartsIterator.next.Goals as goal
use Rattle.rs_attrs.proofs.writing.parts.PartsIterator.next.Goals.{in-Four, in-Two+else-begins_below+in_default}

pub returns-in-Some-clause-steps : goal.returns-in-Some-clause-steps
returns-in-Some-clause-steps c =
    sym c.self.view_is ∙ ap (λ mode. parts_left mode c.self.inside.left c.self.inside.as4) c.in-Two.is
    ∙ beside_step c.self.inside.left c.self.inside.as4 c.take_beside.new.self c.in-Some.part c.begins_below.ensures.legal.rising (sym c.begins_below.ensures.value ∙ c.if-begins_below.false) c.in-Some.ensures
    ∙ ap (λ mode. c.in-Some.part ∷ parts_left mode c.self.inside.left c.take_beside.new.self) (sym c.in-Two.is)

pub returns-clause-steps : goal.returns-clause-steps
returns-clause-steps c =
    let then = c.match-self.self-inside in
    let rest : List Attribute = c.take_first-2.new.self in
    let is : then.left ≡ c.whole.result ∷ rest = c.in_ok-head.ensures.first ∙ ap (λ a. a ∷ rest) (sym c.whole.ensures) in
    let shown : parts_left c.self.inside.mode c.self.inside.left c.self.inside.as4 ≡ c.whole.result ∷ parts_left then.mode rest then.as4 = elim c.match-self.branch [
      | in-Four w ↦ four_step _ _ _ then.left _ _ rest c.whole.result w.in-Four.is (λ i. (w.self-inside-is i).mode) (λ i. (w.self-inside-is i).left) is
      | in-Two+else-begins_below+in_default w ↦
          last_step _ _ _ then.left c.self.inside.as4 _ rest c.whole.result w.in-Two.is (λ i. (w.self-inside-is i).mode) (λ i. (w.self-inside-is i).left) ((λ i. (w.self-inside-is i).as4) ∙ w.in_default.ensures.1) w.begins_below.ensures.legal
          (sym w.begins_below.ensures.value ∙ w.if-begins_below.false) w.in_default.ensures.0 is
    ] in
    sym c.self.view_is ∙ shown
