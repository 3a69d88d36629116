use Rattle.std.proofs.Common.{◌≡◌, true, false, refl, sym, ◌∙◌, ap}
use Rattle.rs_core.specs.Core.{is_refusal}
use Rattle.rs_core.proofs.Drives.Leading.{led_same, led_once}
use Rattle.rs_core.proofs.driving.tell_if_refused.Goals as goal

pub returns-in-Refused : goal.returns-in-Refused
returns-in-Refused g c = record {
  led = led_once g.L.Link.happens _ _ _ c.memory.ensures tt;
  refused = λ e. c.memory.ensures;
  done = λ e. absurd (let f : true ≡ false = sym (ap is_refusal c.in-Refused.is) ∙ c.last.ensures.refused ∙ e in cc);
}

pub returns-in-Never : goal.returns-in-Never
returns-in-Never g c = record {
  led = led_same g.L.Link.happens _;
  refused = λ e. absurd (let f : false ≡ true = sym (ap is_refusal c.in-Never.is) ∙ c.last.ensures.refused ∙ e in cc);
  done = λ e. refl;
}

pub returns-in-Done : goal.returns-in-Done
returns-in-Done g c = record {
  led = led_same g.L.Link.happens _;
  refused = λ e. absurd (let f : false ≡ true = sym (ap is_refusal c.in-Done.is) ∙ c.last.ensures.refused ∙ e in cc);
  done = λ e. refl;
}
