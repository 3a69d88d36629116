use Rattle.rs_core.proofs.Drives.Leading.{led_once}
use Rattle.rs_core.proofs.Drives.Continuing.{rules_by}
use Rattle.rs_core.proofs.driving.rule.Goals as goal

pub returns-clause-led : goal.returns-clause-led
returns-clause-led g c = led_once g.L.Link.happens _ _ _ c.ruled.ensures tt

pub returns-clause-answers : goal.returns-clause-answers
returns-clause-answers g c = rules_by g.L.Link.happens _ _ _ _ _ _ c.rules-answer.result c.rules.ensures c.rules-answer.ensures.count c.ruled.ensures c.rules-answer.ensures.accepted c.rules-answer.ensures.refused c.rules-answer.ensures.unchanged
