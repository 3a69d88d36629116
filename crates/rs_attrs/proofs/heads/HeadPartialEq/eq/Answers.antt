use Rattle.std.proofs.Common.{◌∙◌}
use Rattle.rs_attrs.specs.Heads.{same_head}
use Rattle.rs_attrs.proofs.HeadWords.{words_equal}
use Rattle.rs_attrs.proofs.heads.HeadPartialEq.eq.Goals as goal

pub returns : goal.returns
returns c = words_equal c.self.inside.word c.other.inside.word ∙ (λ i. same_head (c.self.view_is i) (c.other.view_is i))
