use Rattle.std.proofs.Common.{◌∙◌}
use Rattle.rs_attrs.specs.Heads.{head_order}
use Rattle.rs_attrs.proofs.HeadWords.{words_ordered}
use Rattle.rs_attrs.proofs.heads.HeadOrd.cmp.Goals as goal

pub returns : goal.returns
returns c = c.cmp.ensures ∙ words_ordered c.self.inside.word c.other.inside.word ∙ (λ i. head_order (c.self.view_is i) (c.other.view_is i))
