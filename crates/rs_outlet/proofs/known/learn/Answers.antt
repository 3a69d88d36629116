use Rattle.std.proofs.Common.{◌∙◌, sym, subst}
use Rattle.std.specs.Prelude.{IfSome}
use Rattle.rs_outlet.specs.Decided.HeldBy.{held_by}
use Rattle.rs_outlet.specs.Decided.Precedents.{AreDueAlike}
use Rattle.rs_outlet.proofs.Answered.{on_ok}
use Rattle.rs_outlet.proofs.known.learn.Goals as goal

pub returns-else-is_err : goal.returns-else-is_err
returns-else-is_err c = λ speech so known.
    on_ok c.list_learned.result _ (sym c.is_err.ensures.value ∙ c.if-is_err.false) (c.list_learned.ensures speech so (subst (λ o. IfSome o (λ learned. AreDueAlike (held_by c.args.sources.now) c.args.sources.now.ins.now c.args.sources.now.client speech learned.items)) c.in-Some.is known))
