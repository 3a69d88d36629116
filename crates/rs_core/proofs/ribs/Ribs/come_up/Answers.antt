use Rattle.std.proofs.Common.{◌≡◌, ◌<◌, ap, subst, sym, ◌∙◌, refl}
use Rattle.rs_adjin.specs.AdjIns.{number_of, Begins}
use Rattle.std.specs.Prelude.{if◌then◌else◌}
use Rattle.rs_open.specs.declared.short.Limit.TheVariants as limits
use Rattle.rs_outlet.specs.Views.{View, begun}
use Rattle.rs_core.specs.Ribs.{outlet_in}
use Rattle.rs_core.specs.Touched.Touches.{IsTouchedWhereHeld}
use Rattle.rs_core.proofs.Run.Agreeing.{begun_held, begun_again}
use Rattle.rs_core.proofs.Run.Numbers.{numbered_but}
use Rattle.rs_core.proofs.Run.Freshness.{begun_fresh}
use Rattle.rs_core.proofs.Run.Loops.{own_from}
use Rattle.rs_core.proofs.ribs.Ribs.come_up.Goals as goal
use Rattle.rs_core.proofs.ribs.Ribs.come_up.Goals.{then-self, else-self}

pub returns-clause-held : goal.returns-clause-held
returns-clause-held c = subst (λ t. Begins c.args.self.now.tables t c.args.c c.args.identifier) (sym c.begin_session.ensures.tables)
    (begun_again c.args.self.now.tables c.forget_routes.new.self.tables c.begin.new.self c.args.c c.args.identifier c.forget_routes.ensures.held c.begin.ensures.begins)

pub returns-clause-outlet : goal.returns-clause-outlet
returns-clause-outlet c = λ h.
    let others = c.forget_routes.ensures.touched h in
    let from = own_from c.args.c _ c.forget_routes.new.self _ c.begin_session.new.self refl refl c.begin_session.ensures.outlet in
    let limit_is : c.if-self.limit ≡ (if c.args.self.now.extended then c.args.limit else limits.Short) = elim c.if-self.branch [
      | then-self w ↦ w.limit-is ∙ sym (ap (λ b. if b then c.args.limit else limits.Short) (sym c.forget_routes.ensures.settings.extended ∙ w.if-self.true))
      | else-self w ↦ w.limit-is ∙ sym (ap (λ b. if b then c.args.limit else limits.Short) (sym c.forget_routes.ensures.settings.extended ∙ w.if-self.false))
    ] in
    record {
      own = λ none lt. from.own none (subst (λ n. c.args.c < n) (sym c.forget_routes.ensures.settings.count) lt)
          ∙ ap (λ l. begun (record { mode = c.args.mode; limit = l }) (outlet_in c.forget_routes.new.self c.args.c none)) limit_is
          ∙ ap (begun (record { mode = c.args.mode; limit = if c.args.self.now.extended then c.args.limit else limits.Short })) (others.own none);
      others = λ d none lt ne. subst (λ w. IsTouchedWhereHeld c.args.self.now.tables c.args.c (outlet_in c.args.self.now d none) w) (sym (from.others d none ne)) (others.others d none lt ne);
    }

pub returns-clause-kept : goal.returns-clause-kept
returns-clause-kept c = record {
  numbered = λ h. numbered_but c.forget_routes.new.self c.begin_session.new.self c.args.c _ c.begin_session.ensures.settings.count
      (λ p n is. ap (λ t. number_of t p) c.begin_session.ensures.tables ∙ c.begin.ensures.numbers p ∙ is)
      (own_from c.args.c _ c.forget_routes.new.self _ c.begin_session.new.self refl refl c.begin_session.ensures.outlet) (λ v w e. ap (λ (x : View). x.numbers) e) (c.forget_routes.ensures.kept.numbered h);
  fresh = λ h f. begun_fresh c.forget_routes.new.self c.begin_session.new.self c.args.c c.args.identifier _
      (record { count = c.begin_session.ensures.settings.count; extended = c.begin_session.ensures.settings.extended; config = c.begin_session.ensures.settings.config })
      (subst (λ t. Begins c.forget_routes.new.self.tables t c.args.c c.args.identifier) (sym c.begin_session.ensures.tables) c.begin.ensures.begins)
      (own_from c.args.c _ c.forget_routes.new.self _ c.begin_session.new.self refl refl c.begin_session.ensures.outlet) (λ v w e. (ap (λ (x : View). x.touched) e, ap (λ (x : View). x.stale) e))
      (begun_held c.args.self.now.tables c.forget_routes.new.self.tables c.args.c 0 c.forget_routes.ensures.held) (c.forget_routes.ensures.kept.fresh h f);
}
