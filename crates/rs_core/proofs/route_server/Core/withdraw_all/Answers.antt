use Rattle.std.proofs.Common.{refl, ◌∙◌, subst, arith, sym, take}
use Rattle.std.specs.Prelude.{None}
use Rattle.std.proofs.lemmas.List.{take_all}
use Rattle.rs_core.specs.Run.Parts.{HasOverlaid}
use Rattle.rs_core.proofs.Touched.ChangedPrefixes.{touches_others_more}
use Rattle.rs_core.proofs.Session.Updating.{none_overlaid, one_overlaid, one_spared, routes_none, routes_on}
use Rattle.rs_core.proofs.route_server.Core.withdraw_all.Goals as goal

pub loop-prefix-init : goal.loop-prefix-init
loop-prefix-init c = record { alone = routes_none c.args.c c.args.self.now; held = none_overlaid c.args.c None c.args.self.now.ribs.tables }

pub loop-prefix-preserved : goal.loop-prefix-preserved
loop-prefix-preserved c =
    let was = c.loop-prefix.invariant in
    let old = c.args.self.now.ribs in
    let mid = c.loop-prefix.self.ribs in
    let new = c.withdraw.new.self in
    let touches = c.withdraw.ensures.touched c.loop-prefix.self.numbered in
    record {
      alone = routes_on c.args.c c.prefix-item.result c.args.self.now c.loop-prefix.self _ refl refl refl refl c.withdraw.ensures.settings.config
          (one_spared c.args.c c.prefix-item.result None old.tables mid.tables new.tables c.withdraw.ensures.held was.alone.others) touches
          (touches_others_more c.args.c c.prefix-item.result (take c.loop-prefix.prefix-index c.args.prefixes.now) None old mid new (c.loop-prefix.self.ribs_len ∙ was.alone.count ∙ sym c.args.self.now.ribs_len) was.held c.withdraw.ensures.held touches was.alone.others_touched) was.alone;
      held = one_overlaid c.args.c c.loop-prefix.prefix-index _ c.args.prefixes.now c.prefix-item.result None old.tables mid.tables new.tables (omega arith) c.loop-prefix-test.true c.prefix-item.is c.withdraw.ensures.held was.held;
    }

pub returns-clause-alone : goal.returns-clause-alone
returns-clause-alone c = c.loop-prefix.invariant.alone

pub returns-clause-held : goal.returns-clause-held
returns-clause-held c = subst (λ ps. HasOverlaid c.args.c ps None c.args.self.now.ribs.tables c.loop-prefix.self.ribs.tables) (take_all c.loop-prefix.prefix-index c.args.prefixes.now (omega arith)) c.loop-prefix.invariant.held
