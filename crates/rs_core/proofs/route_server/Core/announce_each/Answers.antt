use Rattle.std.proofs.Common.{refl, ◌∙◌, subst, arith, sym, take}
use Rattle.std.specs.Prelude.{Some}
use Rattle.std.specs.Arc.{arc_value}
use Rattle.std.proofs.lemmas.List.{take_all}
use Rattle.rs_core.specs.Run.Parts.{HasOverlaid}
use Rattle.rs_core.proofs.Touched.ChangedPrefixes.{first_overlaid, some_overlaid, touches_others_more, touches_same_held}
use Rattle.rs_core.proofs.Session.Updating.{none_overlaid, one_overlaid, one_spared, routes_none, routes_on, same_spared_behind}
use Rattle.rs_core.proofs.route_server.Core.announce_each.Goals as goal

pub loop-prefix-init : goal.loop-prefix-init
loop-prefix-init c = record { alone = routes_none c.args.c c.args.self.now; held = none_overlaid c.args.c (Some (arc_value c.args.attrs.now)) c.args.self.now.ribs.tables }

pub loop-prefix-preserved : goal.loop-prefix-preserved
loop-prefix-preserved c =
    let was = c.loop-prefix.invariant in
    let old = c.args.self.now.ribs in
    let mid = c.loop-prefix.self.ribs in
    let new = c.announce.new.self in
    let value = Some (arc_value c.args.attrs.now) in
    let touches = c.announce.ensures.touched c.loop-prefix.self.numbered in
    record {
      alone = routes_on c.args.c c.prefix-item.result c.args.self.now c.loop-prefix.self _ refl refl refl refl c.announce.ensures.settings.config
          (one_spared c.args.c c.prefix-item.result value old.tables mid.tables new.tables c.in_ok-announce.ensures.held was.alone.others) touches
          (touches_others_more c.args.c c.prefix-item.result (take c.loop-prefix.prefix-index c.args.prefixes.now) value old mid new (c.loop-prefix.self.ribs_len ∙ was.alone.count ∙ sym c.args.self.now.ribs_len) was.held c.in_ok-announce.ensures.held touches was.alone.others_touched) was.alone;
      held = one_overlaid c.args.c c.loop-prefix.prefix-index _ c.args.prefixes.now c.prefix-item.result value old.tables mid.tables new.tables (omega arith) c.loop-prefix-test.true c.prefix-item.is c.in_ok-announce.ensures.held was.held;
    }

pub returns-clause-alone : goal.returns-clause-alone
returns-clause-alone c = c.loop-prefix.invariant.alone

pub returns-clause-held : goal.returns-clause-held
returns-clause-held c = subst (λ ps. HasOverlaid c.args.c ps (Some (arc_value c.args.attrs.now)) c.args.self.now.ribs.tables c.loop-prefix.self.ribs.tables) (take_all c.loop-prefix.prefix-index c.args.prefixes.now (omega arith)) c.loop-prefix.invariant.held

pub returns-in_err-announce-clause-alone : goal.returns-in_err-announce-clause-alone
returns-in_err-announce-clause-alone c =
    let was = c.loop-prefix.invariant.alone in
    let old = c.args.self.now.ribs in
    let mid = c.loop-prefix.self.ribs in
    let new = c.announce.new.self in
    let touches = c.announce.ensures.touched c.loop-prefix.self.numbered in
    routes_on c.args.c c.prefix-item.result c.args.self.now c.loop-prefix.self _ refl refl refl refl c.announce.ensures.settings.config
    (same_spared_behind c.args.c old.tables mid.tables new.tables c.in_err-announce.ensures.refused was.others) touches
    (touches_same_held c.args.c c.prefix-item.result old mid new (c.loop-prefix.self.ribs_len ∙ was.count ∙ sym c.args.self.now.ribs_len) c.in_err-announce.ensures.refused touches was.others_touched) was

pub returns-clause-part : goal.returns-clause-part
returns-clause-part c = first_overlaid c.args.c c.loop-prefix.prefix-index c.args.prefixes.now (Some (arc_value c.args.attrs.now)) c.args.self.now.ribs.tables c.loop-prefix.self.ribs.tables c.loop-prefix.invariant.held

pub returns-in_err-announce-clause-part : goal.returns-in_err-announce-clause-part
returns-in_err-announce-clause-part c =
    let value = Some (arc_value c.args.attrs.now) in
    let old = c.args.self.now.ribs.tables in
    let mid = c.loop-prefix.self.ribs.tables in
    some_overlaid c.args.c c.args.prefixes.now value old mid c.announce.new.self.tables c.in_err-announce.ensures.refused
    (first_overlaid c.args.c c.loop-prefix.prefix-index c.args.prefixes.now value old mid c.loop-prefix.invariant.held)
