use Rattle.std.proofs.Common.{refl, subst}
use Rattle.std.specs.Prelude.{Some}
use Rattle.std.specs.Arc.{arc_value}
use Rattle.std.proofs.lemmas.Result.{on_ok_weaker}
use Rattle.rs_core.specs.Run.Parts.{HasOverlaid, HasOverlaidSome}
use Rattle.rs_core.proofs.Session.Updating.{routes_same, routes_between, overlaid_between, some_between}
use Rattle.rs_core.proofs.route_server.Core.announce_all.Goals as goal

pub returns-in_err-shared-clause-alone : goal.returns-in_err-shared-clause-alone
returns-in_err-shared-clause-alone c = routes_same c.args.c c.args.self.now _ refl refl refl refl c.share.ensures.settings.config c.share.ensures.tables c.share.ensures.outlets

pub returns-clause-alone : goal.returns-clause-alone
returns-clause-alone c = routes_between c.args.c c.args.self.now _ c.announce_each-announced.new.self _ c.announce_each-announced.ensures.alone
    (routes_same c.args.c c.args.self.now _ refl refl refl refl c.share.ensures.settings.config c.share.ensures.tables c.share.ensures.outlets)
    (routes_same c.args.c c.announce_each-announced.new.self _ refl refl refl refl c.forget.ensures.settings.config c.forget.ensures.tables c.forget.ensures.outlets) c.share.ensures.tables c.forget.ensures.tables

pub returns-clause-held : goal.returns-clause-held
returns-clause-held c =
    let old = c.args.self.now.ribs.tables in
    let first = c.share.new.self.tables in
    let last = c.announce_each-announced.new.self.ribs.tables in
    let new = c.forget.new.self.tables in
    on_ok_weaker c.announce_each-announced.result
    (λ has. overlaid_between c.args.c c.args.prefixes.now (Some (arc_value c.args.attrs.now)) old first last new c.share.ensures.tables c.forget.ensures.tables
    (subst (λ m. HasOverlaid c.args.c c.args.prefixes.now (Some m) first last) c.in_ok-shared.ensures.attrs has))
    c.announce_each-announced.ensures.held

pub returns-clause-part : goal.returns-clause-part
returns-clause-part c =
    let old = c.args.self.now.ribs.tables in
    let first = c.share.new.self.tables in
    let last = c.announce_each-announced.new.self.ribs.tables in
    let new = c.forget.new.self.tables in
    some_between c.args.c c.args.prefixes.now (Some (arc_value c.args.attrs.now)) old first last new c.share.ensures.tables c.forget.ensures.tables
    (subst (λ m. HasOverlaidSome c.args.c c.args.prefixes.now (Some m) first last) c.in_ok-shared.ensures.attrs c.announce_each-announced.ensures.part)
