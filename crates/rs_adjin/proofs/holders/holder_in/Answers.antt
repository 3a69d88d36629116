use Rattle.std.proofs.Common.{◌<◌, arith, sym, length}
use Rattle.std.proofs.lemmas.Bool.Decides.{nat_tests}
use Rattle.rs_adjin.proofs.RouteLists.{stands_below, stands_read, stands_note, absent_value}
use Rattle.rs_adjin.proofs.holders.holder_in.Goals as goal

pub returns-in_err-route-in-Ok-clause-attrs : goal.returns-in_err-route-in-Ok-clause-attrs
returns-in_err-route-in-Ok-clause-attrs c =
    let below : c.in-Ok.place < length c.args.routes.now = stands_below c.args.client c.args.routes.now c.in-Ok.place c.in-Ok.ensures.found in
    absurd (grind (arith, nat_tests, below, c.in_err-route-in-Ok.ensures.lookup.0))

pub returns-in_ok-route-in-Ok-clause-attrs : goal.returns-in_ok-route-in-Ok-clause-attrs
returns-in_ok-route-in-Ok-clause-attrs c = sym (stands_read c.args.client c.args.routes.now c.in-Ok.place c.in_ok-route-in-Ok.route.now c.in-Ok.ensures.found c.in_ok-route-in-Ok.ensures.lookup.1)

pub returns-in_ok-route-in-Ok-clause-note : goal.returns-in_ok-route-in-Ok-clause-note
returns-in_ok-route-in-Ok-clause-note c = sym (stands_note c.args.client c.args.routes.now c.in-Ok.place c.in_ok-route-in-Ok.route.now c.in-Ok.ensures.found c.in_ok-route-in-Ok.ensures.lookup.1)

pub returns-in-Err-clause-attrs : goal.returns-in-Err-clause-attrs
returns-in-Err-clause-attrs c = sym (absent_value c.args.client c.args.routes.now c.requires c.in-Err.field-0 c.in-Err.ensures.absent)
