use Rattle.std.proofs.Common.{◌<◌, arith, sym, length}
use Rattle.std.proofs.lemmas.Bool.Decides.{nat_tests}
use Rattle.rs_adjin.proofs.RouteLists.{stands_below, stands_read, absent_value}
use Rattle.rs_adjin.proofs.routes.route_in.Goals as goal

pub returns-in_err-get-in-Ok : goal.returns-in_err-get-in-Ok
returns-in_err-get-in-Ok c =
    let below : c.in-Ok.place < length c.args.routes.now = stands_below c.args.client c.args.routes.now c.in-Ok.place c.in-Ok.ensures.found in
    absurd (grind (arith, nat_tests, below, c.in_err-get-in-Ok.ensures.lookup.0))

pub returns-in_ok-get-in-Ok : goal.returns-in_ok-get-in-Ok
returns-in_ok-get-in-Ok c = sym (stands_read c.args.client c.args.routes.now c.in-Ok.place c.in_ok-get-in-Ok.field-0.now c.in-Ok.ensures.found c.in_ok-get-in-Ok.ensures.lookup.1)

pub returns-in-Err : goal.returns-in-Err
returns-in-Err c = sym (absent_value c.args.client c.args.routes.now c.requires c.in-Err.field-0 c.in-Err.ensures.absent)
