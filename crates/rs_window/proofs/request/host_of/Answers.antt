use Rattle.std.proofs.Common.{rules, tests, ◌==◌}
use Rattle.std.proofs.lemmas.Iterator.{YieldsList-from_slice}
use Rattle.std.proofs.lemmas.Iterator.Search.{position_from_yields_List}
use Rattle.rs_window.proofs.Finding.{before, all_before}
use Rattle.rs_window.proofs.request.host_of.Goals as goal

pub returns-in-Some : goal.returns-in-Some
returns-in-Some c =
    let at = position_from_yields_List (λ octet. octet == 58) _ _ c.position.result c.position.ensures.ran (YieldsList-from_slice c.args.value.now cc) (λ x b q k. search (rules, tests)) in
    before _ _ c.args.value.now _ c.position.result at c.in-Some.is c.split_at.ensures.front

pub returns-in-None : goal.returns-in-None
returns-in-None c =
    let at = position_from_yields_List (λ octet. octet == 58) _ _ c.position.result c.position.ensures.ran (YieldsList-from_slice c.args.value.now cc) (λ x b q k. search (rules, tests)) in
    all_before _ c.args.value.now c.position.result at c.in-None.is
