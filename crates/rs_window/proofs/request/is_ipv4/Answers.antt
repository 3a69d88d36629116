use Rattle.std.proofs.Common.{◌≡◌, ◌∙◌, ap, rules, tests}
use Rattle.std.specs.Prelude.{not, ◌&&◌}
use Rattle.std.proofs.lemmas.Iterator.{YieldsList-from_slice}
use Rattle.std.proofs.lemmas.Iterator.Search.{all_from_yields_List}
use Rattle.std.specs.List.{list_all}
use Rattle.rs_window.specs.Requests.{is_address_octet}
use Rattle.rs_window.proofs.request.is_ipv4.Goals as goal

pub returns-then-not-is_empty : goal.returns-then-not-is_empty
returns-then-not-is_empty c =
    let all : c.all.result ≡ list_all is_address_octet c.args.host.now = all_from_yields_List is_address_octet _ _ c.all.result c.all.ensures.ran (YieldsList-from_slice c.args.host.now cc) (λ x b q k. search (rules, tests)) in
    all ∙ ap (λ b. not b && list_all is_address_octet c.args.host.now) c.if-not-is_empty.ensures
