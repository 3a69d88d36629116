use Rattle.std.proofs.Common.{T, sym, ◌∙◌, ap, subst}
use Rattle.std.specs.Prelude.{None, if◌then◌else◌}
use Rattle.std.specs.FinMap as fin
use Rattle.std.specs.FinMap.{find, is_sorted}
use Rattle.rs_octets.specs.Prefixes.{prefix_order}
use Rattle.rs_adjin.specs.Onward.{is_from}
use Rattle.rs_core.specs.Core.{loc_in, loc_rib}
use Rattle.rs_core.proofs.Run.Asking.{get_from, none_from}
use Rattle.rs_core.proofs.Told.InTurn.{outlet_read}
use Rattle.rs_core.proofs.route_server.Core.routes_from.Goals as goal

pub returns : goal.returns
unfolding loc_rib
returns c =
    let v = c.index-outlet.result.now in
    let outlet = outlet_read c.args.self.now c.args.c v c.requires c.index-outlet.ensures in
    let listed = c.routes_from.ensures outlet.numbered in
    record {
      rising = subst (λ es. T (is_sorted prefix_order es)) (sym listed) (fin.entries_sorted (fin.retain_keys v.loc (is_from c.args.from)));
      routes = λ p. ap (find prefix_order p) listed ∙ get_from v.loc c.args.from p ∙ ap (λ o. if is_from c.args.from p then o else None) (sym (ap (λ o. loc_in o p) outlet.read));
      down = λ run h down. listed ∙ none_from v.loc c.args.from (outlet.down run h down);
    }
