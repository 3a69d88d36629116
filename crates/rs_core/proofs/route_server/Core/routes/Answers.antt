use Rattle.std.proofs.Common.{◌≡◌, T, [], length, sym, ◌∙◌, ap, subst}
use Rattle.std.specs.FinMap as fin
use Rattle.std.specs.FinMap.{find, is_sorted}
use Rattle.rs_octets.specs.Prefixes.{prefix_order}
use Rattle.rs_core.specs.Core.{loc_in, loc_rib}
use Rattle.rs_core.proofs.Told.InTurn.{outlet_read}
use Rattle.rs_core.proofs.route_server.Core.routes.Goals as goal

none_sorted : {X : Type 0} → fin.entries (fin.from_sorted {X = X} {R = prefix_order} []) ≡ []
none_sorted = fin.entries-from_sorted prefix_order [] tt

none_listed : {X : Type 0} → fin.entries (fin.empty {X = X} {R = prefix_order}) ≡ []
none_listed = ap fin.entries (sym (fin.empty_of_len (fin.from_sorted []) (fin.len-entries (fin.from_sorted []) ∙ ap length none_sorted))) ∙ none_sorted

pub returns : goal.returns
unfolding loc_rib
returns c =
    let v = c.index-outlet.result.now in
    let outlet = outlet_read c.args.self.now c.args.c v c.requires c.index-outlet.ensures in
    let listed = c.routes.ensures outlet.numbered in
    record {
      rising = subst (λ es. T (is_sorted prefix_order es)) (sym listed) (fin.entries_sorted v.loc);
      routes = λ p. ap (find prefix_order p) listed ∙ sym (fin.get-entries v.loc p) ∙ sym (ap (λ o. loc_in o p) outlet.read);
      down = λ run h down. listed ∙ ap fin.entries (outlet.down run h down) ∙ none_listed;
    }
