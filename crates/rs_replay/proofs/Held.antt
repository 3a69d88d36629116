-- What is found of a client's two lists is how its two tables differ.
use Rattle.std.proofs.Common.{◌≡◌, ◌∙◌, ◌<◌, ℕ, T, List, length, true, ap}
use Rattle.std.specs.Arc.{arc_value}
use Rattle.std.specs.FinMap.{find, is_sorted}
use Rattle.std.proofs.lemmas.List.{length-map}
use Rattle.rs_octets.specs.Prefixes.{Prefix, prefix_order}
use Rattle.rs_attrs.specs.Meaning.{Attribute}
use Rattle.rs_core.specs.Core.{client_count, loc_rib}
use Rattle.rs_core.specs.Run.Agreeing.{Agrees}
use Rattle.rs_core.specs.Run.Moves.{Move}
use Rattle.rs_core.specs.Run.Meaning.{dues, is_established}
use Rattle.rs_core.specs.Told.Points.{latest}
use Rattle.rs_core.specs.declared.route_server.Core.{Core}
use Rattle.rs_core.proofs.Told.InTurn.{has_what_was_due}
use Rattle.rs_compare.specs.declared.compared.Kind.{Kind}
use Rattle.rs_compare.specs.declared.heard.Sent.{Sent}
use Rattle.rs_compare.specs.declared.routes.Route.{Route}
use Rattle.rs_compare.specs.Differences.{AreDifferences, entries_of, kind_of, listed_at}
use Rattle.rs_compare.specs.Heard.{Lists, table_in}
use Rattle.rs_replay.specs.Findings.{AreCompared, HasRoutes}

-- a list of routes has as many entries
pub as_many_entries : (routes : List Route) → length (entries_of routes) ≡ length routes
as_many_entries routes = length-map routes (λ route. (route.prefix, arc_value route.attrs))

-- the routes of a client's Loc-RIB are as many as are due to it
due_routes : (core : Core) (c : ℕ) (due : List (Prefix × List Attribute)) (count : ℕ) → c < client_count core → T (is_sorted prefix_order due) → ((p : Prefix) → find prefix_order p due ≡ loc_rib core c p)
    → count ≡ length due → (run : List Move) → Agrees core run → is_established run c ≡ true → HasRoutes (λ p. latest (dues run c p)) count
due_routes core c due count lt rising each counted run agrees up = record {
  routes = due;
  lists = record { rising = rising; each = λ p. each p ∙ has_what_was_due core run c p lt agrees up };
  counted = counted;
}

pub held_against : (core : Core) (c : ℕ) (sent : Sent) (due others : List (Prefix × List Attribute)) (n m : ℕ) (found : List (Prefix × Kind)) → c < client_count core
    → T (is_sorted prefix_order due) → ((p : Prefix) → find prefix_order p due ≡ loc_rib core c p) → Lists others (table_in sent) → AreDifferences (listed_at due) (listed_at others) found
    → n ≡ length due → m ≡ length others
    → (run : List Move) → Agrees core run → is_established run c ≡ true → AreCompared (λ p. latest (dues run c p)) (table_in sent) n m found
held_against core c sent due others n m found lt rising each lists are due_count sent_count run agrees up = record {
  has_due = due_routes core c due n lt rising each due_count run agrees up;
  has_sent = record { routes = others; lists = lists; counted = sent_count };
  differ = record {
    rising = are.rising;
    exact = λ p.
        are.exact p ∙ ap (λ o. kind_of o (listed_at others p)) (each p ∙ has_what_was_due core run c p lt agrees up)
        ∙ ap (kind_of (latest (dues run c p))) (lists.each p);
  };
}
