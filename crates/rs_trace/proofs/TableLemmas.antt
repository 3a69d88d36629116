-- The routes that a route server lists, as the run says what they are.
use Rattle.std.proofs.Common.{◌≡◌, ◌∙◌, ◌<◌, ◌++◌, ℕ, Bool, true, false, T, List, ◌∷◌, Option, Some, None, refl, sym, ap, subst, append_assoc}
use Rattle.std.specs.Prelude.{if◌then◌else◌, Result, Ok, Err, IfOk, IsErr}
use Rattle.std.specs.List.{flat_map}
use Rattle.std.specs.FinMap.{find, is_sorted}
use Rattle.rs_octets.specs.Prefixes.{Prefix, prefix_order}
use Rattle.rs_attrs.specs.declared.mode.Mode.{Mode}
use Rattle.rs_attrs.specs.Meaning.{Attribute}
use Rattle.rs_core.specs.Run.Agreeing.{Agrees}
use Rattle.rs_core.specs.Core.{client_count, loc_rib}
use Rattle.rs_core.specs.Session.Hearing.{is_up, mode_in, state_in}
use Rattle.rs_core.specs.Run.Moves.{Move, config_in}
use Rattle.rs_core.specs.Run.Meaning.{hearing, is_established}
use Rattle.rs_core.specs.declared.route_server.Core.{Core}
use Rattle.rs_core.proofs.Told.InTurn.{has_what_was_due}
use Rattle.rs_trace.specs.Tables.{ListsAs, ListsLocRib, ListsOf, line_of_route}

-- what a route server lists of a client
pub record AreRoutes (core : Core) (c : ℕ) (routes : List (Prefix × List Attribute)) : Type 0 where
  pub rising : T (is_sorted prefix_order routes)
  pub each : (p : Prefix) → find prefix_order p routes ≡ loc_rib core c p

-- so many of the routes have been written, and these are left
pub record AreWritten (core : Core) (c : ℕ) (name : List ℕ) (mode : Mode) (written : List ℕ) (left : List (Prefix × List Attribute)) : Type 0 where
  pub routes : List (Prefix × List Attribute)
  pub are : AreRoutes core c routes
  pub so_far : written ++ flat_map (line_of_route name mode) left ≡ flat_map (line_of_route name mode) routes

only_up : (up : Bool) (o : Option Mode) (mode : Mode) → (if up then o else None) ≡ Some mode → up ≡ true
only_up true o mode h = refl
only_up false o mode h = let bad : None ≡ Some mode = h in cc

module _ (core : Core) (c : ℕ) (name : List ℕ) (mode : Mode) (routes : List (Prefix × List Attribute)) (lt : c < client_count core) (are : AreRoutes core c routes) where
  -- they are the lines of its Loc-RIB after a run
  pub lists : (run : List Move) → Agrees core run → mode_in (config_in run) c (hearing c run) ≡ Some mode → ListsLocRib run c name (flat_map (line_of_route name mode) routes)
  lists run agrees spoken =
      let up : is_established run c ≡ true = only_up (is_up (state_in (config_in run) c (hearing c run))) _ mode spoken in
      subst (λ o. ListsAs run c name (flat_map (line_of_route name mode) routes) o) (sym spoken)
      (routes, record { rising = are.rising; due = λ p. are.each p ∙ has_what_was_due core run c p lt agrees up }, refl)

  -- and after each run that the route server agrees with
  pub listed : (spoken : Option Mode) → ((run : List Move) → Agrees core run → spoken ≡ mode_in (config_in run) c (hearing c run)) → spoken ≡ Some mode
      → (run : List Move) → Agrees core run → ListsOf (client_count core) run c name (flat_map (line_of_route name mode) routes)
  listed spoken says is run agrees below = lists run agrees (sym (says run agrees) ∙ is)

pub none_ok : {A B : Type 0} (P : A → Type 0) (r : Result A B) → IsErr r → IfOk r P
none_ok P (Ok value) h = let bad : false ≡ true = h in cc
none_ok P (Err fault) h = tt

-- one route more was written
pub writes_on : (core : Core) (c : ℕ) (name : List ℕ) (mode : Mode) (written line more : List ℕ) (route : Prefix × List Attribute) (left rest : List (Prefix × List Attribute))
    → AreWritten core c name mode written left → left ≡ route ∷ rest → line ≡ line_of_route name mode route → more ≡ written ++ line → AreWritten core c name mode more rest
writes_on core c name mode written line more route left rest w first is all = record {
  routes = w.routes;
  are = w.are;
  so_far = ap (λ xs. xs ++ flat_map (line_of_route name mode) rest) (all ∙ ap (λ xs. written ++ xs) is)
      ∙ append_assoc written (line_of_route name mode route) (flat_map (line_of_route name mode) rest)
      ∙ ap (λ xs. written ++ flat_map (line_of_route name mode) xs) (sym first) ∙ w.so_far;
}
