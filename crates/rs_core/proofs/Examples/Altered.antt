-- Worked rows of what moves alter, by computation: routes that come and go, what stands of a client, and what a turn answers.
use Rattle.std.specs.Prelude.{◌≡◌, true, false, [], ◌∷◌, ◌++◌, List, replicate, refl, Some, None, Option}
use Rattle.std.proofs.Common.{inl, inr, sym, arith}
use Rattle.rs_attrs.specs.Meaning.{Attribute, all_types}
use Rattle.rs_attrs.proofs.Rows.{u1_attributes}
use Rattle.rs_policy.specs.Verdicts.{attributes_match, matches, outcome, verdict}
use Rattle.rs_decision.specs.Choice.{unbeaten}
use Rattle.rs_outlet.specs.declared.answers.Last.TheVariants as lasts
use Rattle.rs_core.specs.Run.Moves.{Came, Dropped, Heard, Left, Turned}
use Rattle.rs_core.specs.Touched.Answering.{IsLastBehind}
use Rattle.rs_core.specs.Run.Meaning.{hearing, table}
use Rattle.rs_core.specs.Touched.Altering.{IsAlteredBy}
use Rattle.rs_core.specs.Touched.ByMoves.{Alters, MayAlter}
use Rattle.rs_core.specs.Touched.ByRun.{stands}
use Rattle.rs_core.proofs.Examples.DueRoutes.{announced, base, n24, two_up, u1, w1}

-- A lemma for each contradiction, so that `cc` sees no runs.
some_none : (attributes : List Attribute) → ◌≡◌ {A = Option (List Attribute)} (Some attributes) None → ⊥
some_none attributes same = cc

false_true : false ≡ true → ⊥
false_true same = cc

-- ---- each message counts by itself

-- a route that comes and goes in one piece was there
comes_and_goes : IsAlteredBy base 0 (u1 ++ w1) (hearing 0 two_up) n24
unfolding all_types
comes_and_goes = inl (some_none u1_attributes)

none_left : table (Heard 0 (u1 ++ w1) ∷ two_up) 0 n24 ≡ None
unfolding all_types
none_left = refl

-- so it is touched for b, and not for a, which sent it
touched_for_b : Alters (Heard 0 (u1 ++ w1)) two_up 1 n24
touched_for_b = (λ e. absurd (omega (arith, e)), comes_and_goes)

not_touched_for_a : Alters (Heard 0 (u1 ++ w1)) two_up 0 n24 → ⊥
not_touched_for_a altered = altered.0 refl

-- the same route again alters nothing
same_again : IsAlteredBy base 0 u1 (hearing 0 announced) n24 → ⊥
unfolding all_types
same_again altered = elim altered [ inl differs ↦ differs refl | inr none ↦ absurd none ]

-- nor do octets that are no whole message yet
not_whole : IsAlteredBy base 0 (replicate 16 255) (hearing 0 two_up) n24 → ⊥
not_whole altered = altered

-- ---- octets for which memory was refused

-- what they would have announced may be touched for b, though nothing of it is heard
may_be_touched : MayAlter (Dropped 0 u1) two_up 1 n24
unfolding all_types
may_be_touched = inr (0, u1, refl, (λ e. absurd (omega (arith, e))), inl (some_none u1_attributes))

not_heard : Alters (Dropped 0 u1) two_up 1 n24 → ⊥
not_heard altered = altered.1 refl

-- what goes with the connection is touched
lost_with_it : Alters (Dropped 0 []) announced 1 n24
unfolding all_types
lost_with_it = (λ e. absurd (omega (arith, e)), λ same. some_none u1_attributes (sym same))

-- ---- what stands

-- what stands of a client: what another one holds
holds : stands announced 1 n24 ≡ true
unfolding all_types attributes_match matches outcome verdict unbeaten
holds = refl

-- ---- the answer of the last turn stays

-- c isn't Established: nothing was decided for it
nothing_for_c : IsLastBehind (Came 2 ∷ announced) 2 (lasts.Done (record { decided = 0; whole = false }))
nothing_for_c = record {
  refusal = λ is. absurd (false_true is);
  down = λ _. refl;
  up = λ _ up. absurd (false_true up);
}

-- b is lost after a turn at which memory was refused for it
refused_for_b : IsLastBehind (Came 1 ∷ Left 1 ∷ Turned (1 ∷ []) ∷ announced) 1 lasts.Refused
refused_for_b = record {
  refusal = λ _. (refl, refl);
  down = λ down. absurd (false_true (sym down));
  up = λ not. absurd (false_true (sym not));
}
