-- A withdrawal after an announcement that was never sent, by computation: the client is told nothing, and nothing else is in order.
use Rattle.std.proofs.Common.{◌≡◌, Bool, false, List, [], ◌∷◌, ◌++◌, refl, inl}
use Rattle.std.specs.Prelude.{Some, None}
use Rattle.rs_attrs.specs.Meaning.{all_types}
use Rattle.rs_attrs.proofs.Rows.{u1_attributes}
use Rattle.rs_policy.specs.Verdicts.{attributes_match, matches, outcome, verdict}
use Rattle.rs_decision.specs.Choice.{unbeaten}
use Rattle.rs_core.specs.Run.Moves.{Move, Heard, Turned, Began}
use Rattle.rs_core.specs.Told.Points.{Offered, Value}
use Rattle.rs_core.specs.Run.Meaning.{hearing, dues}
use Rattle.rs_core.proofs.Examples.DueRoutes.{n24, w1}
use Rattle.rs_core.proofs.Examples.Recorded.{keepalive_sent, bodies, said, InOrder, NothingAlone, nothing_more}
use Rattle.rs_core.proofs.Examples.FirstRoute.{decided}

abbrev gone : List Move
gone = Turned [] ∷ Heard 0 w1 ∷ decided

abbrev never_sent : List Move
never_sent = Began 1 ∷ gone

-- the route was due at a turn, and then none was
came_and_went : dues never_sent 1 n24 ≡ None ∷ Some u1_attributes ∷ []
unfolding all_types attributes_match matches outcome verdict unbeaten
came_and_went = refl

-- and the link took no UPDATE
taken : (hearing 1 never_sent).taken ≡ said ++ keepalive_sent
taken = refl

no_updates : bodies (hearing 1 never_sent).taken ≡ []
no_updates = refl

told_nothing : InOrder (hearing 1 never_sent).points [] false
told_nothing = inl (inl (inl (inl (refl, refl))))

-- ---- only that is in order

nothing_before : NothingAlone (Offered (said ++ keepalive_sent) ∷ Offered said ∷ Offered [] ∷ [])
nothing_before = nothing_more (Offered said ∷ Offered [] ∷ []) (said ++ keepalive_sent) refl (nothing_more (Offered [] ∷ []) said refl (nothing_more [] [] refl (λ values asked is. is)))

nothing_alone : NothingAlone (hearing 1 never_sent).points
unfolding all_types attributes_match matches outcome verdict unbeaten
nothing_alone = nothing_more (hearing 1 gone).points (hearing 1 gone).taken refl nothing_before

-- an announcement of what was due before the last turn is not
no_announcement : (asked : Bool) → InOrder (hearing 1 never_sent).points (Some u1_attributes ∷ []) asked → ⊥
no_announcement asked order = let f : ◌≡◌ {A = List Value} (Some u1_attributes ∷ []) [] = (nothing_alone _ asked order).0 in cc

-- nor is it with the withdrawal after it, nor the withdrawal alone
no_announcement_and_withdrawal : (asked : Bool) → InOrder (hearing 1 never_sent).points (None ∷ Some u1_attributes ∷ []) asked → ⊥
no_announcement_and_withdrawal asked order = let f : ◌≡◌ {A = List Value} (None ∷ Some u1_attributes ∷ []) [] = (nothing_alone _ asked order).0 in cc

no_withdrawal : (asked : Bool) → InOrder (hearing 1 never_sent).points (None ∷ []) asked → ⊥
no_withdrawal asked order = let f : ◌≡◌ {A = List Value} (None ∷ []) [] = (nothing_alone _ asked order).0 in cc
