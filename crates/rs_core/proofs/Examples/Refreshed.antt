-- A client asks for all routes again (RFC 2918, 4), by computation, as the recorded session route_refresh has it: it is told a route
-- again that it was told before, and is not where it did not ask.
use Rattle.std.proofs.Common.{◌≡◌, ℕ, Bool, true, false, List, [], ◌∷◌, ◌++◌, refl, inl, inr}
use Rattle.std.specs.Prelude.{codes, Some}
use Rattle.std.proofs.lemmas.Bool.{false≢true}
use Rattle.rs_attrs.specs.Meaning.{all_types}
use Rattle.rs_attrs.proofs.Rows.{u1_attributes}
use Rattle.rs_policy.specs.Configuration.{Configuration}
use Rattle.rs_policy.specs.Verdicts.{attributes_match, matches, outcome, verdict}
use Rattle.rs_decision.specs.Choice.{unbeaten}
use Rattle.rs_core.specs.Told.InTurn.{HasBeenAnswered}
use Rattle.rs_core.specs.Run.Moves.{Move, Ruled, Heard, Turned, Began, Took}
use Rattle.rs_core.specs.Told.Points.{Offered, Value}
use Rattle.rs_core.specs.Run.Meaning.{hearing}
use Rattle.rs_core.proofs.Examples.DueRoutes.{base, m, n24, open_a, open_b, u1, up}
use Rattle.rs_core.proofs.Examples.Recorded.{announces, keepalive_sent, four, greeted, nothing_more, no_more_than_once, once_more, route, tells, tells_more, tells_route, InOrder, NothingAlone, Once}

abbrev with_refresh : Configuration
with_refresh = record base { top = record base.top { refresh = true } }

-- the OPEN with the capability for it (RFC 2918, 2)
abbrev said : List ℕ
said = m (codes "0027 01 04 fbf4 005a c0000201 0a 0208 4104 0000fbf4 0200")

-- ROUTE-REFRESH for IPv4 unicast, and for IPv6 unicast
abbrev request : List ℕ
request = m (codes "0017 05 0001 00 01")

abbrev other_request : List ℕ
other_request = m (codes "0017 05 0002 00 01")

abbrev decided : List Move
decided = Turned [] ∷ Heard 0 u1 ∷ greeted 1 said (up 1 open_b (greeted 0 said (up 0 open_a (Ruled with_refresh ∷ []))))

-- the route is told, after a run
abbrev told : List Move → List Move
told run = Began 1 ∷ Took 1 route ∷ Began 1 ∷ run

-- ---- once, and again after the request

once : InOrder (hearing 1 (told decided)).points (Some u1_attributes ∷ []) false
unfolding all_types attributes_match matches outcome verdict unbeaten
once = inl (tells_route (hearing 1 decided).points (said ++ keepalive_sent) (inl (inl (inl (refl, refl)))) (tells (said ++ keepalive_sent) [] refl tt) refl refl)

abbrev again : List Move
again = told (Heard 1 request ∷ told decided)

taken : (hearing 1 again).taken ≡ said ++ keepalive_sent ++ route ++ route
taken = refl

twice : InOrder (hearing 1 again).points (Some u1_attributes ∷ Some u1_attributes ∷ []) false
unfolding all_types attributes_match matches outcome verdict unbeaten
twice = inl (tells_more (hearing 1 (Heard 1 request ∷ told decided)).points (said ++ keepalive_sent ++ route) (Some u1_attributes) (Some u1_attributes ∷ []) true (refl, false, once)
    (tells (said ++ keepalive_sent ++ route) (announces ∷ []) refl (refl, tt)) refl refl (inr refl))

answered : HasBeenAnswered four (hearing 1 again).points (hearing 1 again).taken n24 (Some u1_attributes)
unfolding all_types
answered = record { readable = refl; values = Some u1_attributes ∷ Some u1_attributes ∷ []; tells = tells (said ++ keepalive_sent ++ route ++ route) (announces ∷ announces ∷ []) refl (refl, (refl, tt)); last = refl; order = twice }

-- but not before
not_answered_yet : (value : Value) → HasBeenAnswered four (hearing 1 (Heard 1 request ∷ told decided)).points (hearing 1 (told decided)).taken n24 value → ⊥
not_answered_yet value has = false≢true has.order.0

-- ---- it is not told again where the client did not ask, nor where it asked for another family

nothing_before : NothingAlone (Offered (said ++ keepalive_sent) ∷ Offered said ∷ Offered [] ∷ [])
nothing_before = nothing_more (Offered said ∷ Offered [] ∷ []) (said ++ keepalive_sent) refl (nothing_more (Offered [] ∷ []) said refl (nothing_more [] [] refl (λ values asked is. is)))

once_alone : Once (Some u1_attributes) (hearing 1 (told decided)).points
unfolding all_types attributes_match matches outcome verdict unbeaten
once_alone = once_more (Some u1_attributes) (hearing 1 (Began 1 ∷ decided)).points (said ++ keepalive_sent ++ route) refl
    (once_more (Some u1_attributes) (hearing 1 decided).points (said ++ keepalive_sent) refl (no_more_than_once (Some u1_attributes) (hearing 1 decided).points nothing_before))

once_still : Once (Some u1_attributes) (hearing 1 (told (told decided))).points
unfolding all_types attributes_match matches outcome verdict unbeaten
once_still = once_more (Some u1_attributes) (hearing 1 (Began 1 ∷ told decided)).points (said ++ keepalive_sent ++ route ++ route) refl
    (once_more (Some u1_attributes) (hearing 1 (told decided)).points (said ++ keepalive_sent ++ route) refl once_alone)

not_twice : (asked : Bool) → InOrder (hearing 1 (told (told decided))).points (Some u1_attributes ∷ Some u1_attributes ∷ []) asked → ⊥
not_twice asked order = elim (once_still _ asked order).0 [
  | inl none ↦ let f : ◌≡◌ {A = List Value} (Some u1_attributes ∷ Some u1_attributes ∷ []) [] = none in cc
  | inr one ↦ let f : ◌≡◌ {A = List Value} (Some u1_attributes ∷ Some u1_attributes ∷ []) (Some u1_attributes ∷ []) = one in cc
]

no_request : (hearing 1 (Heard 1 other_request ∷ told decided)).points ≡ (hearing 1 (told decided)).points
no_request = refl
