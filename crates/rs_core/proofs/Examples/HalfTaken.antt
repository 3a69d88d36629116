-- A sender is lost and comes again with another route while an UPDATE to another member is half taken, by computation, as the
-- recorded session new_route_in_place_of_the_old has it: that UPDATE goes on as it began, and the next one tells the other route.
use Rattle.std.proofs.Common.{◌≡◌, Bool, false, List, [], ◌∷◌, ◌++◌, take, drop, refl, inl}
use Rattle.std.specs.Prelude.{Some}
use Rattle.rs_octets.specs.Messages.{body_of}
use Rattle.rs_attrs.specs.Meaning.{all_types}
use Rattle.rs_attrs.proofs.Rows.{u1_attributes}
use Rattle.rs_policy.specs.Verdicts.{attributes_match, matches, outcome, verdict}
use Rattle.rs_decision.specs.Choice.{unbeaten}
use Rattle.rs_core.specs.Run.Moves.{Move, Heard, Left, Turned, Began, Took}
use Rattle.rs_core.specs.Told.Points.{Value}
use Rattle.rs_core.specs.Run.Meaning.{hearing, dues}
use Rattle.rs_core.proofs.Examples.DueRoutes.{n24, open_a, u5, u5_attributes, up}
use Rattle.rs_core.proofs.Examples.Recorded.{announces, keepalive_sent, bodies, route, route_5, said, tells, tells_more, tells_route, InOrder, OneMore}
use Rattle.rs_core.proofs.Examples.FirstRoute.{decided}

abbrev half : List Move
half = Turned [] ∷ Heard 0 u5 ∷ up 0 open_a (Left 0 ∷ Took 1 (take 20 route) ∷ Began 1 ∷ decided)

abbrev whole : List Move
whole = Took 1 (drop 20 route) ∷ Began 1 ∷ half

abbrev both_told : List Move
both_told = Began 1 ∷ Took 1 route_5 ∷ Began 1 ∷ whole

both_due : dues both_told 1 n24 ≡ Some u5_attributes ∷ Some u1_attributes ∷ []
unfolding all_types attributes_match matches outcome verdict unbeaten
both_due = refl

-- ---- what is half taken is no UPDATE yet

no_update : bodies (hearing 1 half).taken ≡ []
no_update = refl

two_updates : bodies (hearing 1 both_told).taken ≡ body_of route ∷ body_of route_5 ∷ []
two_updates = refl

-- and none begins after it, whatever is due there
none_begins : (values : List Value) (asked : Bool) → OneMore (hearing 1 half).points (hearing 1 half).taken values asked → ⊥
none_begins values asked more = let f : take 20 route ≡ [] = more.whole in cc

-- ---- the first as it began, then the second

in_order : InOrder (hearing 1 both_told).points (Some u5_attributes ∷ Some u1_attributes ∷ []) false
unfolding all_types attributes_match matches outcome verdict unbeaten
in_order = inl (tells_more (hearing 1 whole).points (said ++ keepalive_sent ++ route) (Some u5_attributes) (Some u1_attributes ∷ []) false
    (inl (tells_route (hearing 1 decided).points (said ++ keepalive_sent) (inl (inl (inl (refl, refl)))) (tells (said ++ keepalive_sent) [] refl tt) refl refl))
    (tells (said ++ keepalive_sent ++ route) (announces ∷ []) refl (refl, tt)) refl refl (inl (λ e. let f : ◌≡◌ {A = Value} (Some u5_attributes) (Some u1_attributes) = e in cc)))
