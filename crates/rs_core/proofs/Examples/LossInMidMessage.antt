-- A connection is lost in the midst of an UPDATE, by computation, as the recorded session lost_in_mid_message has it: what was
-- taken of the UPDATE tells nothing, and the next connection begins anew.
use Rattle.std.proofs.Common.{◌≡◌, false, List, [], ◌∷◌, ◌++◌, take, refl, inl}
use Rattle.std.specs.Prelude.{Some, None}
use Rattle.rs_octets.specs.Messages.{body_of, rest_of}
use Rattle.rs_attrs.specs.Meaning.{all_types}
use Rattle.rs_attrs.proofs.Rows.{u1_attributes}
use Rattle.rs_open.specs.declared.short.Limit.TheVariants as limits
use Rattle.rs_session.specs.Items.{is_connected}
use Rattle.rs_policy.specs.Verdicts.{attributes_match, matches, outcome, verdict}
use Rattle.rs_decision.specs.Choice.{unbeaten}
use Rattle.rs_core.specs.Drives.Steps.{Step, Happened, Begin, Offer}
use Rattle.rs_core.specs.Run.Moves.{Move, Left, Turned, Began, Took}
use Rattle.rs_core.specs.Run.Meaning.{hearing, dues}
use Rattle.rs_core.specs.Drives.Serving.{taken_by}
use Rattle.rs_core.specs.Told.Telling.{allowed_to}
use Rattle.rs_core.specs.declared.links.Event.TheVariants.{Lost, Opened, Room, Turn}
use Rattle.rs_core.proofs.Examples.DueRoutes.{n24, open_b, up}
use Rattle.rs_core.proofs.Examples.Recorded.{keepalive_sent, bodies, greeted, greets, route, said, tells, tells_route, InOrder}
use Rattle.rs_core.proofs.Examples.FirstRoute.{decided, steps_before}

-- ten octets of the UPDATE are taken
abbrev cut_off : List Move
cut_off = Took 1 (take 10 route) ∷ Began 1 ∷ decided

-- ---- a part of an UPDATE is none

taken : (hearing 1 cut_off).taken ≡ said ++ keepalive_sent ++ take 10 route
taken = refl

no_update : bodies (hearing 1 cut_off).taken ≡ bodies (said ++ keepalive_sent)
no_update = refl

part : rest_of (allowed_to limits.Short) (hearing 1 cut_off).taken ≡ take 10 route
part = refl

-- nor is it behind a whole one, but for its last octet
one_update : bodies (said ++ keepalive_sent ++ route ++ take 46 route) ≡ body_of route ∷ []
one_update = refl

-- ---- the loss

abbrev lost : List Move
lost = Left 1 ∷ cut_off

nothing_taken : (hearing 1 lost).taken ≡ []
nothing_taken = refl

no_points : (hearing 1 lost).points ≡ []
no_points = refl

not_connected : is_connected (hearing 1 lost).items ≡ false
not_connected = refl

-- ---- the next connection, and the whole route

abbrev decided_anew : List Move
decided_anew = Turned [] ∷ greeted 1 said (up 1 open_b lost)

abbrev back : List Move
back = Began 1 ∷ Took 1 route ∷ Began 1 ∷ decided_anew

taken_anew : (hearing 1 back).taken ≡ said ++ keepalive_sent ++ route
taken_anew = refl

one_update_anew : bodies (hearing 1 back).taken ≡ body_of route ∷ []
one_update_anew = refl

due_anew : dues back 1 n24 ≡ Some u1_attributes ∷ []
unfolding all_types attributes_match matches outcome verdict unbeaten
due_anew = refl

-- though a turn before the loss had decided it, too
in_order : InOrder (hearing 1 back).points (Some u1_attributes ∷ []) false
unfolding all_types attributes_match matches outcome verdict unbeaten
in_order = inl (tells_route (hearing 1 decided_anew).points (said ++ keepalive_sent) (inl (inl (inl (refl, refl)))) (tells (said ++ keepalive_sent) [] refl tt) refl refl)

-- ---- by the steps of the link

abbrev steps_lost : List Step
steps_lost = Happened (Lost 1) [] ∷ Offer 1 (take 10 route) (Some 10) ∷ Happened (Room 1 10) [] ∷ steps_before

-- until the next connection they have what the last one took
of_the_last : taken_by 1 steps_lost ≡ said ++ keepalive_sent ++ take 10 route
of_the_last = refl

none_yet : taken_by 1 (Begin 1 ∷ Happened (Opened 1) [] ∷ steps_lost) ≡ []
none_yet = refl

by_steps : taken_by 1 (Offer 1 route (Some 47) ∷ Happened (Room 1 5000) [] ∷ Happened Turn [] ∷ greets 1 open_b steps_lost) ≡ (hearing 1 back).taken
by_steps = refl

-- an offer that fails took nothing, and one that was taken in part took just that part
failed : taken_by 1 (Offer 1 route None ∷ steps_before) ≡ said ++ keepalive_sent
failed = refl

a_part : taken_by 1 (Offer 1 route (Some 3) ∷ steps_before) ≡ said ++ keepalive_sent ++ take 3 route
a_part = refl
