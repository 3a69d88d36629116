-- Worked rows as runs, by computation: four clients, and what is due after each move that counts.
use Rattle.std.specs.Prelude.{◌≡◌, ℕ, ◌+◌, true, false, List, [], ◌∷◌, ◌++◌, replicate, refl, codes, Some, None}
use Rattle.rs_octets.specs.Prefixes.{Prefix}
use Rattle.rs_attrs.specs.Meaning.{Attribute, all_types}
use Rattle.rs_octets.proofs.Rows.{hex}
use Rattle.rs_attrs.proofs.Rows.{well, u1_attributes}
use Rattle.rs_attrs.specs.declared.faults.Cause.TheVariants as causes
use Rattle.rs_open.specs.Notes.{note, note_1}
use Rattle.rs_session.specs.Items.{Message}
use Rattle.rs_session.specs.declared.heard.Heard.TheVariants as heard
use Rattle.rs_session.specs.declared.act.State.TheVariants as states
use Rattle.rs_session.specs.declared.act.Act.TheVariants as acts
use Rattle.rs_session.specs.Endings.{Ends}
use Rattle.rs_session.specs.Sessions.{fate, act_of}
use Rattle.rs_policy.specs.Configuration.{Client, Configuration, no_policy}
use Rattle.rs_policy.specs.Verdicts.{attributes_match, matches, outcome, verdict}
use Rattle.rs_policy.specs.declared.rules.Rule.{Rule}
use Rattle.rs_policy.specs.declared.rules.Item.TheVariants.{Own}
use Rattle.rs_policy.specs.declared.rules.Action.TheVariants as actions
use Rattle.rs_policy.specs.declared.rules.Disposition.TheVariants as dispositions
use Rattle.rs_decision.specs.Choice.{unbeaten}
use Rattle.rs_core.specs.Run.Moves.{Move, Ruled, Came, Heard, Saw, Left, Dropped, Turned}
use Rattle.rs_core.specs.Session.Hearing.{session_in, state_in, ending_in, faulted_updates_in}
use Rattle.rs_core.specs.Run.Meaning.{hearing, is_established, due, dues}
use Rattle.rs_core.specs.Session.OperatorRecords.{notice_with, faulted_by}
use Rattle.rs_core.specs.declared.endings.Ending.TheVariants as reasons

-- ---- the configuration and the octets

abbrev client : ℕ → ℕ → Client
client place limit_as = record { name = (place + 97) ∷ []; client_as = limit_as; listen = (0x7f000001, 17901 + place); peer = 0xc000020b + place; limit = None }

abbrev pub base : Configuration
base = record {
  top = record { server_as = 64500; identifier = 0xc0000201; hold = 90; default = dispositions.Pass; extended = false; refresh = false; multiprotocol = false };
  clients = client 0 64496 ∷ client 1 64497 ∷ client 2 64498 ∷ client 3 64499 ∷ [];
  lists = [];
  shared = [];
  policies = replicate 4 no_policy;
}

-- the octets of a message after its marker
abbrev pub m : List ℕ → List ℕ
m text = replicate 16 255 ++ hex text

abbrev pub open_a : List ℕ
open_a = m (codes "0025 01 04 fbf0 005a c000020b 08 0206 4104 0000fbf0")

abbrev pub open_b : List ℕ
open_b = m (codes "0025 01 04 fbf1 005a c000020c 08 0206 4104 0000fbf1")

abbrev open_c : List ℕ
open_c = m (codes "0025 01 04 fbf2 005a c000020d 08 0206 4104 0000fbf2")

abbrev open_d : List ℕ
open_d = m (codes "0025 01 04 fbf3 005a c000020e 08 0206 4104 0000fbf3")

abbrev pub keepalive : List ℕ
keepalive = m (codes "0013 04")

-- announcements of 198.51.100.0/24 by a and by b; a's with a MULTI_EXIT_DISC of 5, with ORIGIN 3; its withdrawal
abbrev pub u1 : List ℕ
u1 = m (codes "002f 02 0000 0014 40010100 40020602010000fbf0 400304c000020b 18c63364")

abbrev ub : List ℕ
ub = m (codes "002f 02 0000 0014 40010100 40020602010000fbf1 400304c000020c 18c63364")

abbrev pub u5 : List ℕ
u5 = m (codes "0036 02 0000 001b 40010100 40020602010000fbf0 400304c000020b 80040400000005 18c63364")

abbrev bad_origin : List ℕ
bad_origin = m (codes "002f 02 0000 0014 40010103 40020602010000fbf0 400304c000020b 18c63364")

abbrev bad_origin_alone : List ℕ
bad_origin_alone = m (codes "002b 02 0000 0014 40010103 40020602010000fbf0 400304c000020b")

abbrev pub w1 : List ℕ
w1 = m (codes "001b 02 0004 18c63364 0000")

abbrev pub n24 : Prefix
n24 = record { bits = 0xc6336400; len = 24 }

abbrev ub_attributes : List Attribute
ub_attributes = well (0 ∷ []) 1 ∷ well (hex (codes "02010000fbf1")) 2 ∷ well (hex (codes "c000020c")) 3 ∷ []

abbrev pub u5_attributes : List Attribute
u5_attributes = u1_attributes ++ record { kind = 4; optional = true; transitive = false; partial = false; value = 0 ∷ 0 ∷ 0 ∷ 5 ∷ [] } ∷ []

-- a client comes up
abbrev pub up : ℕ → List ℕ → List Move → List Move
up c opening run = Heard c keepalive ∷ Heard c opening ∷ Came c ∷ run

abbrev pub two_up : List Move
two_up = up 1 open_b (up 0 open_a (Ruled base ∷ []))

-- ---- a session comes up at the last octet of its KEEPALIVE

abbrev in_pieces : List Move
in_pieces = Heard 0 (hex (codes "00130")) ∷ Heard 0 (replicate 16 255) ∷ Heard 0 open_a ∷ Came 0 ∷ Ruled base ∷ []

not_yet_up : is_established in_pieces 0 ≡ false
not_yet_up = refl

at_the_last_octet : is_established (Heard 0 (4 ∷ []) ∷ in_pieces) 0 ≡ true
at_the_last_octet = refl

-- ---- one client's route is due to the others, and not to itself

abbrev pub announced : List Move
announced = Turned [] ∷ Heard 0 u1 ∷ two_up

due_to_b : due announced 1 n24 ≡ Some u1_attributes
unfolding all_types attributes_match matches outcome verdict unbeaten
due_to_b = refl

none_due_to_a : due announced 0 n24 ≡ None
unfolding all_types attributes_match matches outcome verdict unbeaten
none_due_to_a = refl

-- c isn't Established
none_due_to_c : due announced 2 n24 ≡ None
unfolding all_types attributes_match matches outcome verdict unbeaten
none_due_to_c = refl

-- ---- an UPDATE at fault is a withdrawal (RFC 7606, 2), and without NLRI a session reset

abbrev at_fault : List Move
at_fault = Heard 0 bad_origin ∷ announced

withdrawn_from_b : due at_fault 1 n24 ≡ None
unfolding all_types attributes_match matches outcome verdict unbeaten
withdrawn_from_b = refl

stays_up : is_established at_fault 0 ≡ true
unfolding all_types
stays_up = refl

reset : fate (session_in base 0) (hearing 0 (Heard 0 bad_origin_alone ∷ at_fault)).items ≡ Ends (Some (note 3 1))
unfolding all_types
reset = refl

-- ---- the choice is made among the routes that the rules pass

abbrev rule : Rule
rule = record {
  range = None;
  tests = record { prefix_in = None; from = Some 0; path_has = None; path_longer = None; path_in = None; origin_as = None; origin_in = None; first_as_is_peer = None; community = None; large_community = None; next_hop_is_peer = None };
  action = actions.Drop;
}

abbrev c_drops_a : Configuration
c_drops_a = record base { policies = no_policy ∷ no_policy ∷ record { import = []; export = Own rule ∷ [] } ∷ no_policy ∷ [] }

abbrev both_announce : List Move
both_announce = Heard 1 ub ∷ Heard 0 u1 ∷ up 3 open_d (up 2 open_c (up 1 open_b (up 0 open_a (Ruled c_drops_a ∷ []))))

due_to_c : due both_announce 2 n24 ≡ Some ub_attributes
unfolding all_types attributes_match matches outcome verdict unbeaten
due_to_c = refl

-- a's BGP Identifier is the lower one
due_to_d : due both_announce 3 n24 ≡ Some u1_attributes
unfolding all_types attributes_match matches outcome verdict unbeaten
due_to_d = refl

-- ---- a withdrawal, and the same route again

gone : due (Heard 0 w1 ∷ announced) 1 n24 ≡ None
unfolding all_types attributes_match matches outcome verdict unbeaten
gone = refl

back : due (Heard 0 u1 ∷ Turned [] ∷ Heard 0 w1 ∷ announced) 1 n24 ≡ Some u1_attributes
unfolding all_types attributes_match matches outcome verdict unbeaten
back = refl

-- what was due at the turns: a turn that was refused for a client is none of its turns, and a new connection begins anew
withdrawn_behind_a_turn : dues (Turned [] ∷ Heard 0 w1 ∷ announced) 1 n24 ≡ None ∷ Some u1_attributes ∷ []
unfolding all_types attributes_match matches outcome verdict unbeaten
withdrawn_behind_a_turn = refl

back_before_a_turn : dues (Turned [] ∷ Heard 0 u1 ∷ Heard 0 w1 ∷ announced) 1 n24 ≡ Some u1_attributes ∷ Some u1_attributes ∷ []
unfolding all_types attributes_match matches outcome verdict unbeaten
back_before_a_turn = refl

refused_for_b : dues (Turned (1 ∷ []) ∷ Heard 0 w1 ∷ announced) 1 n24 ≡ Some u1_attributes ∷ []
unfolding all_types attributes_match matches outcome verdict unbeaten
refused_for_b = refl

connected_anew : dues (Came 1 ∷ Left 1 ∷ announced) 1 n24 ≡ []
unfolding all_types attributes_match matches outcome verdict unbeaten
connected_anew = refl

-- ---- a receiver is lost and comes again

receiver_lost : due (Left 1 ∷ announced) 1 n24 ≡ None
unfolding all_types attributes_match matches outcome verdict unbeaten
receiver_lost = refl

receiver_back : due (up 1 open_b (Left 1 ∷ announced)) 1 n24 ≡ Some u1_attributes
unfolding all_types attributes_match matches outcome verdict unbeaten
receiver_back = refl

-- ---- a sender is lost: its routes are gone at once, and when it comes again it holds nothing

sender_lost : due (Left 0 ∷ announced) 1 n24 ≡ None
unfolding all_types attributes_match matches outcome verdict unbeaten
sender_lost = refl

sender_up_again : due (up 0 open_a (Left 0 ∷ announced)) 1 n24 ≡ None
unfolding all_types attributes_match matches outcome verdict unbeaten
sender_up_again = refl

sender_back : due (Heard 0 u5 ∷ up 0 open_a (Left 0 ∷ announced)) 1 n24 ≡ Some u5_attributes
unfolding all_types attributes_match matches outcome verdict unbeaten
sender_back = refl

-- ---- a second connection of a client that isn't Idle changes nothing: there is no move

not_idle : state_in base 0 (hearing 0 two_up) ≡ states.Established
not_idle = refl

-- ---- ROUTE-REFRESH, where the server understands it (RFC 2918, 4)

abbrev understands_refresh : List Move
understands_refresh = up 1 open_b (up 0 open_a (Ruled (record base { top = record base.top { refresh = true } }) ∷ []))

asked_again : (hearing 1 (Heard 1 (m (codes "0017 05 0001 00 01")) ∷ understands_refresh)).items ≡ Message (heard.Refresh 1 1) ∷ (hearing 1 understands_refresh).items
asked_again = refl

again : act_of (session_in base 1) (Message (heard.Refresh 1 1)) (hearing 1 understands_refresh).items ≡ acts.Again
again = refl

-- without it the header is refused
refused : fate (session_in base 1) (hearing 1 (Heard 1 (m (codes "0017 05 0001 00 01")) ∷ two_up)).items ≡ Ends (Some (note_1 1 3 5))
refused = refl

-- ---- other rules: no session ends

abbrev to_b_nothing : Configuration
to_b_nothing = record base { policies = no_policy ∷ record { import = []; export = Own (record rule { tests = record rule.tests { from = None } }) ∷ [] } ∷ no_policy ∷ no_policy ∷ [] }

ruled_out : due (Ruled to_b_nothing ∷ announced) 1 n24 ≡ None
unfolding all_types attributes_match matches outcome verdict unbeaten
ruled_out = refl

b_stays_up : is_established (Ruled to_b_nothing ∷ announced) 1 ≡ true
b_stays_up = refl

-- ---- a limit of one prefix: it may be announced again, and replaced by another, but a second one ends the session

abbrev limited : Configuration
limited = record base { clients = record (client 0 64496) { limit = Some 1 } ∷ client 1 64497 ∷ client 2 64498 ∷ client 3 64499 ∷ [] }

abbrev replaced : List Move
replaced = Heard 0 (m (codes "0033 02 0004 18c63364 0014 40010100 40020602010000fbf0 400304c000020b 18cb0071")) ∷ Heard 0 u1 ∷ Heard 0 u1 ∷ up 0 open_a (Ruled limited ∷ [])

within_the_limit : is_established replaced 0 ≡ true
unfolding all_types
within_the_limit = refl

beyond_the_limit : fate (session_in limited 0) (hearing 0 (Heard 0 u1 ∷ replaced)).items ≡ Ends (Some (note 6 1))
unfolding all_types
beyond_the_limit = refl

-- ---- why sessions end: not yet; with the connection; for want of memory; by the hold timer; by a NOTIFICATION of the client's, and
-- then the connection goes; by one of ours

none_ended : ending_in (hearing 1 (Left 0 ∷ two_up)) ≡ None
none_ended = refl

ended_with_it : ending_in (hearing 0 (Left 0 ∷ two_up)) ≡ Some reasons.Lost
ended_with_it = refl

ended_for_memory : ending_in (hearing 0 (Came 0 ∷ Dropped 0 u1 ∷ two_up)) ≡ Some reasons.Memory
ended_for_memory = refl

ended_by_timer : ending_in (hearing 0 (Saw 90 ∷ Saw 89 ∷ two_up)) ≡ Some reasons.HoldTimer
ended_by_timer = refl

ended_by_client : ending_in (hearing 0 (Left 0 ∷ Heard 0 (m (codes "0018 03 0602 026f6b")) ∷ two_up)) ≡ Some (reasons.Heard (notice_with 6 2 (2 ∷ 0x6f ∷ 0x6b ∷ [])))
ended_by_client = refl

ended_by_server : ending_in (hearing 0 (Heard 0 u1 ∷ replaced)) ≡ Some (reasons.Said (note 6 1))
unfolding all_types
ended_by_server = refl

-- ---- an UPDATE at fault counts, and no other does

one_at_fault : faulted_updates_in (hearing 0 (Heard 0 u1 ∷ at_fault)) ≡ record { count = 1; last = record { withdraw = Some (record { kind = 1; cause = causes.Value }); discard = None; mp_reach = false }; mp_reach = 0 }
unfolding all_types
one_at_fault = refl

none_at_fault : faulted_updates_in (hearing 1 at_fault) ≡ faulted_by []
none_at_fault = refl
