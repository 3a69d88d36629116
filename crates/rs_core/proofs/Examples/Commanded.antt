-- The operator's commands, by computation: a session that ends in its midst, and a client that is told its routes again, behind the
-- recorded session first_route.
use Rattle.std.proofs.Common.{◌≡◌, ℕ, true, false, List, [], ◌∷◌, ◌++◌, refl, inl, inr}
use Rattle.std.specs.Prelude.{codes, replicate, Option, Some, None}
use Rattle.rs_attrs.specs.Meaning.{Attribute, all_types}
use Rattle.rs_attrs.proofs.Rows.{u1_attributes}
use Rattle.rs_open.specs.Notes.{shutdown_note}
use Rattle.rs_open.specs.declared.shutdown.ShutdownText.{ShutdownText}
use Rattle.rs_session.specs.declared.act.State.TheVariants as states
use Rattle.rs_session.specs.declared.command.Command.TheVariants.{Stop, Refresh}
use Rattle.rs_session.specs.Sessions.{fate}
use Rattle.rs_policy.specs.Verdicts.{attributes_match, matches, outcome, verdict}
use Rattle.rs_decision.specs.Choice.{unbeaten}
use Rattle.rs_outlet.specs.Message.Next.{note_octets}
use Rattle.rs_core.specs.Run.Moves.{Move, Came, Commanded, Began, Took}
use Rattle.rs_core.specs.Run.Meaning.{hearing, is_established, due}
use Rattle.rs_core.specs.Session.Hearing.{session_in, state_in, ending_in}
use Rattle.rs_core.specs.Session.Conversations.{own_open, update_speech}
use Rattle.rs_core.specs.Session.Conversed.{IsFrontOfConversation}
use Rattle.rs_core.specs.Drives.Answers.{closes}
use Rattle.rs_core.specs.Touched.ByMoves.{Alters}
use Rattle.rs_core.specs.declared.endings.Ending.TheVariants as reasons
use Rattle.rs_core.proofs.Examples.DueRoutes.{base, m, n24}
use Rattle.rs_core.proofs.Examples.FirstRoute.{first_route, in_order}
use Rattle.rs_core.proofs.Examples.Recorded.{announces, keepalive_sent, route, said, tells, tells_more, InOrder}

-- the text "ok", and none
abbrev text : ShutdownText
text = record { octets = 0x6f ∷ 0x6b ∷ replicate 126 0; count = 2 }

abbrev no_text : ShutdownText
no_text = record { octets = replicate 128 0; count = 0 }

-- Cease, Administrative Shutdown (RFC 4486, 4), with the text behind its length (RFC 9003, 2), and without
abbrev shutdown : List ℕ
shutdown = m (codes "0018 03 0602 026f6b")

with_text : note_octets (shutdown_note text) ≡ shutdown
with_text = refl

without_text : note_octets (shutdown_note no_text) ≡ m (codes "0015 03 0602")
without_text = refl

-- ---- a's session is ended, whose route b was told

abbrev stopped : List Move
stopped = Commanded 0 (Stop text) ∷ first_route

is_closing : closes stopped 0 ≡ true
unfolding all_types
is_closing = refl

ended : ending_in (hearing 0 stopped) ≡ Some (reasons.Said (shutdown_note text))
unfolding all_types
ended = refl

b_goes_on : is_established stopped 1 ≡ true
b_goes_on = refl

-- a's route is gone, and that is to be decided for b
none_due : due stopped 1 n24 ≡ None
unfolding all_types attributes_match matches outcome verdict unbeaten
none_due = refl

altered : Alters (Commanded 0 (Stop text)) first_route 1 n24
unfolding all_types
altered = (λ e. let f : ◌≡◌ {A = ℕ} 0 1 = e in cc, λ e. let f : ◌≡◌ {A = Option (List Attribute)} None (Some u1_attributes) = e in cc)

not_for_itself : Alters (Commanded 0 (Stop text)) first_route 0 n24 → ⊥
not_for_itself alters = alters.0 refl

-- the NOTIFICATION is the last that goes to a
abbrev said_all : List Move
said_all = Took 0 shutdown ∷ Began 0 ∷ stopped

taken : (hearing 0 said_all).taken ≡ said ++ keepalive_sent ++ shutdown
unfolding all_types
taken = refl

is_last : IsFrontOfConversation (fate (session_in base 0) (hearing 0 said_all).items) (own_open base) (update_speech (session_in base 0) (hearing 0 said_all).items) (hearing 0 said_all).taken
unfolding all_types
is_last = record {
  missing = [];
  last = Some (shutdown_note text);
  asked = inr refl;
  whole = record { whole = refl; routine = keepalive_sent ∷ []; messages = refl; each = (inl refl, tt) };
}

-- ---- another stop behind the end, and one without a connection, change nothing; before it is Established a session ends, too

ended_once : ending_in (hearing 0 (Commanded 0 (Stop no_text) ∷ stopped)) ≡ ending_in (hearing 0 stopped)
unfolding all_types
ended_once = refl

still_idle : state_in base 2 (hearing 2 (Commanded 2 (Stop text) ∷ first_route)) ≡ states.Idle
still_idle = refl

none_ended : ending_in (hearing 2 (Commanded 2 (Stop text) ∷ first_route)) ≡ None
none_ended = refl

ended_early : ending_in (hearing 2 (Commanded 2 (Stop text) ∷ Came 2 ∷ first_route)) ≡ Some (reasons.Said (shutdown_note text))
ended_early = refl

-- ---- b is told a's route again, though it could not ask for it itself

abbrev again : List Move
again = Began 1 ∷ Took 1 route ∷ Began 1 ∷ Commanded 1 Refresh ∷ first_route

told_twice : InOrder (hearing 1 again).points (Some u1_attributes ∷ Some u1_attributes ∷ []) false
unfolding all_types attributes_match matches outcome verdict unbeaten
told_twice = inl (tells_more (hearing 1 (Commanded 1 Refresh ∷ first_route)).points (said ++ keepalive_sent ++ route) (Some u1_attributes) (Some u1_attributes ∷ []) true (refl, false, in_order)
    (tells (said ++ keepalive_sent ++ route) (announces ∷ []) refl (refl, tt)) refl refl (inr refl))

-- not where it isn't Established, nor by a stop
none_asked : (hearing 2 (Commanded 2 Refresh ∷ first_route)).points ≡ (hearing 2 first_route).points
none_asked = refl

no_request : (hearing 1 (Commanded 1 (Stop text) ∷ first_route)).points ≡ (hearing 1 first_route).points
no_request = refl
