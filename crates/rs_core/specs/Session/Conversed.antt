-- Which messages a client is sent over a run, as laws of each route server that agrees with it.
use Rattle.std.specs.Prelude.{◌≡◌, ◌⊎◌, ◌<◌, ◌≤◌, ℕ, true, false, List, [], ◌∷◌, ◌++◌, length, Option, Some, None}
use Rattle.std.specs.List.{AllByRecursion}
use Rattle.rs_octets.specs.Messages.{messages_of}
use Rattle.rs_open.specs.Notes.{limit_octets}
use Rattle.rs_open.specs.declared.short.Limit.{Limit}
use Rattle.rs_open.specs.declared.short.Limit.TheVariants as limits
use Rattle.rs_open.specs.declared.short.Short.{Short}
use Rattle.rs_open.specs.declared.writing.ServerOpen.{ServerOpen}
use Rattle.rs_session.specs.Items.{is_connected}
use Rattle.rs_session.specs.Endings.{Fate, Ends}
use Rattle.rs_session.specs.Sessions.{fate, is_live}
use Rattle.rs_outlet.specs.declared.answers.Speech.{Speech}
use Rattle.rs_outlet.specs.Message.Next.{note_octets}
use Rattle.rs_core.specs.Session.Keepalives.{AreKeepalives}
use Rattle.rs_core.specs.Session.Conversations.{IsConversation, Converses, own_open, update_speech}
use Rattle.rs_core.specs.Run.Moves.{Move, config_in}
use Rattle.rs_core.specs.Session.Hearing.{session_in, state_in}
use Rattle.rs_core.specs.Core.{client_count, lent_octets, outgoing, owed}
use Rattle.rs_core.specs.Run.Meaning.{hearing}
use Rattle.rs_core.specs.Told.Telling.{allowed_to, limit_to}
use Rattle.rs_core.specs.Run.Agreeing.{Agrees}
use Rattle.rs_core.specs.declared.route_server.Core.{Core}

-- the message that ends a session, if there is one
abbrev pub last_message : Option Short → List (List ℕ)
last_message None = []
last_message (Some note) = note_octets note ∷ []

-- Octets are the beginning of a conversation: the OPEN, then KEEPALIVEs and UPDATEs, and at most one NOTIFICATION as the last,
-- which is the one that the end of the session asks for.
pub record IsFrontOfConversation (end : Fate) (said : ServerOpen) (speech : Option Speech) (octets : List ℕ) : Type 0 where
  pub missing : List ℕ
  pub last : Option Short
  pub asked : (last ≡ None) ⊎ (end ≡ Ends last)
  pub whole : IsConversation said speech (last_message last) (octets ++ missing)

-- at each point of each run what the link of a client took, and what is still to be said to it, are as its session asks for
pub record SaysAsAsked (core : Core) (run : List Move) (c : ℕ) : Type 0 where
  pub lent : lent_octets core c ≡ (outgoing core c).flight
  pub messages : Converses (session_in (config_in run) c) (own_open (config_in run)) (hearing c run).items (hearing c run).taken (outgoing core c)
  pub keepalives : is_live (state_in (config_in run) c (hearing c run)) ≡ true
      → AreKeepalives (own_open (config_in run)) (limit_to (update_speech (session_in (config_in run) c) (hearing c run).items)) (hearing c run).keepalives ((hearing c run).taken ++ (outgoing core c).flight) (outgoing core c).keepalive_due
  pub idle : is_connected (hearing c run).items ≡ false → owed core c ≡ 0
  pub taken : is_connected (hearing c run).items ≡ true
      → IsFrontOfConversation (fate (session_in (config_in run) c) (hearing c run).items) (own_open (config_in run)) (update_speech (session_in (config_in run) c) (hearing c run).items) (hearing c run).taken

-- cut as one cuts them who takes long messages, these octets have none that is longer than this (RFC 8654, 4)
abbrev pub HasNoneLonger : Limit → List ℕ → Type 0
HasNoneLonger limit octets = AllByRecursion (λ message. length message ≤ limit_octets limit) (messages_of (allowed_to limits.Long) octets)

-- at each point of each run the link of a client took no message that is longer than the client takes
abbrev pub SendsNoneLonger : Type 0
SendsNoneLonger =
    (core : Core) (run : List Move) (c : ℕ) → c < client_count core → Agrees core run → is_connected (hearing c run).items ≡ true
    → HasNoneLonger (limit_to (update_speech (session_in (config_in run) c) (hearing c run).items)) (hearing c run).taken

abbrev pub SendsInOrder : Type 0
SendsInOrder = (core : Core) (run : List Move) (c : ℕ) → c < client_count core → Agrees core run → SaysAsAsked core run c
