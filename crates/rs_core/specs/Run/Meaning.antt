-- What a run means for each client: what befell it, and what RFC 7947 makes due to it.
use Rattle.std.specs.Prelude.{◌≡◌, ◌<◌, ℕ, ◌==◌, true, Bool, ◌&&◌, not, List, [], ◌∷◌, length, Option, Some, None, if◌then◌else◌}
use Rattle.std.specs.List.{list_any}
use Rattle.rs_octets.specs.Prefixes.{Prefix}
use Rattle.rs_attrs.specs.Meaning.{Attribute}
use Rattle.rs_open.specs.declared.open.Open.{Open}
use Rattle.rs_session.specs.Sessions.{agreed_of, limit_by, ends_at}
use Rattle.rs_session.specs.Sessions as sessions
use Rattle.rs_policy.specs.Configuration.{Configuration}
use Rattle.rs_outlet.specs.declared.answers.Speech.{Speech}
use Rattle.rs_outlet.specs.Decided.Due.{Held, due_to}
use Rattle.rs_core.specs.Run.Moves.{Move, Ruled, Came, Heard, Saw, Left, Dropped, Commanded, Turned, Began, Took, config_in}
use Rattle.rs_core.specs.Told.Telling.{Speaks}
use Rattle.rs_core.specs.declared.endings.Ending.TheVariants as reasons
use Rattle.rs_core.specs.Session.Hearing.{Hearing, silence, session_in, state_in, is_up, identifier_in, table_in, hears, begins, sees, commanded, leaves, takes, offers, decides}
use Rattle.rs_core.specs.Told.Points.{dues_at}

-- ---- what is due to a client (RFC 7947, 2.3)

-- how a client is spoken to, by its OPEN: in UPDATEs with AS numbers of so many octets (RFC 6793, 3) that are no longer than
-- this (RFC 8654, 4)
abbrev pub speech_by : Bool → Option Open → Option Speech
speech_by extended None = None
speech_by extended (Some sent) = Some (record { mode = sessions.mode_in sent.four; limit = limit_by extended (Some sent) })

-- while it is Established
abbrev pub speech_in : Configuration → ℕ → Hearing → Option Speech
speech_in s c h = if is_up (state_in s c h) then speech_by s.top.extended (agreed_of (session_in s c) h.items) else None

-- what each client holds and is known by, where this was heard of each: the candidates are chosen from this
abbrev pub held_among : Configuration → (ℕ → Hearing) → Held
held_among s heard = record {
  settings = s;
  count = length s.clients;
  held = λ c p. table_in s c (heard c) p;
  identifier = λ c. identifier_in s c (heard c);
}

abbrev pub due_by : Held → ℕ → Option Speech → Prefix → Option (List Attribute)
due_by held c None p = None
due_by held c (Some speech) p = due_to held c speech p

-- the best of the other clients' routes that the rules pass, where it fits; nothing to a client that isn't Established
abbrev pub due_among : Configuration → (ℕ → Hearing) → ℕ → Prefix → Option (List Attribute)
due_among s heard c p = due_by (held_among s heard) c (speech_in s c (heard c)) p

-- ---- what befell a client

-- it is one of these
abbrev pub is_listed : ℕ → List ℕ → Bool
is_listed c clients = list_any (λ d. d == c) clients

abbrev pub hearing : ℕ → List Move → Hearing
hearing c [] = silence
hearing c (Ruled config ∷ run) = hearing c run
hearing c (Came d ∷ run) = if d == c then begins (hearing c run) else hearing c run
hearing c (Heard d octets ∷ run) = if d == c then hears (config_in run) c octets (hearing c run) else hearing c run
hearing c (Saw t ∷ run) = sees (config_in run) c t (hearing c run)
hearing c (Left d ∷ run) = if d == c then leaves (config_in run) c reasons.Lost (hearing c run) else hearing c run
hearing c (Dropped d octets ∷ run) = if d == c then leaves (config_in run) c reasons.Memory (hearing c run) else hearing c run
hearing c (Commanded d command ∷ run) = if d == c then commanded (config_in run) c command (hearing c run) else hearing c run
hearing c (Turned refused ∷ run) =
    decides (is_up (state_in (config_in run) c (hearing c run)) && not (is_listed c refused)) (due_among (config_in run) (λ d. hearing d run) c) (hearing c run)
hearing c (Began d ∷ run) = offers (d == c) (hearing c run)
hearing c (Took d octets ∷ run) = if d == c then takes octets (hearing c run) else hearing c run

-- the table of a client: what its UPDATEs mean, while it is Established (RFC 4271, 3.2)
abbrev pub table : List Move → ℕ → Prefix → Option (List Attribute)
table run c p = table_in (config_in run) c (hearing c run) p

abbrev pub is_established : List Move → ℕ → Bool
is_established run c = is_up (state_in (config_in run) c (hearing c run))

-- what each client holds and is known by
abbrev pub held_in : List Move → Held
held_in run = held_among (config_in run) (λ c. hearing c run)

-- what is due to a client now
abbrev pub due : List Move → ℕ → Prefix → Option (List Attribute)
due run c p = due_among (config_in run) (λ d. hearing d run) c p

-- what was due to it at the turns since its connection came, while it was Established, the newest first; a turn at which memory
-- was refused for it is none
abbrev pub dues : List Move → ℕ → Prefix → List (Option (List Attribute))
dues run c p = dues_at (hearing c run).points p

-- ---- hold timers (RFC 4271, 6.5)

-- a moment seen next ends the session of this client
abbrev pub is_ended_at : List Move → ℕ → ℕ → Bool
is_ended_at run c t = ends_at (session_in (config_in run) c) (hearing c run).items t

-- of one of so many
abbrev pub EndsSome : List Move → ℕ → ℕ → Type 0
EndsSome run n t = (c : ℕ) × (c < n) × (is_ended_at run c t ≡ true)

-- ---- what a client was told

-- what its link took since its connection came are whole messages, and this table is the meaning of their UPDATEs, as its OPEN asks
-- to be spoken to
abbrev pub IsTold : List Move → ℕ → (Prefix → Option (List Attribute)) → Type 0
IsTold run c table =
    (speech : Speech) → speech_in (config_in run) c (hearing c run) ≡ Some speech → Speaks speech (hearing c run).taken table

-- a client is Established, and its link took whole messages whose UPDATEs mean exactly the table that is due to it
pub record IsServed (run : List Move) (c : ℕ) : Type 0 where
  pub established : is_established run c ≡ true
  pub told : IsTold run c (due run c)
