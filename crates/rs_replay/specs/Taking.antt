-- How what another server sent is read: what its connections have taken, and how far a text was read.
use Rattle.std.specs.Prelude.{◌≡◌, ◌+◌, ℕ, Bool, true, false, List, [], ◌∷◌, ◌++◌, length, vec_len, Option, Some, None, Result, Ok, Err, slice_get, ⊤}
use Rattle.std.specs.Global.{Vec}
use Rattle.rs_octets.specs.Messages.{messages_of, rest_of}
use Rattle.rs_attrs.specs.declared.mode.Mode.{Mode}
use Rattle.rs_attrs.specs.Effects.{MeansTable}
use Rattle.rs_core.specs.Core.{client_count}
use Rattle.rs_core.specs.Run.Agreeing.{Agrees}
use Rattle.rs_core.specs.Run.Moves.{Move, config_in}
use Rattle.rs_core.specs.Run.Meaning.{hearing}
use Rattle.rs_core.specs.Session.Hearing.{mode_in}
use Rattle.rs_core.specs.declared.route_server.Core.{Core}
use Rattle.rs_trace.specs.declared.trace.LineFault.{LineFault}
use Rattle.rs_trace.specs.declared.fault.ReplayFault.{ReplayFault}
use Rattle.rs_trace.specs.declared.fault.ReplayFault.TheVariants.{Line, Memory, Reading, Writing}
use Rattle.rs_trace.specs.declared.fault.Stop.TheVariants.{Fault}
use Rattle.rs_trace.specs.Lines as texts
use Rattle.rs_trace.specs.Played.{failures_read}
use Rattle.rs_trace.specs.Text.{lines_of}
use Rattle.rs_replay.specs.declared.connection.Connection.{Connection}
use Rattle.rs_replay.specs.declared.sent.Next.{Next}
use Rattle.rs_replay.specs.declared.sent.Next.TheVariants as nexts
use Rattle.rs_replay.specs.Findings.{Table}
use Rattle.rs_replay.specs.Sendings.{IsReadable, IsUnreadable, MeansSent, NoneResets, SomeResets, allowed, update_in, updates_in, updates_since}
use Rattle.rs_replay.specs.Sent.{Account, Says, account, account_of, behind, sent_to}
use Rattle.rs_replay.specs.SentLines.{Said, said_in}
use Rattle.rs_replay.specs.Telling.{sent_on}

-- ---- a connection

-- these octets were taken since the connection began
abbrev pub HasTaken : Mode → List ℕ → Connection → Type 0
HasTaken mode octets connection = MeansSent mode octets (sent_on connection) × (connection.is_readable ≡ true → connection.rest.items ≡ rest_of allowed octets)

-- behind the messages before it a message was heard, and this is whether the session goes on, and the table then
abbrev pub HearsMessage : Mode → List (List ℕ) → List ℕ → Bool → Table → Type 0
HearsMessage mode before message true table = NoneResets mode (update_in message) × MeansTable (updates_since (before ++ message ∷ [])) mode table
HearsMessage mode before message false table = SomeResets mode (update_in message)

-- behind the messages before them the octets were heard; so many are left, or none where something can't be read
abbrev pub HearsAll : Mode → List (List ℕ) → List ℕ → Option ℕ → Table → Type 0
HearsAll mode before octets (Some left) table =
    (left ≡ length (rest_of allowed octets)) × IsReadable mode octets × MeansTable (updates_since (before ++ messages_of allowed octets)) mode table
HearsAll mode before octets None table = IsUnreadable mode octets

-- of octets behind the messages before them some messages were heard, and this rest is still to be heard
pub record HearsUpTo (mode : Mode) (before : List (List ℕ)) (octets rest : List ℕ) (table : Table) : Type 0 where
  pub heard : List (List ℕ)
  pub messages : messages_of allowed octets ≡ heard ++ messages_of allowed rest
  pub left : rest_of allowed octets ≡ rest_of allowed rest
  pub none_resets : NoneResets mode (updates_in heard)
  pub table_is : MeansTable (updates_since (before ++ heard)) mode table

-- each client's connection has taken the octets that these entries give it
abbrev pub HaveTaken : Core → List Said → List Connection → Type 0
HaveTaken core entries connections =
    (run : List Move) → Agrees core run → (c : ℕ) (connection : Connection) (mode : Mode) → slice_get connections c ≡ Some connection
    → mode_in (config_in run) c (hearing c run) ≡ Some mode → HasTaken mode (sent_to entries c) connection

-- ---- a text

-- Of a text these octets were taken, whose lines say these entries, and line n is the next; `over` says that no more come.
pub record Stands (place : List ℕ → Option ℕ) (until : ℕ) (taken : List ℕ) (over : Type 0) (entries : List Said) (n : ℕ) (r : texts.Reading) : Type 0 where
  pub follows : (more : List ℕ) → (r.is_over ≡ true → more ≡ []) → account_of place until 1 (lines_of (taken ++ more)) ≡ behind entries (account_of place until n (lines_of (r.rest ++ more)))
  pub ended : r.is_over ≡ true → over

-- what line n comes to: no more is said, or it stands so behind the line
abbrev pub ReadsNext : (List ℕ → Option ℕ) → ℕ → List ℕ → Type 0 → List Said → ℕ → texts.Reading → List ℕ → Result Next ReplayFault → Type 0
ReadsNext place until taken over entries n r piece (Ok nexts.Over) = Says place until taken over (account entries None)
ReadsNext place until taken over entries n r piece (Ok nexts.Passed) = Stands place until taken over entries (n + 1) r
ReadsNext place until taken over entries n r piece (Ok (nexts.Said entry)) = Stands place until taken over (entries ++ said_in piece entry ∷ []) (n + 1) r
ReadsNext place until taken over entries n r piece (Err (Line m fault)) = Says place until taken over (account entries (Some (m, fault)))
ReadsNext place until taken over entries n r piece (Err Memory) = ⊥
ReadsNext place until taken over entries n r piece (Err Reading) = ⊤
ReadsNext place until taken over entries n r piece (Err Writing) = ⊥

-- the count of calls that failed, after this answer
abbrev pub fails_by : {A : Type 0} → Result A ReplayFault → ℕ → ℕ
fails_by (Ok value) n = n
fails_by (Err fault) n = failures_read (Some (Fault fault)) n

-- a text was read, and has this account
pub record Reads {R : Type 0} (takes : R → List ℕ → R → Type 0) (at_end : R → Type 0) (place : List ℕ → Option ℕ) (until : ℕ) (first reader : R)
    (says : Account) : Type 0 where
  pub text : List ℕ
  pub taken : takes first text reader
  pub is : Says place until text (at_end reader) says

-- it was read up to line n, and the connections have taken what it says
pub record ReadsUpTo {R : Type 0} (takes : R → List ℕ → R → Type 0) (at_end : R → Type 0) (core : Core) (place : List ℕ → Option ℕ) (until : ℕ)
    (first reader : R) (n : ℕ) (r : texts.Reading) (connections : List Connection) : Type 0 where
  pub text : List ℕ
  pub entries : List Said
  pub taken : takes first text reader
  pub stands : Stands place until text (at_end reader) entries n r
  pub have : HaveTaken core entries connections

-- the fault of a text that can't be read to its end: that of its first line that has one; or reading failed
abbrev pub IsBad : {R : Type 0} → (R → List ℕ → R → Type 0) → (R → Type 0) → (R → ℕ) → (List ℕ → Option ℕ) → ℕ → R → R → ReplayFault → Type 0
IsBad takes at_end fails place until first reader (Line n fault) = (entries : List Said) × Reads takes at_end place until first reader (account entries (Some (n, fault)))
IsBad takes at_end fails place until first reader Memory = ⊥
IsBad takes at_end fails place until first reader Reading = fails reader ≡ failures_read (Some (Fault Reading)) (fails first)
IsBad takes at_end fails place until first reader Writing = ⊥

-- A text was read: to the end of what counts, and the connections have taken what it says; or it is bad, or memory ran out.
abbrev pub ReadsSent : {R : Type 0} → (R → List ℕ → R → Type 0) → (R → Type 0) → (R → ℕ) → Core → (List ℕ → Option ℕ) → ℕ → R → R → Result (Vec Connection) ReplayFault → Type 0
ReadsSent takes at_end fails core place until first reader (Ok connections) =
    (entries : List Said) × Reads takes at_end place until first reader (account entries None) × HaveTaken core entries connections.items
ReadsSent takes at_end fails core place until first reader (Err Memory) = ⊤
ReadsSent takes at_end fails core place until first reader (Err (Line n fault)) = IsBad takes at_end fails place until first reader (Line n fault)
ReadsSent takes at_end fails core place until first reader (Err Reading) = IsBad takes at_end fails place until first reader Reading
ReadsSent takes at_end fails core place until first reader (Err Writing) = IsBad takes at_end fails place until first reader Writing

-- Line n was read, and what it says was taken: what follows counts, or nothing does; or the text is bad, or memory ran out.
abbrev pub TakesLine : {R : Type 0} → (R → List ℕ → R → Type 0) → (R → Type 0) → (R → ℕ) → Core → (List ℕ → Option ℕ) → ℕ → R → R → ℕ → texts.Reading → List Connection → Result Bool ReplayFault → Type 0
TakesLine takes at_end fails core place until first reader n r connections (Ok true) = ReadsUpTo takes at_end core place until first reader (n + 1) r connections
TakesLine takes at_end fails core place until first reader n r connections (Ok false) =
    (entries : List Said) × Reads takes at_end place until first reader (account entries None) × HaveTaken core entries connections
TakesLine takes at_end fails core place until first reader n r connections (Err fault) = ReadsSent takes at_end fails core place until first reader (Err fault)
