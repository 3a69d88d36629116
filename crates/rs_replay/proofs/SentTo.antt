-- What was sent to each client, with an entry more.
use Rattle.std.proofs.Common.{◌≡◌, ◌≢◌, ◌∙◌, ◌==◌, ◌<◌, ◌≤◌, ℕ, Bool, true, false, cond, List, [], ◌∷◌, ◌++◌, length, refl, sym, ap, subst, arith}
use Rattle.std.specs.Prelude.{Option, Some, None, slice_get}
use Rattle.std.proofs.lemmas.List.{append-nil}
use Rattle.std.proofs.lemmas.Option.{slice_get_within}
use Rattle.rs_attrs.specs.declared.mode.Mode.{Mode}
use Rattle.rs_core.specs.Run.Agreeing.{Agrees}
use Rattle.rs_core.specs.Run.Moves.{Move, config_in}
use Rattle.rs_core.specs.Run.Meaning.{hearing}
use Rattle.rs_core.specs.Run.Parts.{SetsAt}
use Rattle.rs_core.specs.Session.Hearing.{mode_in}
use Rattle.rs_core.specs.declared.route_server.Core.{Core}
use Rattle.rs_core.proofs.Run.Clients.{is_own, is_other, same_client}
use Rattle.rs_replay.specs.declared.connection.Connection.{Connection}
use Rattle.rs_replay.specs.Sent.{begins, given, sent_to}
use Rattle.rs_replay.specs.SentLines.{Said, Began, Gave, Behind}
use Rattle.rs_replay.specs.Taking.{HasTaken, HaveTaken}
use Rattle.rs_replay.proofs.Sending.{since_new, since_on}

-- an entry that gives a client nothing and begins nothing
unsaid : (entries : List Said) (said : Said) (d : ℕ) → begins d said ≡ false → given d said ≡ [] → sent_to (entries ++ said ∷ []) d ≡ sent_to entries d
unsaid entries said d on none = since_on (begins d) (given d) entries said on ∙ ap (λ xs. sent_to entries d ++ xs) none ∙ append-nil (sent_to entries d)

module _ (core : Core) (entries : List Said) where
  -- a list of connections with one written, in which the octets of each other client are as before
  have_set : (said : Said) (c : ℕ) (old new : List Connection) (w : Connection) → SetsAt c w old new
      → ((d : ℕ) → d ≢ c → sent_to (entries ++ said ∷ []) d ≡ sent_to entries d)
      → ((run : List Move) → Agrees core run → (mode : Mode) → mode_in (config_in run) c (hearing c run) ≡ Some mode → HasTaken mode (sent_to (entries ++ said ∷ []) c) w)
      → HaveTaken core entries old → HaveTaken core (entries ++ said ∷ []) new
  have_set said c old new w sets others own have run agrees d connection mode at moded = by_test (c == d) refl
    where
      by_test : (b : Bool) → (c == d) ≡ b → HasTaken mode (sent_to (entries ++ said ∷ []) d) connection
      by_test true e =
          let same : c ≡ d = same_client c d e in
          let here : slice_get new c ≡ Some connection = ap (slice_get new) same ∙ at in
          let is_mode : mode_in (config_in run) c (hearing c run) ≡ Some mode = ap (λ k. mode_in (config_in run) k (hearing k run)) same ∙ moded in
          subst (λ k. HasTaken mode (sent_to (entries ++ said ∷ []) k) connection) same
          (subst (λ x. HasTaken mode (sent_to (entries ++ said ∷ []) c) x) (sym (sets.own connection here)) (own run agrees mode is_mode))
      by_test false e =
          let ne : d ≢ c = λ same. let bad : true ≡ false = sym (is_own c) ∙ ap (λ k. c == k) (sym same) ∙ e in cc in
          subst (λ xs. HasTaken mode xs connection) (sym (others d ne)) (have run agrees d connection mode (sym (sets.others d ne) ∙ at) moded)

  -- with no list written
  have_same : (said : Said) (old : List Connection)
      → ((run : List Move) → Agrees core run → (d : ℕ) (mode : Mode) → d < length old → mode_in (config_in run) d (hearing d run) ≡ Some mode → sent_to (entries ++ said ∷ []) d ≡ sent_to entries d)
      → HaveTaken core entries old → HaveTaken core (entries ++ said ∷ []) old
  have_same said old same have run agrees d connection mode at moded =
      subst (λ xs. HasTaken mode xs connection) (sym (same run agrees d mode (slice_get_within old d connection at) moded)) (have run agrees d connection mode at moded)

  other_began : (c d : ℕ) → d ≢ c → sent_to (entries ++ Began c ∷ []) d ≡ sent_to entries d
  other_began c d ne = unsaid entries (Began c) d (is_other d c ne) refl

  other_gave : (c d : ℕ) (octets : List ℕ) → d ≢ c → sent_to (entries ++ Gave c octets ∷ []) d ≡ sent_to entries d
  other_gave c d octets ne = unsaid entries (Gave c octets) d refl (ap (λ b. cond b octets []) (is_other d c ne))

  -- a connection is there
  pub have_begun : (c : ℕ) (old new : List Connection) (fresh : Connection) → SetsAt c fresh old new → ((mode : Mode) → HasTaken mode [] fresh)
      → HaveTaken core entries old → HaveTaken core (entries ++ Began c ∷ []) new
  have_begun c old new fresh sets none =
      have_set (Began c) c old new fresh sets (other_began c)
      (λ run agrees mode moded. subst (λ xs. HasTaken mode xs fresh) (sym (since_new (begins c) (given c) entries (Began c) (is_own c))) (none mode))

  -- of a client that isn't there
  pub have_begun_beyond : (c : ℕ) (old : List Connection) → length old ≤ c → HaveTaken core entries old → HaveTaken core (entries ++ Began c ∷ []) old
  have_begun_beyond c old beyond =
      have_same (Began c) old (λ run agrees d mode lt moded. other_began c d (λ same. absurd (omega (arith, same, lt, beyond))))

  -- octets are sent to a client
  pub have_given : (c : ℕ) (octets : List ℕ) (m : Mode) (old new : List Connection) (x w : Connection) → slice_get old c ≡ Some x → SetsAt c w old new
      → ((run : List Move) → Agrees core run → Some m ≡ mode_in (config_in run) c (hearing c run))
      → ((before : List ℕ) → HasTaken m before x → HasTaken m (before ++ octets) w)
      → HaveTaken core entries old → HaveTaken core (entries ++ Gave c octets ∷ []) new
  have_given c octets m old new x w at sets is takes have =
      have_set (Gave c octets) c old new w sets (λ d ne. other_gave c d octets ne)
      (λ run agrees mode moded.
      let same : Some m ≡ Some mode = is run agrees ∙ moded in
      let one : m ≡ mode = cc in
      let all : sent_to (entries ++ Gave c octets ∷ []) c ≡ sent_to entries c ++ octets =
      since_on (begins c) (given c) entries (Gave c octets) refl ∙ ap (λ b. sent_to entries c ++ cond b octets []) (is_own c) in
      subst (λ xs. HasTaken mode xs w) (sym all)
      (subst (λ k. HasTaken k (sent_to entries c ++ octets) w) one (takes (sent_to entries c) (have run agrees c x m at (sym (is run agrees))))))
      have

  -- to one that isn't Established, or isn't there
  pub have_given_none : (c : ℕ) (octets : List ℕ) (old : List Connection) → ((run : List Move) → Agrees core run → None ≡ mode_in (config_in run) c (hearing c run))
      → HaveTaken core entries old → HaveTaken core (entries ++ Gave c octets ∷ []) old
  have_given_none c octets old none =
      have_same (Gave c octets) old (λ run agrees d mode lt moded. other_gave c d octets (λ same.
      let bad : ◌≡◌ {A = Option Mode} None (Some mode) = none run agrees ∙ ap (λ k. mode_in (config_in run) k (hearing k run)) (sym same) ∙ moded in cc))

  pub have_given_beyond : (c : ℕ) (octets : List ℕ) (old : List Connection) → length old ≤ c → HaveTaken core entries old → HaveTaken core (entries ++ Gave c octets ∷ []) old
  have_given_beyond c octets old beyond =
      have_same (Gave c octets) old (λ run agrees d mode lt moded. other_gave c d octets (λ same. absurd (omega (arith, same, lt, beyond))))

  -- nothing is sent
  pub have_behind : (line : ℕ) (old : List Connection) → HaveTaken core entries old → HaveTaken core (entries ++ Behind line ∷ []) old
  have_behind line old = have_same (Behind line) old (λ run agrees d mode lt moded. unsaid entries (Behind line) d refl refl)
