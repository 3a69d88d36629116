-- A trace that was played, and what was told of what another server sent.
use Rattle.std.specs.Prelude.{◌≡◌, ℕ, Bool, true, false, List, None}
use Rattle.rs_policy.specs.Configuration.{Configuration}
use Rattle.rs_trace.specs.declared.fault.ReplayFault.{ReplayFault}
use Rattle.rs_trace.specs.declared.replay.Played.{Played}
use Rattle.rs_trace.specs.Replays.{place_in}
use Rattle.rs_trace.specs.Through.{PlaysThrough}
use Rattle.rs_replay.specs.declared.playing.Outcome.{Outcome}
use Rattle.rs_replay.specs.declared.playing.Outcome.TheVariants.{Good, Differs, BadFile}
use Rattle.rs_replay.specs.Sent.{IsSent, account}
use Rattle.rs_replay.specs.SentLines.{Said}
use Rattle.rs_replay.specs.Taking.{IsBad, Reads}
use Rattle.rs_replay.specs.Telling.{Tells}

-- the text of what another server sent has no fault; and what is due was held against the tables that the octets mean which it says
-- were sent to each client
pub record Compares {W S : Type 0} (puts : W → List ℕ → W → Type 0) (sends : S → List ℕ → S → Type 0) (at_end : S → Type 0) (until : ℕ)
    (played : Played) (sent sent_read : S) (to : W) (same : Bool) (writer : W) : Type 0 where
  pub entries : List Said
  pub reads : Reads sends at_end (place_in played.names) until sent sent_read (account entries None)
  pub tells : Tells puts played.core played.names (λ run. IsSent run entries) to same writer

-- by the outcome it was told that nothing differs, or that something does; nothing of a text that is bad
abbrev pub ComparesBy : {W S : Type 0} → (W → List ℕ → W → Type 0) → (S → List ℕ → S → Type 0) → (S → Type 0) → (S → ℕ) → ℕ → Played → S → S → W → Outcome → W → Type 0
ComparesBy puts sends at_end fails until played sent sent_read to Good writer = Compares puts sends at_end until played sent sent_read to true writer
ComparesBy puts sends at_end fails until played sent sent_read to Differs writer = Compares puts sends at_end until played sent sent_read to false writer
ComparesBy puts sends at_end fails until played sent sent_read to (BadFile fault) writer =
    (writer ≡ to) × IsBad sends at_end fails (place_in played.names) until sent sent_read fault

-- The trace was played to its end, and behind what that put it was told how what was sent to each client differs from what was due to
-- it at its last turn, in the run that the replay came to.
pub record HasCompared {R W S : Type 0} (settings : Configuration) (takes : R → List ℕ → R → Type 0) (at_end : R → Type 0) (puts : W → List ℕ → W → Type 0)
    (sends : S → List ℕ → S → Type 0) (is_over : S → Type 0) (fails : S → ℕ) (until : ℕ) (first : R) (to : W) (sent : S) (reader : R) (writer : W) (sent_read : S)
    (outcome : Outcome) : Type 0 where
  pub played : Played
  pub before : W
  pub through : PlaysThrough settings takes at_end puts first to reader before played
  pub compares : ComparesBy puts sends is_over fails until played sent sent_read before outcome writer
