-- A trace that was played to its end, and what is there then.
use Rattle.std.specs.Prelude.{ℕ, List, Result, Ok, Err}
use Rattle.rs_policy.specs.Configuration.{Configuration}
use Rattle.rs_trace.specs.declared.names.Names.{Names}
use Rattle.rs_trace.specs.declared.fault.ReplayFault.{ReplayFault}
use Rattle.rs_trace.specs.declared.replay.Played.{Played}
use Rattle.rs_trace.specs.Replays.{AreNamesOf, PlaysTo}

abbrev pub answer_of : Result Played ReplayFault → Result (Unit {0}) ReplayFault
answer_of (Ok played) = Ok tt
answer_of (Err fault) = Err fault

-- It was played to its end by the names of the configuration, and so came to this route server; these names are the configuration's
-- too.
pub record PlaysThrough {R W : Type 0} (settings : Configuration) (takes : R → List ℕ → R → Type 0) (at_end : R → Type 0) (puts : W → List ℕ → W → Type 0)
    (first : R) (to : W) (reader : R) (writer : W) (played : Played) : Type 0 where
  pub names : Names
  pub named : AreNamesOf names settings
  pub told : AreNamesOf played.names settings
  pub plays : PlaysTo settings takes at_end puts names first to reader writer played.core (Ok tt)
