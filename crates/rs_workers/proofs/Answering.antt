-- The answer of a turn, done or refused.
use Rattle.std.proofs.Common.{◌≡◌, inl, inr}
use Rattle.std.specs.Prelude.{Result, Ok, Err, IfOk, OnErr, IsSome}
use Rattle.rs_adjin.specs.declared.adj_ins.AdjIns.{AdjIns}
use Rattle.rs_policy.specs.Configuration.{Configuration}
use Rattle.rs_outlet.specs.declared.answers.Last.TheVariants.{Done, Refused}
use Rattle.rs_outlet.specs.declared.answers.Turned.{Turned}
use Rattle.rs_outlet.specs.Views.{View, AreNumbered}
use Rattle.rs_outlet.specs.Decided.Turns.{HasTurned, IsCurrent}
use Rattle.rs_workers.specs.Turned.{IsAnswered}

pub answered : {E : Type 0} (config : Configuration) (tables : AdjIns) (old new : View) (result : Result Turned E) → (AreNumbered old tables → IsCurrent config tables old → IfOk result (HasTurned config tables old new))
    → IfOk result (λ turned. new.last ≡ Done turned) → OnErr result (new ≡ record old { last = Refused }) → OnErr result (IsSome old.speech) → IsAnswered config tables old new
answered config tables old new (Ok turned) done last refused up = inl (turned, last, done)
answered config tables old new (Err e) done last refused up = inr (record { up = up; rest = refused })
