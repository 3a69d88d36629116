-- A step of a link that is recorded.
use Rattle.std.specs.Prelude.{◌≡◌, Bool, List, ℕ, ◌∷◌}
use Rattle.rs_core.specs.Drives.Steps.{Step}
use Rattle.rs_record.specs.declared.recorder.Recorder.{Recorder}
use Rattle.rs_record.specs.Records.{Keeps}

-- The link within did just this step. The record that had the steps before has this one too, by the same names.
pub record Happens {L T G H K : Type 0} (happens : L → Step → L → Type 0) (is_over : T → Bool) (holds : T → List ℕ)
    (to_link : G) (to_recorder : H) (to_tape : K) (link : L) (recorder : Recorder) (tape : T) (step : Step)
    (to_link2 : G) (to_recorder2 : H) (to_tape2 : K) (link2 : L) (recorder2 : Recorder) (tape2 : T) : Type 0 where
  pub same_link : to_link2 ≡ to_link
  pub same_recorder : to_recorder2 ≡ to_recorder
  pub same_tape : to_tape2 ≡ to_tape
  pub same_names : recorder2.names ≡ recorder.names
  pub linked : happens link step link2
  pub keeps : (went : Bool) (held : List ℕ) (steps : List Step) → Keeps recorder.names.names went held steps recorder.fault (is_over tape) (holds tape) recorder.line.items recorder.pending
      → Keeps recorder.names.names went held (step ∷ steps) recorder2.fault (is_over tape2) (holds tape2) recorder2.line.items recorder2.pending
