-- More words behind the first than any line of a trace has.
use Rattle.std.proofs.Common.{◌≡◌, ◌<◌, ℕ, List, [], ◌∷◌, length, refl, arith}
use Rattle.std.specs.Prelude.{Option, Err}
use Rattle.rs_trace.specs.declared.trace.LineFault.TheVariants.{WordCount}
use Rattle.rs_trace.specs.declared.trace.Word.{Word}
use Rattle.rs_trace.specs.declared.trace.Word.TheVariants.{Open, Octets, Room, Moment, Turn, Lost, Shutdown, Refresh, More, Rules, Table}
use Rattle.rs_trace.specs.Trace.{meaning_of}

none_of : (place : List ℕ → Option ℕ) (word : Word) (a b c : List ℕ) (ws : List (List ℕ)) → meaning_of place word (a ∷ b ∷ c ∷ ws) ≡ Err WordCount
none_of place Open a b c ws = refl
none_of place Octets a b c ws = refl
none_of place Room a b c ws = refl
none_of place Moment a b c ws = refl
none_of place Turn a b c ws = refl
none_of place Lost a b c ws = refl
none_of place Shutdown a b c ws = refl
none_of place Refresh a b c ws = refl
none_of place More a b c ws = refl
none_of place Rules a b c ws = refl
none_of place Table a b c ws = refl

pub too_many : (place : List ℕ → Option ℕ) (word : Word) (ws : List (List ℕ)) → 2 < length ws → meaning_of place word ws ≡ Err WordCount
too_many place word [] more = absurd (omega arith)
too_many place word (a ∷ []) more = absurd (omega arith)
too_many place word (a ∷ b ∷ []) more = absurd (omega arith)
too_many place word (a ∷ b ∷ c ∷ ws) more = none_of place word a b c ws
