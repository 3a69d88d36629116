-- What becomes of lines that are printed to a stream which may take nothing.
use Rattle.std.specs.Prelude.{◌≡◌, ◌<◌, ◌+◌, ℕ, zero, suc, List, [], ◌∷◌, ◌++◌, length, decimal, codes}
use Rattle.rs_streams.specs.declared.line_queue.LineQueue.{LineQueue}

-- the stream took these octets, in any pieces
pub data Took {S : Type 0} (takes : S → List ℕ → S → Type 0) : S → List ℕ → S → Type 0 where
  Nothing : (stream : S) → Took takes stream [] stream
  Another : (a b c : S) (octets piece : List ℕ) → Took takes a octets b → takes b piece c → Took takes a (octets ++ piece) c

-- it took a front of these octets, and the rest waits
pub record Goes {S : Type 0} (takes : S → List ℕ → S → Type 0) (before : S) (octets : List ℕ) (after : S) (rest : List ℕ) : Type 0 where
  pub front : List ℕ
  pub took : Took takes before front after
  pub all : front ++ rest ≡ octets

-- the line that says how many lines were dropped; nothing where none was
abbrev pub count_line : ℕ → List ℕ
count_line zero = []
count_line (suc n) = codes "dropped " ++ decimal (suc n) ++ 10 ∷ []

-- A line has come. It waits whole behind all that waited, after the count of the lines that were dropped before it; or it is dropped
-- and counted, where both don't fit with what the stream has not taken.
pub data Comes {S : Type 0} (takes : S → List ℕ → S → Type 0) (line : List ℕ) (old new : LineQueue S) : Type 0 where
  Waits : new.dropped ≡ 0 → Goes takes old.stream (old.waiting ++ (count_line old.dropped ++ line)) new.stream new.waiting → Comes takes line old new
  Drops : (old.dropped < 18446744073709551615 → new.dropped ≡ old.dropped + 1) → 65536 < length new.waiting + length (count_line old.dropped ++ line) → Goes takes old.stream old.waiting new.stream new.waiting → Comes takes line old new
