-- How many lines of each kind came.
use Rattle.std.specs.Prelude.{ℕ, List, slice_index_or}
use Rattle.rs_live.specs.declared.ports.Line.{Line}
use Rattle.rs_live.specs.declared.ports.Line.TheVariants as lines

-- the kind of a line, by number: whose it is makes no difference
abbrev pub kind_of : Line → ℕ
kind_of (lines.Begin c) = 0
kind_of (lines.Busy c) = 1
kind_of (lines.Close c) = 2
kind_of (lines.Lost c) = 3
kind_of (lines.Memory c) = 4
kind_of (lines.Disabled c) = 5
kind_of lines.Stranger = 6
kind_of (lines.Rules answer) = 6
kind_of (lines.File fault) = 6

-- how many lines of its kind these counts have
abbrev pub counted_in : Line → List ℕ → ℕ
counted_in line counts = slice_index_or counts (kind_of line) 0
