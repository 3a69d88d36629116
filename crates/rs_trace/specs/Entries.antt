-- An entry of a trace with the octets that stand in the piece beside it.
use Rattle.std.specs.Prelude.{ℕ, List, take, Option, Some, None, Result, Ok, Err}
use Rattle.rs_trace.specs.declared.trace.LineFault.{LineFault}
use Rattle.rs_trace.specs.declared.trace.Entry.{Entry}
use Rattle.rs_trace.specs.declared.trace.Entry.TheVariants as entries
use Rattle.rs_trace.specs.declared.trace.Entry.TheVariants.{Open, Octets, Room, Moment, Turn, Lost, More, Rules, Table}
use Rattle.rs_trace.specs.Trace.{LineMeaning, Opened, Heard, Offered, Passed, Turned, Left, Commanded, Continued, Replaced, Listed}

abbrev pub meaning_in : List ℕ → Entry → LineMeaning
meaning_in piece (Open c) = Opened c
meaning_in piece (Octets c n) = Heard c (take n piece)
meaning_in piece (Room c n) = Offered c n
meaning_in piece (Moment t) = Passed t
meaning_in piece Turn = Turned
meaning_in piece (Lost c) = Left c
meaning_in piece (entries.Commanded c command) = Commanded c command
meaning_in piece (More n) = Continued (take n piece)
meaning_in piece (Rules n) = Replaced (take n piece)
meaning_in piece (Table c) = Listed c

abbrev pub entry_as_meaning : List ℕ → Result Entry LineFault → Result LineMeaning LineFault
entry_as_meaning piece (Ok entry) = Ok (meaning_in piece entry)
entry_as_meaning piece (Err fault) = Err fault

abbrev pub line_as_meaning : List ℕ → Result (Option Entry) LineFault → Result (Option LineMeaning) LineFault
line_as_meaning piece (Ok None) = Ok None
line_as_meaning piece (Ok (Some entry)) = Ok (Some (meaning_in piece entry))
line_as_meaning piece (Err fault) = Err fault

abbrev pub line_meant : List ℕ → Option Entry → Option LineMeaning
line_meant piece None = None
line_meant piece (Some entry) = Some (meaning_in piece entry)
