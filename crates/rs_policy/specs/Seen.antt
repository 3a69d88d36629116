-- What references to values of a document stand for.
use Rattle.std.specs.Prelude.{ℕ, List, map, Result, Ok, Err}
use Rattle.std.specs.Borrow.{Bor}
use Rattle.toml.specs.Data.{Data}
use Rattle.toml.specs.View.{view}
use Rattle.toml.specs.declared.value.Value.{Value}
use Rattle.rs_policy.specs.declared.faults.ConfigFault.{ConfigFault}

abbrev pub data_of : List Value → List Data
data_of = map view

abbrev pub seen : Result (Bor (List Value)) ConfigFault → Result (List Data) ConfigFault
seen (Ok values) = Ok (data_of values.now)
seen (Err f) = Err f

abbrev pub seen_text : Result (Bor (List ℕ)) ConfigFault → Result (List ℕ) ConfigFault
seen_text (Ok text) = Ok text.now
seen_text (Err f) = Err f
