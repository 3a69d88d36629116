use Rattle.std.proofs.Common.{◌≡◌, ◌<◌, ◌^◌, take, true}
use Rattle.std.specs.List.{list_all}
use Rattle.rs_policy.specs.Texts.{is_digit}
use Rattle.rs_trace.specs.Numbers.{value_of}
use Rattle.rs_trace.proofs.number.read_number.Given as goal

-- what was read so far are digits, and this is their value
abbrev pub invariant-loop-octet : goal.invariant-loop-octet
invariant-loop-octet l = (l.value ≡ value_of (take l.octet-index l.text)) × (list_all is_digit (take l.octet-index l.text) ≡ true) × (l.value < 2 ^ 64)
