use Rattle.std.proofs.Common.{◌≡◌, ◌≤◌, true, drop}
use Rattle.std.specs.List.{list_all}
use Rattle.rs_policy.specs.Texts.{is_digit, number_after}
use Rattle.rs_policy.proofs.config.texts.number.Given as goal

abbrev pub invariant-loop-octet : goal.invariant-loop-octet
invariant-loop-octet l = record {
  value : number_after l.value (drop l.octet-index l.text) ≡ number_after 0 l.text;
  digits : list_all is_digit (drop l.octet-index l.text) ≡ true;
  high : l.value ≤ l.high;
}
