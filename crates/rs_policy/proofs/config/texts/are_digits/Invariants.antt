use Rattle.std.proofs.Common.{◌≡◌, drop}
use Rattle.std.specs.List.{list_all}
use Rattle.rs_policy.specs.Texts.{is_digit}
use Rattle.rs_policy.proofs.config.texts.are_digits.Given as goal

abbrev pub invariant-loop-octet : goal.invariant-loop-octet
invariant-loop-octet l = list_all is_digit (drop l.octet-index l.text) ≡ list_all is_digit l.text
