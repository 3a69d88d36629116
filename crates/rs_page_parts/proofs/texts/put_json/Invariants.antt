use Rattle.std.proofs.Common.{◌≡◌, ◌++◌, length}
use Rattle.rs_page_parts.specs.Texts.{json_text}
use Rattle.rs_page_parts.proofs.texts.put_json.Given as goal

-- what is left completes the whole
abbrev pub invariant-loop-octet : goal.invariant-loop-octet
invariant-loop-octet l = l.text.items ++ json_text l.rest ≡ l.initial.text.items ++ json_text l.octets

abbrev pub decreases-loop-octet : goal.decreases-loop-octet
decreases-loop-octet l = length l.rest
